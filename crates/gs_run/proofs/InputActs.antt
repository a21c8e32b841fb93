-- What a host does about the message of an event is the event.
use Rattle.std.proofs.Common.{◌≡◌, ℕ, drop, ap, ◌∙◌}
use Rattle.gs_input.specs.declared.event.Event.{Event}
use Rattle.gs_input.specs.Event.{IsEvent}
use Rattle.gs_input.specs.Packet.{packet_of}
use Rattle.gs_input.specs.Laws.{PacketIsRead}
use Rattle.gs_host_core.specs.ActOf.{act_of, act_by}
use Rattle.gs_host_core.proofs.Packets.{of_packet}
use Rattle.gs_run.specs.Message.{Input}
use Rattle.gs_run.specs.UserEvents.{event_message}
use Rattle.gs_run.proofs.Acts.{kind_of_input}

-- by the law of the packets that are written
pub input_read : PacketIsRead → (e : Event) → IsEvent e → act_of (event_message e) ≡ Input e
unfolding act_of
input_read reads e proper =
    ap (λ (kind : ℕ). act_by kind (drop 2 (event_message e))) (kind_of_input e) ∙ of_packet (packet_of e) e (reads e proper)
