-- What a host does about a message that it is told is what its core says, and on which channel an event goes to it.
use Rattle.std.specs.Prelude.{ℕ}
use Rattle.gs_input.specs.declared.event.Event.{Event}
use Rattle.gs_input.specs.declared.event.Event.TheVariants as event
pub use Rattle.gs_host_core.specs.declared.act.Act.{Act}
pub use Rattle.gs_host_core.specs.declared.act.Act.TheVariants.{Invalidate, AskIdr, Input, Nothing}
pub use Rattle.gs_host_core.specs.ActOf.{act_by, acted_event}
unfoldable pub use Rattle.gs_host_core.specs.ActOf.{act_of}

-- the channel of an event: keys on the one, all else on the other
abbrev pub event_channel : Event → ℕ
event_channel (event.KeyDown code modifiers) = 2
event_channel (event.KeyUp code modifiers) = 2
event_channel _ = 3
