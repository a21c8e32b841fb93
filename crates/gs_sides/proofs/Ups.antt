-- Whether messages can be given follows from the events that arose.
use Rattle.std.proofs.Common.{◌≡◌, ℕ, Bool, true, false, List, [], ◌∷◌, ◌++◌, Option, Some, None, refl, sym, ap, ◌∙◌}
use Rattle.std.specs.Prelude.{◌&&◌, ◌==◌, nat_lt, is_some, unwrap_or}
use Rattle.std.specs.List.{find}
use Rattle.gs_enet_wire.specs.declared.command.Command.{Command}
use Rattle.gs_enet_wire.specs.declared.command.Command.TheVariants as command
use Rattle.gs_enet_wire.specs.declared.datagram.Datagram.{Datagram}
use Rattle.gs_enet.specs.declared.answer.Answer.{Answer}
use Rattle.gs_enet.specs.declared.event.PeerEvent.{PeerEvent}
use Rattle.gs_enet.specs.declared.event.PeerEvent.TheVariants as event
use Rattle.gs_enet.specs.declared.state.PeerState.{PeerState}
use Rattle.gs_enet.specs.declared.state.PeerState.TheVariants as state
use Rattle.gs_enet.specs.Record.{PeerRecord, Content, Connect, VerifyConnect, Disconnect, Message, GivenMessage, Unacknowledged, channels, is_shut, at_moment}
use Rattle.gs_enet.specs.Record.{happened, shut}
use Rattle.gs_enet.specs.Receive.{takes_messages, expected, is_next, is_behind, message_if, taken_if, verified, verify_if, disconnect_if, answer_if}
use Rattle.gs_enet.specs.Receive.{owed_answer}
use Rattle.gs_enet.specs.Receive.{leave_if, connected, acknowledged, is_named, acknowledged_if, command_received, all_received, datagram_taken}
use Rattle.gs_enet.specs.Steps.{is_open, close_if, closed, had_last_wait, timed_if, timed}
use Rattle.gs_sides.specs.Openness.{open_after, open_after_all}

-- the record is up as its events say, and these messages were given
pub record Follows (was : Bool) (given : List GivenMessage) (r : PeerRecord) : Type 0 where
  pub up : is_open r.state ≡ open_after_all was r.waiting
  pub given_are : r.given ≡ given

pub after_push : (was : Bool) (es : List PeerEvent) (e : PeerEvent)
    → open_after_all was (es ++ e ∷ []) ≡ open_after (open_after_all was es) e
after_push was [] e = refl
after_push was (x ∷ xs) e = after_push (open_after was x) xs e

-- an event arises that says that it is up, that it isn't, or neither
rises : (was : Bool) (given : List GivenMessage) (r : PeerRecord) → r.given ≡ given
    → Follows was given (happened event.Connected (record r { state = state.Connected }))
rises was given r same = record { up = sym (after_push was r.waiting event.Connected); given_are = same }

shuts : (was : Bool) (given : List GivenMessage) (e : PeerEvent) (r : PeerRecord) → r.given ≡ given
    → open_after (open_after_all was r.waiting) e ≡ false → Follows was given (shut (happened e r))
shuts was given e r same over = record { up = sym (after_push was r.waiting e ∙ over); given_are = same }

tells : (was : Bool) (given : List GivenMessage) (channel number : ℕ) (bytes : List ℕ) (r : PeerRecord) → Follows was given r
    → Follows was given (happened (event.Message channel number bytes) r)
tells was given channel number bytes r h =
    record { up = h.up ∙ sym (after_push was r.waiting (event.Message channel number bytes)); given_are = h.given_are }

-- ---- what is read

leaves : (was : Bool) (given : List GivenMessage) (s : PeerState) (us : List Unacknowledged) (r : PeerRecord) → Follows was given r
    → Follows was given (leave_if s us r)
leaves was given state.Closing [] r h = record { up = h.up; given_are = h.given_are }
leaves was given state.Closing (u ∷ us) r h = h
leaves was given state.Connecting us r h = h
leaves was given state.Accepting us r h = h
leaves was given state.Connected us r h = h
leaves was given state.Shut us r h = h

connects : (was : Bool) (given : List GivenMessage) (s : PeerState) (r : PeerRecord) → Follows was given r
    → Follows was given (connected s r)
connects was given state.Accepting r h = rises was given r h.given_are
connects was given state.Connecting r h = h
connects was given state.Connected r h = h
connects was given state.Closing r h = h
connects was given state.Shut r h = h

acknowledges : (was : Bool) (given : List GivenMessage) (content : Content) (r : PeerRecord) → Follows was given r
    → Follows was given (acknowledged content r)
acknowledges was given Connect r h = h
acknowledges was given VerifyConnect r h = connects was given r.state r h
acknowledges was given (Message bytes) r h = leaves was given r.state r.unacknowledged r h
acknowledges was given Disconnect r h = shuts was given event.Closed r h.given_are refl

acknowledges_if : (was : Bool) (given : List GivenMessage) (u : Option Unacknowledged) (channel number : ℕ) (r : PeerRecord)
    → Follows was given r → Follows was given (acknowledged_if u channel number r)
acknowledges_if was given None channel number r h = h
acknowledges_if was given (Some u) channel number r h =
    acknowledges was given u.order.content _ (record { up = h.up; given_are = h.given_are })

verifies : (was : Bool) (given : List GivenMessage) (s : PeerState) (peer : ℕ) (a : Answer) (r : PeerRecord) → Follows was given r
    → Follows was given (verified s peer a r)
verifies was given state.Connecting peer a r h =
    record { up = sym (after_push was r.waiting event.Connected); given_are = h.given_are }
verifies was given state.Connected peer a r h = record { up = h.up; given_are = h.given_are }
verifies was given state.Closing peer a r h = record { up = h.up; given_are = h.given_are }
verifies was given state.Accepting peer a r h = h
verifies was given state.Shut peer a r h = h

verifies_if : (was : Bool) (given : List GivenMessage) (b : Bool) (peer : ℕ) (a : Answer) (r : PeerRecord) → Follows was given r
    → Follows was given (verify_if b peer a r)
verifies_if was given true peer a r h = verifies was given r.state peer a r h
verifies_if was given false peer a r h = h

disconnects : (was : Bool) (given : List GivenMessage) (b : Bool) (a : Answer) (r : PeerRecord) → Follows was given r
    → Follows was given (disconnect_if b a r)
disconnects was given true a r h = record { up = h.up; given_are = h.given_are }
disconnects was given false a r h =
    record { up = sym (after_push was r.waiting event.PeerClosed); given_are = h.given_are }

answers : (was : Bool) (given : List GivenMessage) (b : Bool) (a : Answer) (r : PeerRecord) → Follows was given r
    → Follows was given (answer_if b a r)
answers was given true a r h = record { up = h.up; given_are = h.given_are }
answers was given false a r h = h

messages : (was : Bool) (given : List GivenMessage) (next behind : Bool) (channel number : ℕ) (bytes : List ℕ) (a : Answer) (r : PeerRecord)
    → Follows was given r → Follows was given (message_if next behind channel number bytes a r)
messages was given true behind channel number bytes a r h =
    let told = tells was given channel number bytes r h in record { up = told.up; given_are = told.given_are }
messages was given false true channel number bytes a r h = record { up = h.up; given_are = h.given_are }
messages was given false false channel number bytes a r h = h

messages_if : (was : Bool) (given : List GivenMessage) (b : Bool) (channel number : ℕ) (bytes : List ℕ) (a : Answer) (r : PeerRecord)
    → Follows was given r → Follows was given (taken_if b channel number bytes a r)
messages_if was given true channel number bytes a r h =
    messages was given (is_next number (expected r channel)) (is_behind number (expected r channel)) channel (expected r channel) bytes a r h
messages_if was given false channel number bytes a r h = h

receives : (was : Bool) (given : List GivenMessage) (sent : ℕ) (c : Command) (r : PeerRecord) → Follows was given r
    → Follows was given (command_received sent c r)
unfolding command_received
receives was given sent (command.Acknowledge channel number asks named named_sent) r h =
    acknowledges_if was given (find (is_named channel named) r.unacknowledged) channel named r h
receives was given sent (command.VerifyConnect channel number asks peer incoming outgoing mtu window most incoming_bandwidth
    outgoing_bandwidth throttle_interval acceleration deceleration connect_id) r h =
    verifies_if was given (is_some r.extra && (connect_id == r.connect_id)) peer (owed_answer sent channel number) r h
receives was given sent (command.Disconnect channel number asks extra) r h =
    disconnects was given r.disconnected (record (owed_answer sent channel number) { to_disconnect = true }) r h
receives was given sent (command.Ping channel number asks) r h =
    answers was given _ (owed_answer sent channel number) r h
receives was given sent (command.Bandwidth channel number asks incoming outgoing) r h =
    answers was given _ (owed_answer sent channel number) r h
receives was given sent (command.Throttle channel number asks interval acceleration deceleration) r h =
    answers was given _ (owed_answer sent channel number) r h
receives was given sent (command.Reliable channel number asks bytes) r h =
    messages_if was given (nat_lt channel channels && takes_messages r.state) channel number bytes (owed_answer sent channel number) r h
receives was given sent (command.Connect c) r h = h
receives was given sent (command.Unreliable channel number asks unreliable bytes) r h = h
receives was given sent (command.Fragment channel number asks start count fragment total offset bytes) r h = h
receives was given sent (command.Unsequenced channel number asks group bytes) r h = h
receives was given sent (command.UnreliableFragment channel number asks start count fragment total offset bytes) r h = h

receives_all : (was : Bool) (given : List GivenMessage) (sent : ℕ) (cs : List Command) (r : PeerRecord) → Follows was given r
    → Follows was given (all_received sent cs r)
receives_all was given sent [] r h = h
receives_all was given sent (c ∷ cs) r h = receives_all was given sent cs (command_received sent c r) (receives was given sent c r h)

pub takes : (was : Bool) (given : List GivenMessage) (d : Datagram) (now : ℕ) (r : PeerRecord) → Follows was given r
    → Follows was given (datagram_taken d now r)
takes was given d now r h =
    receives_all was given (unwrap_or d.sent 0) d.commands (at_moment now r) (record { up = h.up; given_are = h.given_are })

-- ---- time

times_if : (was : Bool) (given : List GivenMessage) (over : Bool) (lost : Option Unacknowledged) (r : PeerRecord) → Follows was given r
    → Follows was given (timed_if over lost r)
times_if was given true lost r h = h
times_if was given false (Some u) r h =
    shuts was given (event.Lost u.order.channel u.order.number) r h.given_are refl
times_if was given false None r h = record { up = h.up; given_are = h.given_are }

pub times : (was : Bool) (given : List GivenMessage) (now : ℕ) (r : PeerRecord) → Follows was given r → Follows was given (timed now r)
unfolding timed
times was given now r h =
    let t : PeerRecord = at_moment now r in
    times_if was given (is_shut t.state) (find (had_last_wait t.now) t.unacknowledged) t (record { up = h.up; given_are = h.given_are })

-- ---- the end

-- what a side is that closed
pub record IsClosed (old new : PeerRecord) : Type 0 where
  pub down : is_open new.state ≡ false
  pub waiting : new.waiting ≡ old.waiting
  pub given : new.given ≡ old.given

leaves_closed : (us : List Unacknowledged) (old r : PeerRecord) → IsClosed old r → IsClosed old (leave_if state.Closing us r)
leaves_closed [] old r h = record { down = h.down; waiting = h.waiting; given = h.given }
leaves_closed (u ∷ us) old r h = h

closes_by : (s : PeerState) (r : PeerRecord) → r.state ≡ s → IsClosed r (close_if s r)
closes_by state.Connected r is =
    leaves_closed r.unacknowledged r (record r { state = state.Closing }) (record { down = refl; waiting = refl; given = refl })
closes_by state.Connecting r is = record { down = ap is_open is; waiting = refl; given = refl }
closes_by state.Accepting r is = record { down = ap is_open is; waiting = refl; given = refl }
closes_by state.Closing r is = record { down = ap is_open is; waiting = refl; given = refl }
closes_by state.Shut r is = record { down = ap is_open is; waiting = refl; given = refl }

pub closes : (r : PeerRecord) → IsClosed r (closed r)
unfolding closed
closes r = closes_by r.state r refl
