-- What a side does with what it reads.
use Rattle.std.specs.Prelude.{ℕ, ◌+◌, ◌-◌, ◌%◌, ◌==◌, ◌&&◌, not, Bool, true, false, nat_lt, nat_le, List, [], ◌∷◌, find}
use Rattle.std.specs.Prelude.{Option, Some, None, is_some, unwrap_or}
use Rattle.std.specs.List.{filter}
use Rattle.gs_enet_wire.specs.declared.command.Command.{Command}
use Rattle.gs_enet_wire.specs.declared.command.Command.TheVariants as command
use Rattle.gs_enet_wire.specs.declared.datagram.Datagram.{Datagram}
use Rattle.gs_enet.specs.declared.event.PeerEvent.TheVariants as event
use Rattle.gs_enet.specs.declared.state.PeerState.{PeerState}
use Rattle.gs_enet.specs.declared.state.PeerState.TheVariants as state
use Rattle.gs_enet.specs.declared.answer.Answer.{Answer}
use Rattle.gs_enet.specs.Record.{PeerRecord, Content, Connect, VerifyConnect, Disconnect, Message, Order}
use Rattle.gs_enet.specs.Record.{Unacknowledged, channels, control, last_number, heard_count, is_shut, at_moment}
use Rattle.gs_enet.specs.Record.{happened, owing, shut, fresh}

-- ---- messages

-- messages are taken once the connection is up, until it is over
abbrev pub takes_messages : PeerState → Bool
takes_messages state.Connected = true
takes_messages state.Closing = true
takes_messages _ = false

-- the number that the next message of a channel has
abbrev pub expected : PeerRecord → ℕ → ℕ
expected r channel = heard_count r channel + 1

-- how far the number is ahead of the expected one, modulo 2^16
abbrev pub distance : ℕ → ℕ → ℕ
distance number expected = (number + 65536 - expected % 65536) % 65536

-- The next message is told and acknowledged, one that was told before is acknowledged again, and one past a gap is
-- dropped.
abbrev pub message_if : (next behind : Bool) → ℕ → ℕ → List ℕ → Answer → PeerRecord → PeerRecord
message_if true behind channel number bytes a r = owing a (happened (event.Message channel number bytes) r)
message_if false true channel number bytes a r = owing a r
message_if false false channel number bytes a r = r

abbrev pub is_next : ℕ → ℕ → Bool
is_next number expected = (distance number expected == 0) && nat_lt expected last_number

abbrev pub is_behind : ℕ → ℕ → Bool
is_behind number expected = nat_le 32768 (distance number expected)

abbrev pub taken_if : (taken : Bool) → ℕ → ℕ → List ℕ → Answer → PeerRecord → PeerRecord
taken_if true channel number bytes a r =
    message_if (is_next number (expected r channel)) (is_behind number (expected r channel))
    channel (expected r channel) bytes a r
taken_if false channel number bytes a r = r

abbrev pub message_came : ℕ → ℕ → List ℕ → Answer → PeerRecord → PeerRecord
message_came channel number bytes a r =
    taken_if (nat_lt channel channels && takes_messages r.state) channel number bytes a r

-- ---- the answer to a connect

abbrev pub is_connect_content : Content → Bool
is_connect_content Connect = true
is_connect_content VerifyConnect = false
is_connect_content Disconnect = false
is_connect_content (Message bytes) = false

abbrev pub is_connect : Order → Bool
is_connect o = is_connect_content o.content

-- The first one connects a client. One that comes again is acknowledged again.
abbrev pub verified : PeerState → ℕ → Answer → PeerRecord → PeerRecord
verified state.Connecting peer a r =
    owing a (happened event.Connected (record r {
      state = state.Connected;
      other = Some peer;
      unacknowledged = filter (λ u. not (is_connect u.order)) r.unacknowledged;
    }))
verified state.Connected peer a r = owing a r
verified state.Closing peer a r = owing a r
verified state.Accepting peer a r = r
verified state.Shut peer a r = r

abbrev pub verify_if : (own : Bool) → ℕ → Answer → PeerRecord → PeerRecord
verify_if true peer a r = verified r.state peer a r
verify_if false peer a r = r

-- a host ignores it, and a client one with another connect id
abbrev pub verify_came : ℕ → ℕ → Answer → PeerRecord → PeerRecord
verify_came peer connect_id a r = verify_if (is_some r.extra && (connect_id == r.connect_id)) peer a r

-- ---- the other side's disconnect

abbrev pub disconnect_if : (again : Bool) → Answer → PeerRecord → PeerRecord
disconnect_if true a r = owing a r
disconnect_if false a r = owing a (shut (happened event.PeerClosed (record r { disconnected = true })))

-- the first one ends the connection, and each is acknowledged
abbrev pub disconnect_came : Answer → PeerRecord → PeerRecord
disconnect_came a r = disconnect_if r.disconnected a r

-- ---- other commands

abbrev pub answer_if : (answered : Bool) → Answer → PeerRecord → PeerRecord
answer_if true a r = owing a r
answer_if false a r = r

-- a ping, a bandwidth limit or a throttle is acknowledged where it asks for it
abbrev pub other_came : (asks : Bool) → Answer → PeerRecord → PeerRecord
other_came asks a r = answer_if (asks && not (is_shut r.state)) a r

-- ---- acknowledgements

-- a closing side disconnects once all that it sent is acknowledged
abbrev pub leave_if : PeerState → List Unacknowledged → PeerRecord → PeerRecord
leave_if state.Closing [] r =
    record r { last_control = r.last_control + 1; unacknowledged = fresh Disconnect control (r.last_control + 1) ∷ [] }
leave_if _ _ r = r

abbrev pub leaving : PeerRecord → PeerRecord
leaving r = leave_if r.state r.unacknowledged r

-- what it means that a command is acknowledged
abbrev pub connected : PeerState → PeerRecord → PeerRecord
connected state.Accepting r = happened event.Connected (record r { state = state.Connected })
connected _ r = r

abbrev pub acknowledged : Content → PeerRecord → PeerRecord
acknowledged Connect r = r
acknowledged VerifyConnect r = connected r.state r
acknowledged (Message bytes) r = leaving r
acknowledged Disconnect r = shut (happened event.Closed r)

-- the command has that channel, and that number on the wire
abbrev pub is_named : ℕ → ℕ → Unacknowledged → Bool
is_named channel number u = (u.order.channel == channel) && (u.order.number % 65536 == number)

abbrev pub acknowledged_if : Option Unacknowledged → ℕ → ℕ → PeerRecord → PeerRecord
acknowledged_if None channel number r = r
acknowledged_if (Some u) channel number r =
    acknowledged u.order.content (record r {
      unacknowledged = filter (λ v. not (is_named channel number v)) r.unacknowledged;
    })

-- it drops the command that it names, if there is one
abbrev pub acknowledge_came : ℕ → ℕ → PeerRecord → PeerRecord
acknowledge_came channel number r = acknowledged_if (find (is_named channel number) r.unacknowledged) channel number r

-- ---- a datagram

abbrev pub owed_answer : ℕ → ℕ → ℕ → Answer
owed_answer sent channel number = record { channel = channel; number = number; sent = sent; to_disconnect = false }

-- One command, of a datagram with that sent time. What isn't named here is ignored.
unfoldable pub command_received : ℕ → Command → PeerRecord → PeerRecord
command_received sent (command.Acknowledge channel number asks named named_sent) r = acknowledge_came channel named r
command_received sent
    (command.VerifyConnect channel number asks peer incoming outgoing mtu window most incoming_bandwidth
    outgoing_bandwidth throttle_interval acceleration deceleration connect_id) r =
    verify_came peer connect_id (owed_answer sent channel number) r
command_received sent (command.Disconnect channel number asks extra) r =
    disconnect_came (record (owed_answer sent channel number) { to_disconnect = true }) r
command_received sent (command.Ping channel number asks) r = other_came asks (owed_answer sent channel number) r
command_received sent (command.Bandwidth channel number asks incoming outgoing) r =
    other_came asks (owed_answer sent channel number) r
command_received sent (command.Throttle channel number asks interval acceleration deceleration) r =
    other_came asks (owed_answer sent channel number) r
command_received sent (command.Reliable channel number asks bytes) r =
    message_came channel number bytes (owed_answer sent channel number) r
command_received sent _ r = r

abbrev pub all_received : ℕ → List Command → PeerRecord → PeerRecord
all_received sent [] r = r
all_received sent (c ∷ cs) r = all_received sent cs (command_received sent c r)

-- the commands of a datagram, one after the other; its header says nothing but the sent time
abbrev pub datagram_taken : Datagram → ℕ → PeerRecord → PeerRecord
datagram_taken d now r = all_received (unwrap_or d.sent 0) d.commands (at_moment now r)
