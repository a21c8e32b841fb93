-- What a side writes.
use Rattle.std.specs.Prelude.{ℕ, ◌+◌, ◌-◌, ◌%◌, Bool, true, false, if◌then◌else◌, nat_le, List, [], ◌∷◌, ◌++◌, length}
use Rattle.std.specs.Prelude.{map, drop, zero, suc, Option, Some, None, unwrap_or}
use Rattle.std.specs.List.{filter}
use Rattle.gs_enet_wire.specs.declared.command.Command.{Command}
use Rattle.gs_enet_wire.specs.declared.command.Command.TheVariants as command
use Rattle.gs_enet_wire.specs.declared.datagram.Datagram.{Datagram}
use Rattle.gs_enet_wire.specs.Grammar.{command_spelling}
use Rattle.gs_enet.specs.declared.answer.Answer.{Answer}
use Rattle.gs_enet.specs.declared.limits.TheConstants.{WINDOW_BYTES, THROTTLE_INTERVAL, THROTTLE_STEP}
use Rattle.gs_enet.specs.Record.{PeerRecord, Content, Connect, VerifyConnect, Disconnect, Message, Order}
use Rattle.gs_enet.specs.Record.{Unacknowledged}
use Rattle.gs_enet.specs.Record.{channels, control, nobody, datagram_room, is_shut, at_moment}

-- ---- commands on the wire

-- what is written: an answer, or a command that asks for one
pub data Item : Type 0 where
  Answers : (answer : Answer) → Item
  Orders : (order : Order) → Item

-- A number is written modulo 2^16.
abbrev pub wire_number : ℕ → ℕ
wire_number number = number % 65536

-- the connect of a client with this record, and the answer of a host
abbrev pub connect_command : PeerRecord → ℕ → Command
connect_command r number =
    command.Connect (record {
      channel = control;
      number = wire_number number;
      asks = true;
      peer = r.own;
      incoming = 0;
      outgoing = 0;
      mtu = datagram_room;
      window = WINDOW_BYTES;
      channels = channels;
      incoming_bandwidth = 0;
      outgoing_bandwidth = 0;
      throttle_interval = THROTTLE_INTERVAL;
      acceleration = THROTTLE_STEP;
      deceleration = THROTTLE_STEP;
      connect_id = r.connect_id;
      extra = unwrap_or r.extra 0;
    })

abbrev pub verify_command : PeerRecord → ℕ → Command
verify_command r number =
    command.VerifyConnect control (wire_number number) true r.own 0 0 datagram_room WINDOW_BYTES channels 0 0
    THROTTLE_INTERVAL THROTTLE_STEP THROTTLE_STEP r.connect_id

abbrev pub order_command : Content → ℕ → ℕ → PeerRecord → Command
order_command Connect channel number r = connect_command r number
order_command VerifyConnect channel number r = verify_command r number
order_command Disconnect channel number r = command.Disconnect control (wire_number number) true 0
order_command (Message bytes) channel number r = command.Reliable channel (wire_number number) true bytes

abbrev pub item_command : PeerRecord → Item → Command
item_command r (Answers a) = command.Acknowledge a.channel a.number false a.number a.sent
item_command r (Orders o) = order_command o.content o.channel o.number r

-- ---- the next datagram

-- the bytes of a datagram's header: `peerID`, and the sent time (`sentTime`)
abbrev pub header_room : ℕ
header_room = 4

abbrev pub is_due : Unacknowledged → Bool
is_due u = u.due

-- the commands that are to be written; none once the connection is over
abbrev pub due_if : (over : Bool) → List Unacknowledged → List Unacknowledged
due_if true us = []
due_if false us = filter is_due us

-- what is to be written, in order: the answers, then the commands
abbrev pub going_out : PeerRecord → List Item
going_out r =
    map Answers r.pending
    ++ map (λ (u : Unacknowledged). Orders u.order) (due_if (is_shut r.state) r.unacknowledged)

-- the longest front that fits into that many bytes
abbrev pub fitting : PeerRecord → ℕ → List Item → List Item
fitting r room [] = []
fitting r room (x ∷ xs) =
    if nat_le (length (command_spelling (item_command r x))) room
    then x ∷ fitting r (room - length (command_spelling (item_command r x))) xs
    else []

-- what the next datagram says
unfoldable pub next_items : PeerRecord → List Item
next_items r = fitting r (datagram_room - header_room) (going_out r)

-- the first commands that are due, so many, are written
abbrev pub written_once : ℕ → Unacknowledged → Unacknowledged
written_once now u = record u { writes = u.writes + 1; written = now; due = false }

abbrev pub first_written : ℕ → ℕ → List Unacknowledged → List Unacknowledged
first_written now n [] = []
first_written now zero (u ∷ us) = u ∷ us
first_written now (suc n) (u ∷ us) =
    if u.due then written_once now u ∷ first_written now n us else u ∷ first_written now (suc n) us

-- so many of what was to be written is written: answers first, then commands
abbrev pub having_written : ℕ → PeerRecord → PeerRecord
having_written n r =
    record r {
      pending = drop n r.pending;
      unacknowledged = first_written r.now (n - length r.pending) r.unacknowledged;
    }

-- the side after it has written its next datagram at that moment
unfoldable pub wrote_next : ℕ → PeerRecord → PeerRecord
wrote_next now r = having_written (length (next_items (at_moment now r))) (at_moment now r)

-- ---- datagrams

-- the id by which the other side is addressed: its low 12 bits, and nobody's while it isn't known
abbrev pub address : Option ℕ → ℕ
address (Some other) = other % 4096
address None = nobody

abbrev pub items_datagram : PeerRecord → List Item → Datagram
items_datagram r items = record {
  peer = address r.other;
  session = 0;
  sent = Some (r.now % 65536);
  commands = map (item_command r) items;
}

abbrev pub datagram_if : PeerRecord → List Item → Option Datagram
datagram_if r [] = None
datagram_if r (x ∷ xs) = Some (items_datagram r (x ∷ xs))

-- the next datagram at that moment; there is none where nothing is to be written
abbrev pub next_datagram : ℕ → PeerRecord → Option Datagram
next_datagram now r = datagram_if (at_moment now r) (next_items (at_moment now r))

-- every datagram that is written at that moment until nothing is to be written, no more than so many
abbrev pub before_rest : Option Datagram → List Datagram → List Datagram
before_rest None ds = []
before_rest (Some d) ds = d ∷ ds

abbrev pub written_within : ℕ → ℕ → PeerRecord → List Datagram
written_within zero now r = []
written_within (suc n) now r = before_rest (next_datagram now r) (written_within n now (wrote_next now r))

-- Each datagram has an item at least, so that no more datagrams are written than there are items.
abbrev pub written : PeerRecord → ℕ → List Datagram
written r now = written_within (length (going_out r)) now r
