-- The grammar of ENet 1.3: which bytes spell which datagram. A list of bytes is a list of numbers below 256.
use Rattle.std.specs.Prelude.{◌≡◌, ◌≢◌, ℕ, ◌+◌, ◌*◌, ◌/◌, ◌%◌, ◌^◌, ◌<◌, ◌≤◌, Bool, true, false, ◌||◌, if◌then◌else◌}
use Rattle.std.specs.Prelude.{MatchBool, nat_lt, nat_le, ◌==◌, List, [], ◌∷◌, ◌++◌, length, drop, Option, Some, None}
use Rattle.std.specs.Prelude.{is_some, IsSome}
use Rattle.std.specs.List.{flat_map, AllByRecursion}
use Rattle.gs_bytes.specs.Field.{big_bytes, big_from}
pub use Rattle.gs_bytes.specs.Limits.{most_on_link}
use Rattle.gs_enet_wire.specs.declared.command.Command.{Command}
use Rattle.gs_enet_wire.specs.declared.command.Command.TheVariants as command
use Rattle.gs_enet_wire.specs.declared.command.Connect.{Connect}
use Rattle.gs_enet_wire.specs.declared.command.Head.{Head}
use Rattle.gs_enet_wire.specs.declared.read_body.Piece.{Piece}
use Rattle.gs_enet_wire.specs.declared.datagram.Datagram.{Datagram}
use Rattle.gs_enet_wire.specs.declared.reading.DatagramHeader.{DatagramHeader}
use Rattle.gs_enet_wire.specs.declared.error.WireError.{WireError}
use Rattle.gs_enet_wire.specs.declared.error.WireError.TheVariants.{BadDatagram, OutOfMemory}

-- ---- fields

-- a field: how many bytes it takes, and the number in it
abbrev pub WireField : Type 0
WireField = ℕ × ℕ

abbrev pub u8 : ℕ → WireField
u8 n = (1, n)

abbrev pub u16 : ℕ → WireField
u16 n = (2, n)

abbrev pub u32 : ℕ → WireField
u32 n = (4, n)

-- a field's bytes, the highest first
abbrev pub field_bytes : WireField → List ℕ
field_bytes f = big_bytes f.0 f.1

-- the bytes of fields that stand one after the other
abbrev pub fields_bytes : List WireField → List ℕ
fields_bytes fs = flat_map field_bytes fs

-- each number fits its field
abbrev pub Fit : List WireField → Type 0
Fit fs = AllByRecursion (λ f. f.1 < 256 ^ f.0) fs

-- ---- commands

-- what each command begins with
abbrev pub head_of : ℕ → ℕ → Bool → Head
head_of channel number asks = record { channel = channel; number = number; asks = asks }

abbrev pub command_head : Command → Head
command_head (command.Acknowledge channel number asks received received_sent) = head_of channel number asks
command_head (command.Connect c) = head_of c.channel c.number c.asks
command_head (command.VerifyConnect channel number asks peer incoming outgoing mtu window channels incoming_bandwidth
    outgoing_bandwidth throttle_interval acceleration deceleration connect_id) = head_of channel number asks
command_head (command.Disconnect channel number asks extra) = head_of channel number asks
command_head (command.Ping channel number asks) = head_of channel number asks
command_head (command.Reliable channel number asks bytes) = head_of channel number asks
command_head (command.Unreliable channel number asks unreliable bytes) = head_of channel number asks
command_head (command.Fragment channel number asks start count fragment total offset bytes) =
    head_of channel number asks
command_head (command.Unsequenced channel number asks group bytes) = head_of channel number asks
command_head (command.Bandwidth channel number asks incoming outgoing) = head_of channel number asks
command_head (command.Throttle channel number asks interval acceleration deceleration) = head_of channel number asks
command_head (command.UnreliableFragment channel number asks start count fragment total offset bytes) =
    head_of channel number asks

-- which command it is
abbrev pub kind : Command → ℕ
kind (command.Acknowledge channel number asks received received_sent) = 1
kind (command.Connect c) = 2
kind (command.VerifyConnect channel number asks peer incoming outgoing mtu window channels incoming_bandwidth
    outgoing_bandwidth throttle_interval acceleration deceleration connect_id) = 3
kind (command.Disconnect channel number asks extra) = 4
kind (command.Ping channel number asks) = 5
kind (command.Reliable channel number asks bytes) = 6
kind (command.Unreliable channel number asks unreliable bytes) = 7
kind (command.Fragment channel number asks start count fragment total offset bytes) = 8
kind (command.Unsequenced channel number asks group bytes) = 9
kind (command.Bandwidth channel number asks incoming outgoing) = 10
kind (command.Throttle channel number asks interval acceleration deceleration) = 11
kind (command.UnreliableFragment channel number asks start count fragment total offset bytes) = 12

-- the fields that a connect and its answer have in common
abbrev pub shared_fields : Connect → List WireField
shared_fields c =
    u16 c.peer ∷ u8 c.incoming ∷ u8 c.outgoing ∷ u32 c.mtu ∷ u32 c.window ∷ u32 c.channels
    ∷ u32 c.incoming_bandwidth ∷ u32 c.outgoing_bandwidth
    ∷ u32 c.throttle_interval ∷ u32 c.acceleration ∷ u32 c.deceleration ∷ u32 c.connect_id ∷ []

-- the fields of a fragment, be its message reliable or not
abbrev pub piece_fields : Piece → List WireField
piece_fields p = u16 p.start ∷ u16 p.length ∷ u32 p.count ∷ u32 p.fragment ∷ u32 p.total ∷ u32 p.offset ∷ []

-- the fields behind the head; where a command has data, one of them is its length
abbrev pub fields : Command → List WireField
fields (command.Acknowledge channel number asks received received_sent) = u16 received ∷ u16 received_sent ∷ []
fields (command.Connect c) = shared_fields c ++ u32 c.extra ∷ []
fields (command.VerifyConnect channel number asks peer incoming outgoing mtu window channels incoming_bandwidth
    outgoing_bandwidth throttle_interval acceleration deceleration connect_id) =
    shared_fields (record {
      channel = channel;
      number = number;
      asks = asks;
      peer = peer;
      incoming = incoming;
      outgoing = outgoing;
      mtu = mtu;
      window = window;
      channels = channels;
      incoming_bandwidth = incoming_bandwidth;
      outgoing_bandwidth = outgoing_bandwidth;
      throttle_interval = throttle_interval;
      acceleration = acceleration;
      deceleration = deceleration;
      connect_id = connect_id;
      extra = 0;
    })
fields (command.Disconnect channel number asks extra) = u32 extra ∷ []
fields (command.Ping channel number asks) = []
fields (command.Reliable channel number asks bytes) = u16 (length bytes) ∷ []
fields (command.Unreliable channel number asks unreliable bytes) = u16 unreliable ∷ u16 (length bytes) ∷ []
fields (command.Fragment channel number asks start count fragment total offset bytes) =
    piece_fields (record {
      start = start;
      length = length bytes;
      count = count;
      fragment = fragment;
      total = total;
      offset = offset;
    })
fields (command.Unsequenced channel number asks group bytes) = u16 group ∷ u16 (length bytes) ∷ []
fields (command.Bandwidth channel number asks incoming outgoing) = u32 incoming ∷ u32 outgoing ∷ []
fields (command.Throttle channel number asks interval acceleration deceleration) =
    u32 interval ∷ u32 acceleration ∷ u32 deceleration ∷ []
fields (command.UnreliableFragment channel number asks start count fragment total offset bytes) =
    piece_fields (record {
      start = start;
      length = length bytes;
      count = count;
      fragment = fragment;
      total = total;
      offset = offset;
    })

-- the data at the end
abbrev pub payload : Command → List ℕ
payload (command.Reliable channel number asks bytes) = bytes
payload (command.Unreliable channel number asks unreliable bytes) = bytes
payload (command.Fragment channel number asks start count fragment total offset bytes) = bytes
payload (command.Unsequenced channel number asks group bytes) = bytes
payload (command.UnreliableFragment channel number asks start count fragment total offset bytes) = bytes
payload _ = []

-- the fields behind a command's first byte
abbrev pub all_fields : Command → List WireField
all_fields c = u8 (command_head c).channel ∷ u16 (command_head c).number ∷ fields c

-- a command without its first byte
abbrev pub after_first : Command → List ℕ
after_first c = fields_bytes (all_fields c) ++ payload c

-- the bit by which a command asks for an acknowledgement
abbrev pub asking : Bool → ℕ
asking true = 1
asking false = 0

-- A command's first byte: the low four bits say which command it is, and 0x80 asks for an acknowledgement. The bits
-- between, 0x40 (unsequenced), 0x20 and 0x10, are ignored.
pub record IsFirst (byte : ℕ) (c : Command) : Type 0 where
  pub small : byte < 256
  pub low : byte % 16 ≡ kind c
  pub high : byte / 128 ≡ asking (command_head c).asks

-- The bytes are that command, in a datagram that is timed, which is one with a sent time, or isn't. Only in a timed one
-- may a command ask for an acknowledgement, since that names the time.
pub record IsCommand (timed : Bool) (bytes : List ℕ) (c : Command) : Type 0 where
  pub first : ℕ
  pub is_first : IsFirst first c
  pub spelled : bytes ≡ first ∷ after_first c
  pub fit : Fit (all_fields c)
  pub answerable : (command_head c).asks ≡ true → timed ≡ true

-- the bytes are these commands, one after the other
abbrev pub AreCommands : Bool → List ℕ → List Command → Type 0
AreCommands timed bytes [] = bytes ≡ []
AreCommands timed bytes (c ∷ cs) =
    (front rest : List ℕ) × (bytes ≡ front ++ rest) × IsCommand timed front c × AreCommands timed rest cs

-- The bytes don't begin with a command: its number is outside 1 to 12, or it is cut, or it asks for an acknowledgement
-- where the datagram has no sent time.
abbrev pub BeginsNoCommand : Bool → List ℕ → Type 0
BeginsNoCommand timed bytes =
    (c : Command) (front rest : List ℕ) → bytes ≡ front ++ rest → IsCommand timed front c → ⊥

-- ---- datagrams

-- The first two bytes: the peer id in the low 12 bits, the session in bits 12 and 13, compressed in bit 14, and in bit
-- 15 whether a sent time follows.
abbrev pub header_word : Datagram → ℕ
header_word d = d.peer + 4096 * d.session + 32768 * asking (is_some d.sent)

abbrev pub sent_field : Option ℕ → List WireField
sent_field None = []
sent_field (Some time) = u16 time ∷ []

abbrev pub header : Datagram → List WireField
header d = u16 (header_word d) ∷ sent_field d.sent

-- the datagram of that header and those commands
abbrev pub with_header : DatagramHeader → List Command → Datagram
with_header h cs = record { peer = h.peer; session = h.session; sent = h.sent; commands = cs }

-- the header's numbers fit their bits
pub record HasHeader (d : Datagram) : Type 0 where
  pub peer : d.peer < 4096
  pub session : d.session < 4
  pub sent : Fit (sent_field d.sent)

-- the bytes spell that datagram; the most on a link is the protocol's greatest MTU
pub record SpellsDatagram (bytes : List ℕ) (d : Datagram) : Type 0 where
  pub has_header : HasHeader d
  pub some : d.commands ≢ []
  pub short : length bytes ≤ most_on_link
  pub body : List ℕ
  pub spelled : bytes ≡ fields_bytes (header d) ++ body
  pub commands : AreCommands (is_some d.sent) body d.commands

-- ---- faults

-- what the first two bytes say
abbrev pub is_compressed : List ℕ → Bool
is_compressed bytes = big_from 0 2 bytes / 16384 % 2 == 1

abbrev pub is_timed : List ℕ → Bool
is_timed bytes = nat_le 32768 (big_from 0 2 bytes)

abbrev pub datagram_header_length : List ℕ → ℕ
datagram_header_length bytes = if is_timed bytes then 4 else 2

-- Where reading stops in the bytes behind a header of that length: commands stand at the front, and what is left of the
-- bytes doesn't begin with one.
pub record StopsAt (timed : Bool) (start : ℕ) (bytes : List ℕ) (place : ℕ) : Type 0 where
  pub front : List ℕ
  pub rest : List ℕ
  pub parts : bytes ≡ front ++ rest
  pub commands : List Command
  pub before : AreCommands timed front commands
  pub more : rest ≢ []
  pub none : BeginsNoCommand timed rest
  pub at : place ≡ start + length front

-- The place of a datagram's fault, by the first of these causes that holds: too many bytes; no whole header, or a
-- compressed one; no whole sent time; no command; a command at fault.
abbrev pub IsFaultAt : List ℕ → ℕ → Type 0
IsFaultAt bytes place =
    MatchBool (nat_lt most_on_link (length bytes)) (place ≡ most_on_link)
    (MatchBool (nat_lt (length bytes) 2 || is_compressed bytes) (place ≡ 0)
    (MatchBool (nat_lt (length bytes) (datagram_header_length bytes)) (place ≡ 2)
    (MatchBool (length bytes == datagram_header_length bytes) (place ≡ length bytes)
    (StopsAt (is_timed bytes) (datagram_header_length bytes) (drop (datagram_header_length bytes) bytes) place))))

abbrev pub IsFault : List ℕ → WireError → Type 0
IsFault bytes (BadDatagram place) = IsFaultAt bytes place
IsFault bytes OutOfMemory = Unit {0}

-- ---- the one spelling in which each ignored bit is 0

abbrev pub command_spelling : Command → List ℕ
command_spelling c = (kind c + 128 * asking (command_head c).asks) ∷ after_first c

abbrev pub spelling : Datagram → List ℕ
spelling d = fields_bytes (header d) ++ flat_map command_spelling d.commands

-- what can be written
pub record IsWritable (d : Datagram) : Type 0 where
  pub peer : d.peer < 4096
  pub session : d.session ≡ 0
  pub timed : IsSome d.sent
  pub sent : Fit (sent_field d.sent)
  pub some : d.commands ≢ []
  pub short : length (spelling d) ≤ most_on_link
  pub fit : AllByRecursion (λ c. Fit (all_fields c)) d.commands
