-- Two sides and what they wrote. What one wrote may come to the other at once, late, several times or never.
use Rattle.std.specs.Prelude.{ℕ, ◌+◌, ◌-◌, ◌%◌, ◌<◌, ◌≤◌, ◌&&◌, Bool, true, false, nat_lt, List, [], ◌∷◌, ◌++◌, Option}
use Rattle.std.specs.Prelude.{Some, None, slice_get}
use Rattle.gs_enet.specs.Record.{PeerRecord, Content, Connect, VerifyConnect, Disconnect, Message, channels}
use Rattle.gs_enet.specs.Record.{heard_count, at_moment, connecting, accepting}
use Rattle.gs_enet.specs.Receive.{expected, command_received, datagram_taken}
use Rattle.gs_enet.specs.Steps.{next_number, can_send, with_message, closed, told_next, timed}
use Rattle.gs_enet.specs.Write.{Item, Answers, Orders, item_command, next_items, wrote_next, items_datagram}

-- a datagram that a side wrote: the side's record then, and what the datagram says
pub record Written : Type 0 where
  pub by : PeerRecord
  pub items : List Item

-- a side, and all that it wrote, in order
pub record Side : Type 0 where
  pub peer : PeerRecord
  pub wrote : List Written

pub record World : Type 0 where
  pub left : Side
  pub right : Side

-- ---- what may happen

-- what a side's user does
pub data WorldAct : Type 0 where
  Send : (channel : ℕ) → (bytes : List ℕ) → WorldAct
  Close : WorldAct
  Tell : WorldAct
  Time : (now : ℕ) → WorldAct
  Write : (now : ℕ) → WorldAct

-- An act of a side, or a datagram that comes: of those that the other side wrote the one in that place, from 0, at that
-- moment. A loss is a datagram that never comes.
pub data WorldEvent : Type 0 where
  Left : (act : WorldAct) → WorldEvent
  Right : (act : WorldAct) → WorldEvent
  ToLeft : (which now : ℕ) → WorldEvent
  ToRight : (which now : ℕ) → WorldEvent

abbrev pub sent_if : (sent : Bool) → ℕ → List ℕ → PeerRecord → PeerRecord
sent_if true channel bytes r = with_message channel bytes r
sent_if false channel bytes r = r

-- nothing is given on a channel that isn't there, to a side that isn't connected, or into a full window
abbrev pub sent : ℕ → List ℕ → PeerRecord → PeerRecord
sent channel bytes r = sent_if (nat_lt channel channels && can_send r channel) channel bytes r

abbrev pub one_written : PeerRecord → List Item → List Written
one_written by [] = []
one_written by (x ∷ xs) = record { by = by; items = x ∷ xs } ∷ []

abbrev pub acted : WorldAct → Side → Side
acted (Send channel bytes) s = record s { peer = sent channel bytes s.peer }
acted Close s = record s { peer = closed s.peer }
acted Tell s = record s { peer = told_next s.peer }
acted (Time now) s = record s { peer = timed now s.peer }
acted (Write now) s =
    record {
      peer = wrote_next now s.peer;
      wrote = s.wrote ++ one_written (at_moment now s.peer) (next_items (at_moment now s.peer));
    }

abbrev pub came : Option Written → ℕ → Side → Side
came None now s = s
came (Some w) now s = record s { peer = datagram_taken (items_datagram w.by w.items) now s.peer }

abbrev pub happens : WorldEvent → World → World
happens (Left act) w = record w { left = acted act w.left }
happens (Right act) w = record w { right = acted act w.right }
happens (ToLeft which now) w = record w { left = came (slice_get w.right.wrote which) now w.left }
happens (ToRight which now) w = record w { right = came (slice_get w.left.wrote which) now w.right }

abbrev pub run : List WorldEvent → World → World
run [] w = w
run (e ∷ es) w = run es (happens e w)

-- ---- two new sides

pub data WorldOpening : Type 0 where
  Client : (own connect_id extra now : ℕ) → WorldOpening
  Host : (own other connect_id now : ℕ) → WorldOpening

abbrev pub opened_by : WorldOpening → PeerRecord
opened_by (Client own connect_id extra now) = connecting own connect_id extra now
opened_by (Host own other connect_id now) = accepting own other connect_id now

abbrev pub world_start : WorldOpening → WorldOpening → World
world_start left right = record {
  left = record { peer = opened_by left; wrote = [] };
  right = record { peer = opened_by right; wrote = [] };
}

-- ---- near numbers

-- The message that an answer with these 16 bits is to: the last one with them that its side had heard of, by the
-- count then.
abbrev pub answered_number : ℕ → ℕ → ℕ
answered_number count number = count - (count + 65536 - number) % 65536

abbrev pub IsNearOrder : PeerRecord → Content → ℕ → ℕ → Type 0
IsNearOrder r (Message bytes) channel number =
    (number ≤ expected r channel + 32767) × (expected r channel ≤ number + 32767)
IsNearOrder r Connect channel number = Unit {0}
IsNearOrder r VerifyConnect channel number = Unit {0}
IsNearOrder r Disconnect channel number = Unit {0}

-- A message's number differs by at most 32,767 from the one that its reader expects. The number that an answer to a
-- message is to is at most 32,767 below its reader's next.
abbrev pub IsNearItem : PeerRecord → PeerRecord → Item → Type 0
IsNearItem by r (Answers a) =
    a.channel < channels → next_number r a.channel ≤ answered_number (heard_count by a.channel) a.number + 32767
IsNearItem by r (Orders o) = IsNearOrder r o.content o.channel o.number

-- all of a datagram, item after item
abbrev pub AreNear : PeerRecord → List Item → PeerRecord → Type 0
AreNear by [] r = Unit {0}
AreNear by (x ∷ xs) r = IsNearItem by r x × AreNear by xs (command_received (by.now % 65536) (item_command by x) r)

abbrev pub IsNear : Option Written → ℕ → PeerRecord → Type 0
IsNear None now r = Unit {0}
IsNear (Some w) now r = AreNear w.by w.items (at_moment now r)

abbrev pub IsNearEvent : WorldEvent → World → Type 0
IsNearEvent (ToLeft which now) w = IsNear (slice_get w.right.wrote which) now w.left.peer
IsNearEvent (ToRight which now) w = IsNear (slice_get w.left.wrote which) now w.right.peer
IsNearEvent (Left act) w = Unit {0}
IsNearEvent (Right act) w = Unit {0}

-- each datagram that comes is near
abbrev pub AllNear : List WorldEvent → World → Type 0
AllNear [] w = Unit {0}
AllNear (e ∷ es) w = IsNearEvent e w × AllNear es (happens e w)
