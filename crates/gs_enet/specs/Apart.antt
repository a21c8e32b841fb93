-- Two sides, each seen by itself: no order joins the calls of the one to those of the other.
use Rattle.std.specs.Prelude.{ℕ, ◌≡◌, List, [], ◌∷◌, ◌++◌, map}
use Rattle.gs_enet_wire.specs.declared.datagram.Datagram.{Datagram}
use Rattle.gs_enet.specs.Receive.{datagram_taken}
use Rattle.gs_enet.specs.Write.{items_datagram}
use Rattle.gs_enet.specs.World.{Side, Send, Close, Tell, Time, Write, acted, WorldOpening, opened_by}
use Rattle.gs_enet.specs.Laws.{AreInOrder}

-- A call of a side: a message is sent, a datagram is read, the next event is told, time is looked at, the next datagram
-- is written if there is one, or the connection is closed.
pub data SideCall : Type 0 where
  Sends : (channel : ℕ) → (bytes : List ℕ) → SideCall
  Takes : (datagram : Datagram) → SideCall
  Tells : SideCall
  Times : SideCall
  Writes : SideCall
  Closes : SideCall

-- a side from its start: all its calls, in order, each at that one moment
pub record Course : Type 0 where
  pub opening : WorldOpening
  pub now : ℕ
  pub calls : List SideCall

abbrev pub called : ℕ → SideCall → Side → Side
called now (Sends channel bytes) s = acted (Send channel bytes) s
called now (Takes d) s = record s { peer = datagram_taken d now s.peer }
called now Tells s = acted Tell s
called now Times s = acted (Time now) s
called now Writes s = acted (Write now) s
called now Closes s = acted Close s

abbrev pub all_called : ℕ → List SideCall → Side → Side
all_called now [] s = s
all_called now (c ∷ cs) s = all_called now cs (called now c s)

-- the side after all its calls
abbrev pub ended : Course → Side
ended x = all_called x.now x.calls (record { peer = opened_by x.opening; wrote = [] })

-- the datagrams that were read, in order
abbrev pub taken_by : List SideCall → List Datagram
taken_by [] = []
taken_by (Takes d ∷ cs) = d ∷ taken_by cs
taken_by (Sends channel bytes ∷ cs) = taken_by cs
taken_by (Tells ∷ cs) = taken_by cs
taken_by (Times ∷ cs) = taken_by cs
taken_by (Writes ∷ cs) = taken_by cs
taken_by (Closes ∷ cs) = taken_by cs

-- the datagrams that a side wrote, in order
abbrev pub put_by : Side → List Datagram
put_by s = map (λ w. items_datagram w.by w.items) s.wrote

-- The one side took a front of what the other put: the rest, it may be none of it, was lost or is on its way.
abbrev pub TookFront : Course → Course → Type 0
TookFront reader writer = (rest : List Datagram) × (taken_by reader.calls ++ rest ≡ put_by (ended writer))

-- Of two new sides, whatever each user does, where each took a front of what the other put. Nothing says which call of
-- the one came before which of the other.
abbrev pub MessagesInOrderApart : Type 0
MessagesInOrderApart =
    (left right : Course) → TookFront left right → TookFront right left
    → AreInOrder (ended left).peer (ended right).peer × AreInOrder (ended right).peer (ended left).peer
