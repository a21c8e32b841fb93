-- What a call of a side did, over a side that the value stood for.
use Rattle.std.specs.Prelude.{◌≡◌, ◌≢◌, ℕ, ◌-◌, Bool, true, false, List, [], take, drop, Result, Ok, Err, slice_get}
use Rattle.gs_enet.specs.declared.event.PeerEvent.{PeerEvent}
use Rattle.gs_enet.specs.declared.send_error.SendError.{SendError}
use Rattle.gs_enet.specs.declared.send_error.SendError.TheVariants.{NotOpen, WindowFull, OutOfMemory}
use Rattle.gs_enet.specs.Record.{at_moment}
use Rattle.gs_enet.specs.Steps.{is_open, is_full, can_send, next_number}
use Rattle.gs_enet.specs.Write.{going_out, next_items}
use Rattle.gs_enet.specs.World.{Side, Send, Write, acted, came}
use Rattle.gs_enet.specs.Sides.{all_told}
use Rattle.gs_client_core.specs.declared.asker.Owed.{Owed}
use Rattle.gs_client_core.specs.Owed.{going, all_asked}
use Rattle.gs_store.specs.Named.{is_nameable}
use Rattle.gs_sides.specs.declared.side.ControlSide.{ControlSide}
use Rattle.gs_sides.specs.Standing.{IsSideOf}

-- ---- events

-- the side behind it, and the events that it told
pub record SideTellsAll (x : Side) (events : List PeerEvent) (new : ControlSide) : Type 0 where
  pub events_are : events ≡ x.peer.waiting
  pub stands : IsSideOf new (record x { peer = all_told x.peer })

-- ---- messages

-- a message is given, or why it isn't
abbrev pub SideSends : Side → ℕ → List ℕ → Result ℕ SendError → ControlSide → Type 0
SideSends x channel bytes (Ok number) new = (can_send x.peer channel ≡ true) × (number ≡ next_number x.peer channel)
    × IsSideOf new (acted (Send channel bytes) x)
SideSends x channel bytes (Err NotOpen) new = (is_open x.peer.state ≡ false) × IsSideOf new x
SideSends x channel bytes (Err WindowFull) new = (is_open x.peer.state ≡ true) × (is_full x.peer channel ≡ true)
    × IsSideOf new x
SideSends x channel bytes (Err OutOfMemory) new = (can_send x.peer channel ≡ true) × IsSideOf new x

-- What is owed was given, in order, as far as the side takes it: so many went, and these stay owed.
pub record GivesOwed (x : Side) (owed stays : List Owed) (count : ℕ) (new : ControlSide) : Type 0 where
  pub count_is : count ≡ going x.peer owed
  pub stays_are : stays ≡ drop count owed
  pub stands : IsSideOf new (record x { peer = all_asked (take count owed) x.peer })

-- ---- datagrams

-- the datagram of that number of those that the other side wrote comes, where it can be named
abbrev pub SideTakes : Side → Side → ℕ → ℕ → Bool → List PeerEvent → ControlSide → Type 0
SideTakes x other number now true events new = (is_nameable other.wrote number ≡ true)
    × SideTellsAll (came (slice_get other.wrote (number - 1)) now x) events new
SideTakes x other number now false events new = (is_nameable other.wrote number ≡ false) × IsSideOf new x

-- the next datagram is written, if anything is to be written
abbrev pub SideWritesNext : Side → ℕ → Bool → ControlSide → Type 0
SideWritesNext x now true new = (next_items (at_moment now x.peer) ≢ []) × IsSideOf new (acted (Write now) x)
SideWritesNext x now false new = (going_out (at_moment now x.peer) ≡ []) × IsSideOf new (acted (Write now) x)
