-- When a client asks, and for which frames.
use Rattle.std.specs.Prelude.{ℕ, ◌≡◌, ◌+◌, ◌≤◌, ◌↔◌, true, false, List, ◌∷◌, ◌++◌, Some, None}
use Rattle.gs_frames.specs.declared.range.Range.{Range}
use Rattle.gs_frames.specs.Client.{ClientSettings, HasWindow, Arrival}
use Rattle.gs_frames.specs.Received.{Received, taken, greatest, is_left}
use Rattle.gs_frames.specs.Complete.{complete}
use Rattle.gs_frames.specs.Asks.{asks, newly_asked, as_list}

-- What one more arrival asks for stands behind what was asked for.
abbrev pub ArrivalAsksNewRange : Type 0
ArrivalAsksNewRange =
    (client : ClientSettings) (arrival : Arrival) (came : List Arrival)
    → asks client (arrival ∷ came) ≡ asks client came ++ as_list (newly_asked client arrival came)

-- a frame that isn't complete, and is left now and wasn't before
pub record IsLost (client : ClientSettings) (before now : List Received) (frame : ℕ) : Type 0 where
  pub least : 1 ≤ frame
  pub was_open : is_left client.window before frame ≡ false
  pub is_left_now : is_left client.window now frame ≡ true
  pub not_complete : complete client now frame ≡ None

-- from the least of them to the last frame that is left
pub record IsLostRange (client : ClientSettings) (before now : List Received) (range : Range) : Type 0 where
  pub first_lost : IsLost client before now range.first
  pub none_below : (frame : ℕ) → IsLost client before now frame → range.first ≤ frame
  pub last_left : range.last + client.window ≡ greatest now

-- An arrival asks for a range exactly where a frame that it leaves isn't complete: from the least such frame to the
-- last one that it leaves.
abbrev pub ArrivalAsksForLost : Type 0
ArrivalAsksForLost =
    (client : ClientSettings) (arrival : Arrival) (came : List Arrival) (range : Range) → HasWindow client
    → newly_asked client arrival came ≡ Some range
    ↔ IsLostRange client (taken client came) (taken client (arrival ∷ came)) range

-- It asks for nothing exactly where there is no such frame.
abbrev pub ArrivalAsksForNothing : Type 0
ArrivalAsksForNothing =
    (client : ClientSettings) (arrival : Arrival) (came : List Arrival) → HasWindow client
    → newly_asked client arrival came ≡ None
    ↔ ((frame : ℕ) → IsLost client (taken client came) (taken client (arrival ∷ came)) frame → ⊥)
