-- Which frames are handed, and that each arrival adds its own behind those that were handed.
use Rattle.std.specs.Prelude.{ℕ, ◌≡◌, ◌<◌, ◌≤◌, ◌↔◌, true, List, [], ◌∷◌, ◌++◌, length, nat_lt, AllPairs, Contains}
use Rattle.std.specs.List.{filter}
use Rattle.gs_frames.specs.Client.{ClientSettings, HasWindow, Arrival, Reset}
use Rattle.gs_frames.specs.Received.{taken}
use Rattle.gs_frames.specs.Complete.{IsComplete}
use Rattle.gs_frames.specs.Settled.{settled}
use Rattle.gs_frames.specs.Handed.{Handed, settled_at_resets, is_handed, handed, newly_handed}

-- Frames are handed by rising index.
abbrev pub HandedFramesRise : Type 0
HandedFramesRise =
    (client : ClientSettings) (came : List Arrival) → AllPairs (λ a b. a.frame < b.frame) (handed client came)

-- those handed below a frame
abbrev pub handed_below : ClientSettings → List Arrival → ℕ → List Handed
handed_below client came frame = filter (λ h. nat_lt h.frame frame) (handed client came)

-- a settled and complete frame that is to be handed, by those handed below it
pub record IsToHand (client : ClientSettings) (came : List Arrival) (h : Handed) : Type 0 where
  pub least : 1 ≤ h.frame
  pub is_settled : h.frame ≤ settled client (taken client came)
  pub is_complete : IsComplete client (taken client came) h.frame (record { kind = h.kind; unit = h.unit })
  pub is_to_hand : is_handed (settled_at_resets client came) (handed_below client came h.frame) h.frame h.kind ≡ true

-- What is handed is exactly the complete settled frames that aren't barred, and are re-entry frames or follow a handed
-- one.
abbrev pub HandedFramesAreExactly : Type 0
HandedFramesAreExactly =
    (client : ClientSettings) (came : List Arrival) (h : Handed)
    → Contains (handed client came) h ↔ IsToHand client came h

-- What one more arrival hands stands behind what was handed, and none of that is taken back.
abbrev pub ArrivalHandsNewFrames : Type 0
ArrivalHandsNewFrames =
    (client : ClientSettings) (arrival : Arrival) (came : List Arrival)
    → handed client (arrival ∷ came) ≡ handed client came ++ newly_handed client arrival came

-- It hands as many frames as the window has, at most.
abbrev pub ArrivalHandsFewFrames : Type 0
ArrivalHandsFewFrames =
    (client : ClientSettings) (arrival : Arrival) (came : List Arrival) → HasWindow client
    → length (newly_handed client arrival came) ≤ client.window

-- A reset hands none.
abbrev pub ResetHandsNothing : Type 0
ResetHandsNothing = (client : ClientSettings) (came : List Arrival) → newly_handed client Reset came ≡ []
