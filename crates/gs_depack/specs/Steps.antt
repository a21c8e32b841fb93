-- Cited by private contracts alone: what the steps of a depack do to what it noted.
use Rattle.std.specs.Prelude.{ℕ, suc, ◌≡◌, ◌≢◌, ◌+◌, ◌-◌, ◌%◌, ◌<◌, ◌≤◌, ◌⊎◌, Option, Some, None, slice_index}
use Rattle.gs_frames.specs.Client.{most_window}
use Rattle.gs_frames.specs.declared.range.Range.{Range}
use Rattle.gs_depack.specs.declared.depack.Depack.{Depack}
use Rattle.gs_depack.specs.Depack.{noted_kind, HasNoneAbove}

-- a complete frame was put to its place, and the other places are as before
pub record PutsFrame (before now : Depack) (frame kind : ℕ) : Type 0 where
  pub rest : now ≡ record before { frames = now.frames; kinds = now.kinds }
  pub its_frame : slice_index now.frames (frame % most_window) ≡ frame
  pub its_kind : slice_index now.kinds (frame % most_window) ≡ kind
  pub other_frames :
      (i : ℕ) → i < most_window → i ≢ frame % most_window
      → slice_index now.frames i ≡ slice_index before.frames i
  pub other_kinds :
      (i : ℕ) → i < most_window → i ≢ frame % most_window
      → slice_index now.kinds i ≡ slice_index before.kinds i

-- a greater frame is the greatest: nothing is noted above the one before it, and what was of the newest four stays
pub record IsAdvance (before now : Depack) (to : ℕ) : Type 0 where
  pub rest : now ≡ record before { greatest = to; newest = None; frames = now.frames; kinds = now.kinds }
  pub none_above : HasNoneAbove now
  pub older :
      (f : ℕ) → 1 ≤ f → f ≤ before.greatest → before.greatest < f + most_window
      → noted_kind now f ≡ noted_kind before f
  pub newer : (f : ℕ) → before.greatest < f → noted_kind now f ≡ None

-- a frame was noted, and what was noted of those near it stays, or of all where it is the greatest
pub record IsNote (before now : Depack) (frame kind : ℕ) : Type 0 where
  pub rest : now ≡ record before { newest = now.newest; frames = now.frames; kinds = now.kinds }
  pub none_above : HasNoneAbove now
  pub itself : noted_kind now frame ≡ Some kind
  pub others :
      (f : ℕ) → f ≢ frame → (frame ≡ before.greatest) ⊎ ((frame < f + most_window) × (f < frame + most_window))
      → noted_kind now f ≡ noted_kind before f

-- the frames behind the settled ones that were noted are settled
pub record IsSettling (before now : Depack) : Type 0 where
  pub rest : now ≡ record before { settled = now.settled }
  pub more : before.settled ≤ now.settled
  pub within : before.settled ≤ before.greatest → now.settled ≤ before.greatest
  pub noted : (f : ℕ) → before.settled < f → f ≤ now.settled → noted_kind before f ≢ None

-- as many as there are
pub record HasSettled (before now : Depack) : Type 0 where
  pub settling : IsSettling before now
  pub next : now.settled < before.greatest → noted_kind before (suc now.settled) ≡ None

-- the frames that the greatest leaves are settled
pub record LeavesRange (before now : Depack) (range : Range) : Type 0 where
  pub rest : now ≡ record before { settled = before.greatest - before.window }
  pub more : before.settled < before.greatest - before.window
  pub is_range : range ≡ record { first = suc before.settled; last = before.greatest - before.window }

pub record LeavesNone (before now : Depack) : Type 0 where
  pub rest : now ≡ before
  pub no_more : before.greatest - before.window ≤ before.settled
