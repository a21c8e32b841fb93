-- Cited by private contracts alone: the candidates of a history, its newest valid frames.
use Rattle.std.specs.Prelude.{ℕ, ◌≡◌, ◌-◌, ◌<◌, ◌≤◌, Bool, false, nat_le, List, [], ◌∷◌, Option, Some, None}
use Rattle.circular_buffer.specs.Buffer.{last_item}
use Rattle.gs_tape.specs.Tick.{Tick}
use Rattle.gs_refs.specs.declared.entry.Entry.{Entry}
use Rattle.gs_refs.specs.declared.candidate.Candidate.{Candidate}
use Rattle.gs_refs.specs.History.{frames, tick_of, is_valid, IsValid}
use Rattle.gs_refs.specs.Choice.{greatest_named}

-- frames, the oldest first, and the greatest that fell out of them
pub record KeptCandidates : Type 0 where
  pub frames : List Candidate
  pub watermark : ℕ

-- no frame between the two is valid
abbrev pub NoneBetween : List Entry → ℕ → ℕ → Type 0
NoneBetween h low high = (v : ℕ) → low < v → v < high → is_valid h v ≡ false

-- they are the valid frames above this one, each with its tick, and their numbers rise
abbrev pub AreValidAbove : List Entry → ℕ → List Candidate → Type 0
AreValidAbove h low [] = (v : ℕ) → low < v → is_valid h v ≡ false
AreValidAbove h low (c ∷ cs) =
    (low < c.frame) × IsValid h c.frame × (tick_of h c.frame ≡ c.tick) × NoneBetween h low c.frame
    × AreValidAbove h c.frame cs

-- the valid frames above the watermark are kept, and the last frame is above it
pub record KeepsValid (h : List Entry) (k : KeptCandidates) : Type 0 where
  pub above : AreValidAbove h k.watermark k.frames
  pub below : k.watermark ≤ frames h - 1

-- the watermark once a frame fell out, if one did
abbrev pub frame_or : Option Candidate → ℕ → ℕ
frame_or None watermark = watermark
frame_or (Some c) watermark = c.frame

abbrev pub reaches_at : ℕ → Option Candidate → Bool
reaches_at frame None = false
reaches_at frame (Some c) = nat_le frame c.frame

-- the last of the frames is this one or above it
abbrev pub reaches : ℕ → List Candidate → Bool
reaches frame cs = reaches_at frame (last_item cs)

-- it is the greatest valid frame that the tick has a unit against, with its tick, if there is one
abbrev pub IsGreatestNamed : List Entry → Tick → Option Candidate → Type 0
IsGreatestNamed h t None = greatest_named h t (frames h) ≡ None
IsGreatestNamed h t (Some c) = (greatest_named h t (frames h) ≡ Some c.frame) × (tick_of h c.frame ≡ c.tick)
