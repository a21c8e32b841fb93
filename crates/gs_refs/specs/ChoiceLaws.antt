-- What a choice refers to, and what a legal history keeps.
use Rattle.std.specs.Prelude.{ℕ, ◌≡◌, ◌≢◌, ◌⊎◌, ◌<◌, ◌≤◌, true, List, Some}
use Rattle.gs_tape.specs.Tick.{Tick, tick_numbered}
use Rattle.gs_refs.specs.declared.entry.Entry.{Entry}
use Rattle.gs_refs.specs.History.{frames, tick_of, IsValid}
use Rattle.gs_refs.specs.Choice.{Choice, names, choice, IsLegal}

-- an IDR unit refers to nothing; any other to a valid frame, whose tick the tick has a delta against
pub record IsSound (h : List Entry) (t : Tick) (c : Choice) : Type 0 where
  pub known : (c.kind ≡ 1) ⊎ (c.kind ≡ 2) ⊎ (c.kind ≡ 5)
  pub idr_refers_to_none : c.kind ≡ 2 → c.reference ≡ 0
  pub refers_to_valid : c.kind ≢ 2 → IsValid h c.reference
  pub refers_to_named : c.kind ≢ 2 → names t (tick_of h c.reference) ≡ true
  pub follows_last : c.kind ≡ 1 → c.reference ≡ frames h
  pub greatest : c.kind ≡ 5 → (v : ℕ) → IsValid h v → names t (tick_of h v) ≡ true → v ≤ c.reference

abbrev pub ChoiceIsSound : Type 0
ChoiceIsSound = (h : List Entry) (t : Tick) → IsSound h t (choice h t)

-- a valid frame was sent
abbrev pub ValidFramesWereSent : Type 0
ValidFramesWereSent = (h : List Entry) (v : ℕ) → IsValid h v → (1 ≤ v) × (v ≤ frames h)

-- in a legal history a later frame is from a later tick
abbrev pub TicksRise : Type 0
TicksRise =
    (ticks : List Tick) (h : List Entry) (v w : ℕ) → IsLegal ticks h → 1 ≤ v → v < w → w ≤ frames h
    → tick_of h v < tick_of h w

-- and each frame is from a tick of the capture
abbrev pub FramesAreOfTicks : Type 0
FramesAreOfTicks =
    (ticks : List Tick) (h : List Entry) (v : ℕ) → IsLegal ticks h → 1 ≤ v → v ≤ frames h
    → (t : Tick) × (tick_numbered ticks (tick_of h v) ≡ Some t)
