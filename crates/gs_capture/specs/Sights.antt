-- The rule of what is published, and what each step on it tells.
use Rattle.std.specs.Prelude.{◌≡◌, ℕ, List, [], ◌∷◌, ◌++◌, length, Some, None, IfSome}
use mathlib.Core.Option.{some}
use mathlib.Core.List.{IsPrefix}
use lib.ListN.{get_elem?}
use Rattle.gs_capture.specs.Captures.{Capture, AreCaptured, Viewed, nothing}
use Rattle.gs_capture.specs.Held.{held_or}
use Rattle.gs_capture.specs.declared.sight.Sight.{Sight}

-- nothing seen
abbrev pub unseen : Sight
unseen = record { told = None; seen = []; reads = [] }

-- what a viewer is that knows this
abbrev pub viewed : Sight → Viewed
viewed v = record {
  capture = (held_or nothing (λ t. t) v.told).book;
  audio = (held_or nothing (λ t. t) v.told).audio;
  read = v.seen;
  reads = v.reads;
}

-- two states of one capture
abbrev pub IsOneCapture : Capture → Capture → Type 0
IsOneCapture x y = (x.book ≡ y.book) × (x.audio ≡ y.audio)

-- what is published begins with what was seen
pub record Knows (c : Capture) (v : Sight) : Type 0 where
  pub seen : IsPrefix v.seen c.ticks
  pub told : IfSome v.told (λ t. IsOneCapture t c)

pub record Keeps (c : Capture) (views : List Sight) : Type 0 where
  pub captured : AreCaptured c.audio c.ticks
  pub whole : c.history ≡ c.ticks
  pub known : (seat : ℕ) (v : Sight) → get_elem? views seat ≡ some v → Knows c v

-- the writer knows what it published
abbrev pub Publishes : Sight → Capture → Capture → Sight → Type 0
Publishes v x y w = w ≡ record v { told = Some y; seen = y.ticks }

-- what was published then begins with what this one had seen
pub record Finds (v : Sight) (y : Capture) : Type 0 where
  pub later : IsPrefix v.seen y.ticks
  pub captured : AreCaptured y.audio y.ticks
  pub whole : y.history ≡ y.ticks
  pub told : IfSome v.told (λ t. IsOneCapture t y)

-- a reader saw what was published then
abbrev pub Sees : Sight → Capture → Capture → Sight → Type 0
Sees v x y w = (w ≡ record v { seen = y.ticks; reads = v.reads ++ length y.ticks ∷ [] }) × Finds v y

-- a reader looked at what was published then, which counts as no read
abbrev pub Looks : Sight → Capture → Capture → Sight → Type 0
Looks v x y w = (w ≡ record v { seen = y.ticks }) × Finds v y

-- a reader that is told of its capture
abbrev pub told_sight : Sight → Sight → Sight
told_sight v w = record v { told = w.told }
