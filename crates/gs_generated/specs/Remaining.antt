-- What remains of a generated file.
use Rattle.std.specs.Prelude.{ℕ, ◌≡◌, ◌≤◌, Bool, true, false, List, [], ◌∷◌, ◌++◌, drop, Option, Some, None}
use Rattle.std.specs.List.{flat_map}
use Rattle.gs_tape.specs.Limits.{most_generated}
use Rattle.gs_tape.specs.Tick.{Tick}
use Rattle.gs_tape.specs.Capture as capture
use Rattle.gs_tape.specs.Generated.{generated, ticks_to_come}
use Rattle.gs_generated.specs.Parting.{IsWithin, parts_left}
use Rattle.gs_generated.specs.declared.pieces.Pieces.{Pieces}
use Rattle.gs_generated.specs.declared.unspelled.Unspelled.{Unspelled}

-- a generated file: the bytes that are left to read
pub record Remaining : Type 0 where
  pub left : List ℕ

-- the ticks that aren't spelled yet, of which the first may be at hand
abbrev pub tick_before : Option Tick → List Tick → List Tick
tick_before None ticks = ticks
tick_before (Some tick) ticks = tick ∷ ticks

abbrev pub ticks_left : Unspelled → List Tick
ticks_left u = tick_before u.tick (ticks_to_come u.generator)

-- their bytes and the end mark, unless that was spelled
abbrev pub bytes_left : Bool → Unspelled → List ℕ
bytes_left true u = []
bytes_left false u = flat_map capture.tick (ticks_left u) ++ 0x45 ∷ []

-- The first of the generated ticks are spelled, and the others are left.
pub record IsUnspelledSound (u : Unspelled) : Type 0 where
  pub few : u.ticks ≤ most_generated
  pub left : ticks_left u ≡ drop u.spelled (generated u.number u.ticks)

-- a part is read no further than its end
pub record IsWhole (p : Pieces) : Type 0 where
  pub sound : IsUnspelledSound p.unspelled
  pub within : IsWithin p.parts

-- what is left of the parts that were spelled last, and what isn't spelled yet
abbrev pub pieces_left : Pieces → List ℕ
pieces_left p = parts_left p.parts ++ bytes_left p.ended p.unspelled
