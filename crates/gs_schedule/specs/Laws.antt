-- The laws that the crate's public functions prove.
use Rattle.std.specs.Prelude.{◌≡◌, ℕ, List}
use Rattle.gs_schedule.specs.declared.step.Step.{Step}
use Rattle.gs_schedule.specs.declared.output.Output.{Output}
use Rattle.gs_schedule.specs.Step.{Spells}
use Rattle.gs_schedule.specs.Output.{FitsOutputTypes, output_line}

-- a line spells one step at most
abbrev pub LineSpellsOneStep : Type 0
LineSpellsOneStep = (line : List ℕ) (first second : Step) → Spells line first → Spells line second → first ≡ second

-- two values have different output lines
abbrev pub LineHasOneOutput : Type 0
LineHasOneOutput = (first second : Output) → FitsOutputTypes first → FitsOutputTypes second
    → output_line first ≡ output_line second
    → first ≡ second
