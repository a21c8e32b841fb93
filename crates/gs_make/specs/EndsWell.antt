-- The generated run ends well.
use Rattle.std.specs.Prelude.{ℕ, ◌≡◌, ◌≤◌}
use Rattle.gs_tape.specs.Limits.{most_generated}
use Rattle.gs_schedule.specs.declared.status.TrialStatus.TheVariants as status
use Rattle.gs_run.specs.Run.{Run}
use Rattle.gs_run.specs.Generated.{IsGeneratedRun}

-- whatever number it is of, and of however many ticks up to the limit
abbrev pub GeneratedRunsEndWell : Type 0
GeneratedRunsEndWell =
    (number ticks : ℕ) (run : Run) → ticks ≤ most_generated → IsGeneratedRun number ticks run → run.status ≡ status.Ok
