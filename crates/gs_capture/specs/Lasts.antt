-- What a viewer answers of the list that it read.
use Rattle.std.specs.Prelude.{◌≡◌, ℕ, ◌<◌, ◌≤◌, List, length, Some}
use Rattle.std.specs.Arc.{arc_value}
use Rattle.gs_tape.specs.Tick.{Tick, tick_numbered}
use Rattle.gs_capture.specs.declared.newest.Newest.{Newest}
use Rattle.gs_capture.specs.declared.newest.Newest.TheVariants as newest

-- the last tick of the list, or that the list has at most so many
abbrev pub IsNewest : ℕ → List Tick → Newest → Type 0
IsNewest after ticks (newest.Tick t) = (after < length ticks) ×
    (tick_numbered ticks (length ticks) ≡ Some (arc_value t))
IsNewest after ticks newest.NotYet = length ticks ≤ after
