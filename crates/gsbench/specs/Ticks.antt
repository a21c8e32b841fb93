-- What is reported of a capture's ticks.
use Rattle.std.specs.Prelude.{ℕ, List, []}
use Rattle.std.specs.List.{fold}
use Rattle.gs_tape.specs.Tick.{Tick}

-- the IDR unit of the last tick, no bytes where there is no tick
abbrev pub last_unit : List Tick → List ℕ
last_unit ticks = fold (λ unit t. t.idr) [] ticks
