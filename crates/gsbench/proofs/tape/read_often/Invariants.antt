use Rattle.std.proofs.Common.{◌≡◌}
use Rattle.std.specs.List.{sum_by}
use Rattle.gs_tape.specs.Generated.{generated}
use Rattle.gs_tape.specs.Tick.{unit_bytes}
use Rattle.gsbench.specs.Ticks.{last_unit}
use Rattle.gsbench.proofs.tape.read_often.Given as goal

abbrev pub invariant-turns : goal.invariant-turns
invariant-turns l = record {
  units : l.seen.units ≡ sum_by unit_bytes (generated l.number l.ticks);
  last : l.seen.last ≡ last_unit (generated l.number l.ticks);
}
