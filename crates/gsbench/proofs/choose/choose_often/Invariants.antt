-- as many frames were sent as the number of the last tick
use Rattle.std.proofs.Common.{◌≡◌, ◌+◌}
use Rattle.gs_refs.specs.History.{frames}
use Rattle.gsbench.proofs.choose.choose_often.Given as goal

abbrev pub invariant-ticks : goal.invariant-ticks
invariant-ticks l = record {
  sent : frames l.refs.history + 1 ≡ l.number;
  last : l.last.frame + 1 ≡ l.number;
}
