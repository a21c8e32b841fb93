-- each turn is one read, and leaves the number of the tick that it read
use Rattle.std.proofs.Common.{◌≡◌, ◌+◌, ◌-◌, ◌%◌, ◌<◌, length}
use Rattle.gsbench.proofs.views.read_often.Given as goal

abbrev pub invariant-reads : goal.invariant-reads
invariant-reads g l = record {
  reads : length l.viewer.reads ≡ length l.initial.viewer.reads + l.turn;
  last : 0 < l.turn → l.last ≡ (l.turn - 1) % 1000 + 1;
}
