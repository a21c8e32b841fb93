-- as many ticks are appended as the number before the next one
use Rattle.std.proofs.Common.{◌≡◌, ◌+◌, length, false}
use Rattle.gsbench.proofs.views.append_all.Given as goal

abbrev pub invariant-ticks : goal.invariant-ticks
invariant-ticks g l = record {
  appended : length l.recorder.appended + 1 ≡ l.number;
  most : l.recorder.most ≡ l.initial.recorder.most;
  audio : l.recorder.audio ≡ 0;
  unrefused : l.recorder.refused ≡ false;
}
