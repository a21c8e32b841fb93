use Rattle.std.proofs.Common.{◌≡◌}
use mathlib.Core.List.{IsPrefix}
use Rattle.left_right.specs.Sides.{view}
use Rattle.gs_capture.proofs.viewer.look.Given as goal

abbrev pub invariant-loop : goal.invariant-loop
invariant-loop g l = record {
  seen : IsPrefix (view l.initial.reader.place).seen (view l.reader.place).seen;
  told : (view l.reader.place).told ≡ (view l.initial.reader.place).told;
  reads : (view l.reader.place).reads ≡ (view l.initial.reader.place).reads;
}
