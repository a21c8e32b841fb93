use Rattle.std.proofs.Common.{◌≡◌}
use Rattle.gs_capture.proofs.tests.has_first.Given as goal

abbrev pub invariant-loop-number : goal.invariant-loop-number
invariant-loop-number g l = l.viewer.capture ≡ l.initial.viewer.capture
