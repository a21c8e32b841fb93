use Rattle.std.proofs.Common.{◌≡◌}
use Rattle.gs_capture.proofs.tests.read_until.Given as goal

abbrev pub invariant-loop : goal.invariant-loop
invariant-loop g l = l.viewer.capture ≡ l.initial.viewer.capture
