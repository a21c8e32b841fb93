use Rattle.std.proofs.Common.{◌≡◌, ◌+◌}
use Rattle.gs_rtsp.specs.Standing.{asked_count}
use Rattle.gs_rtsp.proofs.tests.faults_behind.Given as goal

abbrev pub invariant-loop-i : goal.invariant-loop-i
invariant-loop-i l = asked_count l.setup ≡ l.i + 1
