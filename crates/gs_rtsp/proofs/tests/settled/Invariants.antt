use Rattle.std.proofs.Common.{◌≡◌, ◌+◌}
use Rattle.gs_rtsp_text.specs.Writing.{IsSendableRequest}
use Rattle.gs_rtsp.specs.Standing.{asked_count, IfAsk}
use Rattle.gs_rtsp.proofs.tests.settled.Given as goal

abbrev pub invariant-loop-round : goal.invariant-loop-round
invariant-loop-round l = (asked_count l.setup ≡ l._round + 1) × IfAsk l.step IsSendableRequest
