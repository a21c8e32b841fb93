use Rattle.gs_rtsp.proofs.tests.answered.Goals as goal

pub write_response-requires : goal.write_response-requires
write_response-requires c = let read = rw c.in-Whole.is at c.in_ok-value.ensures.whole in c.in_ok-response-in-Whole.ensures.sendable _ read.1
