use Rattle.std.proofs.Common.{length}
use Rattle.gs_rtsp_text.proofs.Counting.{GoesOn}
use Rattle.gs_rtsp_text.proofs.head.copy_headers.Given as goal

-- what is left to read gives what all of it gives
abbrev pub invariant-lines : goal.invariant-lines
invariant-lines l = GoesOn l.headers.items l.bytes l.rest

abbrev pub decreases-lines : goal.decreases-lines
decreases-lines l = length l.rest
