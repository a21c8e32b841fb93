use Rattle.std.proofs.Common.{length}
use Rattle.gs_rtsp_text.proofs.Counting.{Counted}
use Rattle.gs_rtsp_text.proofs.head.body_size.Given as goal

-- the counts are those of the header lines so far, and what is left to read goes on behind these
abbrev pub invariant-lines : goal.invariant-lines
invariant-lines l = Counted l.kind l.counts.sequences l.counts.given l.counts.size l.bytes l.rest

abbrev pub decreases-lines : goal.decreases-lines
decreases-lines l = length l.rest
