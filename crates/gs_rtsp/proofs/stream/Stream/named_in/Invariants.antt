use Rattle.std.proofs.Common.{◌≡◌, drop}
use Rattle.gs_rtsp.specs.Reply.{stream_in}
use Rattle.gs_rtsp.proofs.stream.Stream.named_in.Given as goal

-- the word that stands first in the rest is that of the whole
abbrev pub invariant-loop-i : goal.invariant-loop-i
invariant-loop-i l = stream_in (drop l.i l.target) ≡ stream_in l.target
