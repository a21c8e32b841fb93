use Rattle.std.proofs.Common.{◌≡◌, ◌≤◌, length, drop}
use Rattle.gs_rtsp_text.specs.Reading.{literal_at}
use Rattle.gs_rtsp_text.proofs.scan.literal.Given as goal

-- the rest of the literal is still to be read
abbrev pub invariant-loop-i : goal.invariant-loop-i
invariant-loop-i l = (l.i ≤ length l.bytes) × (literal_at l.text l.bytes ≡ literal_at (drop l.i l.text) (drop l.i l.bytes))
