use Rattle.std.proofs.Common.{◌≡◌, ◌||◌, nat_lt, take, drop}
use Rattle.gs_rtsp_text.specs.Bytes.{class_test}
use Rattle.gs_rtsp_text.specs.Reading.{token_at}
use Rattle.gs_rtsp_text.proofs.Scans.{with_front}
use Rattle.gs_rtsp_text.proofs.scan.token.Given as goal

-- the bytes so far are the front of the token
abbrev pub invariant-loop-i : goal.invariant-loop-i
invariant-loop-i l =
    token_at (class_test l.class) l.last l.may_end l.bytes ≡ with_front (take l.i l.bytes)
    (token_at (class_test l.class) l.last (l.may_end || nat_lt 0 l.i) (drop l.i l.bytes))
