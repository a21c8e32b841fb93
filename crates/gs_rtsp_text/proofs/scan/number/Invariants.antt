use Rattle.std.proofs.Common.{◌≡◌, ◌<◌, ◌^◌, take, drop}
use Rattle.gs_rtsp_text.specs.Reading.{decimal_at}
use Rattle.gs_rtsp_text.proofs.Scans.{with_front, number_behind}
use Rattle.gs_rtsp_text.proofs.scan.number.Given as goal

-- the bytes so far are the front of the number
abbrev pub invariant-loop-i : goal.invariant-loop-i
invariant-loop-i l = record {
  value : l.value < 2 ^ 31;
  none : l.i ≡ 0 → l.value ≡ 0;
  read : decimal_at l.bytes ≡ with_front (take l.i l.bytes) (number_behind l.i l.value (drop l.i l.bytes));
}
