use Rattle.std.proofs.Common.{◌≡◌, ◌≤◌, ◌-◌, take, drop}
use Rattle.std.specs.Option.{option_copied}
use Rattle.gs_sdp.specs.Lines.{crlf_lines, later, last_among, last_value}
use Rattle.gs_sdp.proofs.Walk.{with_front}
use Rattle.gs_sdp.proofs.lines.last_value.Given as goal

-- the value so far, with the lines from the start of this one on, gives the whole
abbrev pub invariant-loop-i : goal.invariant-loop-i
invariant-loop-i l = record {
  start : l.start ≤ l.i;
  line : crlf_lines (drop l.start l.body) ≡ with_front (take (l.i - l.start) (drop l.start l.body)) (crlf_lines (drop l.i l.body));
  found : later (option_copied l.found) (last_among l.name (crlf_lines (drop l.start l.body))) ≡ last_value l.name l.body;
}
