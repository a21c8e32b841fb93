use Rattle.std.proofs.Common.{◌≡◌, ◌∙◌, ◌+◌, ◌-◌, ap, take, drop, arith}
use Rattle.std.specs.Option.{option_copied}
use Rattle.gs_sdp.specs.Lines.{crlf_lines, value_in, later, last_value}
use Rattle.gs_sdp.proofs.Walk.{goes_on, ends, at_start, found_more}
use Rattle.gs_sdp.proofs.lines.last_value.Goals as goal
use Rattle.gs_sdp.proofs.lines.last_value.Goals.{then-byte-eq10, else-byte-eq10}

pub loop-i-preserved : goal.loop-i-preserved
loop-i-preserved c =
    let l = c.loop-i in
    let body = c.args.body.now in
    let name = c.args.name.now in
    elim c.if-byte-eq10.branch [
      | then-byte-eq10 w ↦
          let line = take (l.i - l.start) (drop l.start body) in
          let e : option_copied w.later-found.result ≡ later (option_copied l.found) (value_in name line) =
          w.later-found.ensures ∙ ap (later (option_copied l.found)) w.value_in.ensures in
          rw (w.start-is, w.found-is, e) (record {
            start = omega arith;
            line = at_start body (l.i + 1);
            found = found_more name line (crlf_lines (drop (l.i + 1) body)) (option_copied l.found) (last_value name body) (crlf_lines (drop l.start body))
                (ends body l.start l.i l.invariant.start c.loop-i-test.true w.if-byte-eq10.true l.invariant.line) l.invariant.found;
          })
      | else-byte-eq10 w ↦
          rw (w.start-is, w.found-is) (record {
            start = omega (arith, l.invariant.start);
            line = goes_on body l.start l.i l.invariant.start c.loop-i-test.true w.if-byte-eq10.false l.invariant.line;
            found = l.invariant.found;
          })
    ]
