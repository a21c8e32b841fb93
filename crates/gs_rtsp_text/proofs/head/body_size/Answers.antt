use Rattle.std.proofs.Common.{◌≡◌, ◌∙◌, ℕ, Option, length, ap, true, false}
use Rattle.std.proofs.lemmas.Result.{err_from_is_err_and}
use Rattle.gs_rtsp_text.specs.declared.stop.Stop.TheVariants.{Bad}
use Rattle.gs_rtsp_text.specs.Message.{count_test}
use Rattle.gs_rtsp_text.specs.Reading.{begins_with_cr, empty_line_at}
use Rattle.gs_rtsp_text.proofs.Counting.{behind_line, counted_rest, counted_stop, one_more}
use Rattle.gs_rtsp_text.proofs.Rest.{header_shorter}
use Rattle.gs_rtsp_text.proofs.Within.{lines_stop_within, lines_within}
use Rattle.gs_rtsp_text.proofs.head.body_size.Goals as goal

pub returns-in_err-name-clause-size : goal.returns-in_err-name-clause-size
returns-in_err-name-clause-size c =
    let p = err_from_is_err_and c.from_residual.result c.from_residual.ensures.1 in
    let line : begins_with_cr c.lines.rest.now ≡ false = cc in
    rw (p.1, p.2) (counted_stop c.args.kind _ _ _ c.args.bytes.now c.lines.rest.now c.in_err-name.field-0.0 c.lines.invariant line c.in_err-name.ensures)

pub returns-in_err-name-clause-within : goal.returns-in_err-name-clause-within
returns-in_err-name-clause-within c =
    let p = err_from_is_err_and c.from_residual.result c.from_residual.ensures.1 in
    let line : begins_with_cr c.lines.rest.now ≡ false = cc in
    rw (p.1, p.2) (lines_stop_within (count_test c.args.kind) c.args.bytes.now c.in_err-name.field-0.0
    (counted_stop c.args.kind _ _ _ c.args.bytes.now c.lines.rest.now c.in_err-name.field-0.0 c.lines.invariant line c.in_err-name.ensures))

pub lines-smaller : goal.lines-smaller
lines-smaller c =
    header_shorter c.lines.rest.now (record { name = c.in_ok-name.field-0-0.name.now; value = c.in_ok-name.field-0-0.value.now })
    c.in_ok-name.behind.now c.in_ok-name.ensures

pub lines-preserved : goal.lines-preserved
lines-preserved c =
    let line : begins_with_cr c.lines.rest.now ≡ false = cc in
    one_more c.args.kind c.lines.counts.sequences c.lines.counts.given c.lines.counts.size c.args.bytes.now c.lines.rest.now
    (record { name = c.in_ok-name.field-0-0.name.now; value = c.in_ok-name.field-0-0.value.now }) c.in_ok-name.behind.now
    c.count-counts.result.sequences c.count-counts.result.given c.count-counts.result.size
    c.lines.invariant line c.in_ok-name.ensures c.count-counts.ensures.sequences c.count-counts.ensures.given c.count-counts.ensures.size

pub returns-in_default-clause-size : goal.returns-in_default-clause-size
returns-in_default-clause-size c =
    let cr : begins_with_cr c.lines.rest.now ≡ true = cc in
    let e = counted_rest c.args.kind c.lines.counts.sequences c.lines.counts.given c.lines.counts.size c.args.bytes.now c.lines.rest.now
    c.size_if_right.result c.lines.invariant cr c.size_if_right.ensures in
    e ∙ ap (λ o. empty_line_at c.lines.invariant.headers o c.lines.rest.now) c.in_default.is

pub returns-in_default-clause-within : goal.returns-in_default-clause-within
returns-in_default-clause-within c =
    lines_stop_within (count_test c.args.kind) c.args.bytes.now (Bad (length c.lines.rest.now)) (returns-in_default-clause-size c)

pub returns-in_err-rest-clause-size : goal.returns-in_err-rest-clause-size
returns-in_err-rest-clause-size c =
    let p = err_from_is_err_and c.from_residual-in_err-rest.result c.from_residual-in_err-rest.ensures.1 in
    let cr : begins_with_cr c.lines.rest.now ≡ true = cc in
    let e = counted_rest c.args.kind c.lines.counts.sequences c.lines.counts.given c.lines.counts.size c.args.bytes.now c.lines.rest.now
    c.size_if_right.result c.lines.invariant cr c.size_if_right.ensures in
    let size = ap (λ (o : Option ℕ). empty_line_at c.lines.invariant.headers o c.lines.rest.now) c.in-Some.is in
    let line = ap (behind_line c.lines.invariant.headers c.in-Some.size) c.in_err-rest.ensures in
    rw (p.1, p.2) (e ∙ size ∙ line)

pub returns-in_err-rest-clause-within : goal.returns-in_err-rest-clause-within
returns-in_err-rest-clause-within c =
    let p = err_from_is_err_and c.from_residual-in_err-rest.result c.from_residual-in_err-rest.ensures.1 in
    let cr : begins_with_cr c.lines.rest.now ≡ true = cc in
    let e = counted_rest c.args.kind c.lines.counts.sequences c.lines.counts.given c.lines.counts.size c.args.bytes.now c.lines.rest.now
    c.size_if_right.result c.lines.invariant cr c.size_if_right.ensures in
    let size = ap (λ (o : Option ℕ). empty_line_at c.lines.invariant.headers o c.lines.rest.now) c.in-Some.is in
    let line = ap (behind_line c.lines.invariant.headers c.in-Some.size) c.in_err-rest.ensures in
    rw (p.1, p.2) (lines_stop_within (count_test c.args.kind) c.args.bytes.now c.in_err-rest.field-0.0 (e ∙ size ∙ line))

pub returns-clause-size : goal.returns-clause-size
returns-clause-size c =
    let cr : begins_with_cr c.lines.rest.now ≡ true = cc in
    let e = counted_rest c.args.kind c.lines.counts.sequences c.lines.counts.given c.lines.counts.size c.args.bytes.now c.lines.rest.now
    c.size_if_right.result c.lines.invariant cr c.size_if_right.ensures in
    let size = ap (λ (o : Option ℕ). empty_line_at c.lines.invariant.headers o c.lines.rest.now) c.in-Some.is in
    let line = ap (behind_line c.lines.invariant.headers c.in-Some.size) c.in_ok-rest.ensures in
    (c.lines.invariant.headers, e ∙ size ∙ line)

pub returns-clause-within : goal.returns-clause-within
returns-clause-within c = lines_within (count_test c.args.kind) c.args.bytes.now _ (returns-clause-size c).1
