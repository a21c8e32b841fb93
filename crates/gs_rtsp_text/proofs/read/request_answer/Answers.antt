use Rattle.std.proofs.Common.{◌∙◌, ℕ, List, sym, ap}
use Rattle.std.proofs.lemmas.Result.{err_from_is_err_and}
use Rattle.gs_rtsp_text.specs.Lines.{IsRequestLine}
use Rattle.gs_rtsp_text.specs.Message.{Whole, request_message, is_one}
use Rattle.gs_rtsp_text.specs.Reading.{text_answer, head_behind, head_by, place_answer, request_line_at}
use Rattle.gs_rtsp_text.proofs.FirstLines.{request_line_meets}
use Rattle.gs_rtsp_text.proofs.Within.{rest_within, stop_within}
use Rattle.gs_rtsp_text.proofs.Started.{answer_started, answer_stopped, err_answered, more_answered, place_answered, whole_answered}
use Rattle.gs_rtsp_text.proofs.read.request_answer.Goals as goal

pub wrong_place-requires-clause-left : goal.wrong_place-requires-clause-left
wrong_place-requires-clause-left c =
    let front = c.head_part-front.result.now in
    stop_within IsRequestLine front c.in-Err.stop (request_line_at front) (request_line_meets front) c.in-Err.ensures

pub returns-in-Err : goal.returns-in-Err
returns-in-Err c =
    let bytes = c.args.bytes.now in
    let front = c.head_part-front.result.now in
    let by = ap (λ (s : List ℕ). text_answer bytes (head_by request_line_at is_one s)) (sym c.head_part-front.ensures.part) in
    let stopped = answer_stopped bytes request_line_at is_one front c.in-Err.stop c.in-Err.ensures in
    place_answered request_message c.wrong_place.result c.at_place.result _ c.at_place.ensures (by ∙ stopped ∙ ap place_answer (sym c.wrong_place.ensures))

pub behind_first_line-requires-clause-rest : goal.behind_first_line-requires-clause-rest
behind_first_line-requires-clause-rest c =
    let front = c.head_part-front.result.now in
    rest_within IsRequestLine front ((c.in-Ok.line.0.method, c.in-Ok.line.0.target.now), c.in-Ok.line.1.now) (request_line_at front) (request_line_meets front)
    c.in-Ok.ensures

pub returns-in_err-behind_first_line : goal.returns-in_err-behind_first_line
returns-in_err-behind_first_line c =
    let bytes = c.args.bytes.now in
    let front = c.head_part-front.result.now in
    let by = ap (λ (s : List ℕ). text_answer bytes (head_by request_line_at is_one s)) (sym c.head_part-front.ensures.part) in
    let begun = answer_started (c.in-Ok.line.0.method, c.in-Ok.line.0.target.now) bytes request_line_at is_one front c.in-Ok.line.1.now c.in-Ok.ensures in
    let p = err_from_is_err_and c.from_residual.result c.from_residual.ensures.1 in
    rw (p.1, p.2) (err_answered request_message (c.in-Ok.line.0.method, c.in-Ok.line.0.target.now) c.in_err-behind_first_line.field-0.0 (text_answer bytes
    (head_behind tt is_one c.in-Ok.line.1.now)) _
    (by ∙ begun) c.in_err-behind_first_line.ensures)

pub returns-in-More : goal.returns-in-More
returns-in-More c =
    let bytes = c.args.bytes.now in
    let front = c.head_part-front.result.now in
    let by = ap (λ (s : List ℕ). text_answer bytes (head_by request_line_at is_one s)) (sym c.head_part-front.ensures.part) in
    let begun = answer_started (c.in-Ok.line.0.method, c.in-Ok.line.0.target.now) bytes request_line_at is_one front c.in-Ok.line.1.now c.in-Ok.ensures in
    more_answered (c.in-Ok.line.0.method, c.in-Ok.line.0.target.now) c.in_ok-behind_first_line.field-0 (text_answer bytes (head_behind tt is_one
    c.in-Ok.line.1.now)) _ (by ∙ begun) c.in-More.is
    c.in_ok-behind_first_line.ensures

pub returns-in_ok-target-in-Whole : goal.returns-in_ok-target-in-Whole
returns-in_ok-target-in-Whole c =
    let bytes = c.args.bytes.now in
    let front = c.head_part-front.result.now in
    let by = ap (λ (s : List ℕ). text_answer bytes (head_by request_line_at is_one s)) (sym c.head_part-front.ensures.part) in
    let begun = answer_started (c.in-Ok.line.0.method, c.in-Ok.line.0.target.now) bytes request_line_at is_one front c.in-Ok.line.1.now c.in-Ok.ensures in
    let whole = whole_answered (c.in-Ok.line.0.method, c.in-Ok.line.0.target.now) c.in_ok-behind_first_line.field-0 c.in-Whole.value c.in-Whole.used
    (text_answer bytes (head_behind tt is_one c.in-Ok.line.1.now)) _ (by ∙ begun) c.in-Whole.is c.in_ok-behind_first_line.ensures in
    let target = ap (λ (t : List ℕ). Whole (record { start = (c.in-Ok.line.0.method, t); headers = c.in-Whole.value.headers; body = c.in-Whole.value.body })
    c.in-Whole.used) (sym c.in_ok-target-in-Whole.ensures) in
    whole ∙ target
