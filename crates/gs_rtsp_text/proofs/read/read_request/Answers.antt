use Rattle.std.proofs.Common.{take}
use Rattle.gs_rtsp_text.specs.Lines.{IsRequestLine}
use Rattle.gs_rtsp_text.specs.Message.{request_message, is_one, most_head}
use Rattle.gs_rtsp_text.specs.Reading.{text_answer, head_by, request_line_at}
use Rattle.gs_rtsp_text.proofs.FirstLines.{request_line_meets, request_line_code}
use Rattle.gs_rtsp_text.proofs.Decided.{one_answer, reading_right}
use Rattle.gs_rtsp_text.proofs.Answered.{whole_from, bad_text_from, more_from, only_from}
use Rattle.gs_rtsp_text.proofs.read.read_request.Goals as goal

pub returns : goal.returns
returns c =
    let bytes = c.args.bytes.now in
    let r = c.request_answer.result in
    let a = text_answer bytes (head_by request_line_at is_one (take most_head bytes)) in
    let right = reading_right IsRequestLine is_one request_line_code request_line_at request_line_meets bytes in
    record {
      whole = whole_from IsRequestLine is_one request_message bytes r a c.request_answer.ensures right;
      bad_text = bad_text_from IsRequestLine is_one request_message bytes r a c.request_answer.ensures right;
      more = more_from IsRequestLine is_one request_message bytes r a c.request_answer.ensures right;
      only = only_from IsRequestLine is_one request_message bytes (one_answer IsRequestLine is_one request_line_code) r a c.request_answer.ensures right;
    }
