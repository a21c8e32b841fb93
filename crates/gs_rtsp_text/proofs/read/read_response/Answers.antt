use Rattle.std.proofs.Common.{take}
use Rattle.gs_rtsp_text.specs.Lines.{IsStatusLine}
use Rattle.gs_rtsp_text.specs.Message.{response_message, is_at_most_one, most_head}
use Rattle.gs_rtsp_text.specs.Reading.{text_answer, head_by, status_line_at}
use Rattle.gs_rtsp_text.proofs.FirstLines.{status_line_meets, status_line_code}
use Rattle.gs_rtsp_text.proofs.Decided.{one_answer, reading_right}
use Rattle.gs_rtsp_text.proofs.Answered.{whole_from, bad_text_from, more_from, only_from}
use Rattle.gs_rtsp_text.proofs.read.read_response.Goals as goal

pub returns : goal.returns
returns c =
    let bytes = c.args.bytes.now in
    let r = c.response_answer.result in
    let a = text_answer bytes (head_by status_line_at is_at_most_one (take most_head bytes)) in
    let right = reading_right IsStatusLine is_at_most_one status_line_code status_line_at status_line_meets bytes in
    record {
      whole = whole_from IsStatusLine is_at_most_one response_message bytes r a c.response_answer.ensures right;
      bad_text = bad_text_from IsStatusLine is_at_most_one response_message bytes r a c.response_answer.ensures right;
      more = more_from IsStatusLine is_at_most_one response_message bytes r a c.response_answer.ensures right;
      only = only_from IsStatusLine is_at_most_one response_message bytes (one_answer IsStatusLine is_at_most_one status_line_code) r a
          c.response_answer.ensures right;
    }
