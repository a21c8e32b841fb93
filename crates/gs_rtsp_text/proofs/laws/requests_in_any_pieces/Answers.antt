use Rattle.gs_rtsp_text.specs.Lines.{IsRequestLine}
use Rattle.gs_rtsp_text.specs.Message.{is_one}
use Rattle.gs_rtsp_text.proofs.FirstLines.{request_line_code}
use Rattle.gs_rtsp_text.proofs.Decided.{one_answer, stays, same_in_pieces}
use Rattle.gs_rtsp_text.proofs.laws.requests_in_any_pieces.Goals as goal

pub returns : goal.returns
returns c = record {
  one = one_answer IsRequestLine is_one request_line_code;
  stays = stays IsRequestLine is_one request_line_code;
  pieces = same_in_pieces IsRequestLine is_one request_line_code;
}
