use Rattle.gs_rtsp_text.specs.Lines.{IsStatusLine}
use Rattle.gs_rtsp_text.specs.Message.{is_at_most_one}
use Rattle.gs_rtsp_text.proofs.FirstLines.{status_line_code}
use Rattle.gs_rtsp_text.proofs.Decided.{one_answer, stays, same_in_pieces}
use Rattle.gs_rtsp_text.proofs.laws.responses_in_any_pieces.Goals as goal

pub returns : goal.returns
returns c = record {
  one = one_answer IsStatusLine is_at_most_one status_line_code;
  stays = stays IsStatusLine is_at_most_one status_line_code;
  pieces = same_in_pieces IsStatusLine is_at_most_one status_line_code;
}
