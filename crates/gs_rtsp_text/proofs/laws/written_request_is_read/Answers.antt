use Rattle.gs_rtsp_text.proofs.Written.{request_is_read_again}
use Rattle.gs_rtsp_text.proofs.laws.written_request_is_read.Goals as goal

pub returns : goal.returns
returns c = request_is_read_again
