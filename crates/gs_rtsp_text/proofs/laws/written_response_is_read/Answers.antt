use Rattle.gs_rtsp_text.proofs.Written.{response_is_read_again}
use Rattle.gs_rtsp_text.proofs.laws.written_response_is_read.Goals as goal

pub returns : goal.returns
returns c = response_is_read_again
