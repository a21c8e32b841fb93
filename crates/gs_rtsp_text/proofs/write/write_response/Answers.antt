use Rattle.gs_rtsp_text.proofs.Written.{code_below}
use Rattle.gs_rtsp_text.proofs.write.write_response.Goals as goal

pub push_status_line-requires : goal.push_status_line-requires
push_status_line-requires c = code_below c.args.response.now c.requires
