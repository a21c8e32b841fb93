use Rattle.gs_rtp.proofs.video.video_header_reads_back.Goals as goal
use Rattle.gs_rtp.proofs.VideoReading.{video_head-header}

pub returns : goal.returns
returns c = λ packet h payload. video_head-header packet h payload
