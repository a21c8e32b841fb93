use Rattle.gs_rtp.proofs.video.short_video_header_reads_back.Goals as goal
use Rattle.gs_rtp.proofs.VideoReading.{video_head-short}

pub returns : goal.returns
returns c = λ packet h payload. video_head-short packet h payload
