use Rattle.gs_rtp.proofs.video.video_head_is_tested.Goals as goal
use Rattle.gs_rtp.proofs.VideoReading.{is_video_head-holds, IsVideoHead-tests}

pub returns : goal.returns
returns c = λ h. (is_video_head-holds h, IsVideoHead-tests h)
