use Rattle.std.proofs.Common.{◌∙◌, ap, Some}
use Rattle.gs_rtp.specs.declared.video.VideoHead.{VideoHead}
use Rattle.gs_rtp.proofs.video.video_head_is_exact.Goals as goal
use Rattle.gs_rtp.proofs.VideoReading.{video_head-some, video_head-of}

pub returns : goal.returns
returns c = λ packet bytes h. (video_head-some packet bytes h, λ known. video_head-of packet bytes known.0 ∙ ap (λ (g : VideoHead). Some g) known.1)
