use Rattle.gs_frames.proofs.Images.{image_is_read}
use Rattle.gs_frames.proofs.laws.image_is_read.Goals as goal

pub returns : goal.returns
returns c = image_is_read
