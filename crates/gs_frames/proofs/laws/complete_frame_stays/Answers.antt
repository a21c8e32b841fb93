use Rattle.gs_frames.proofs.CompleteStays.{complete_stays}
use Rattle.gs_frames.proofs.laws.complete_frame_stays.Goals as goal

pub returns : goal.returns
returns c = complete_stays
