use Rattle.gs_frames.proofs.CompleteSent.{complete_is_sent}
use Rattle.gs_frames.proofs.laws.complete_frame_is_sent.Goals as goal

pub returns : goal.returns
returns c = complete_is_sent
