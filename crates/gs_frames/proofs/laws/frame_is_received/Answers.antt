use Rattle.gs_frames.proofs.FramesReceived.{frame_is_received}
use Rattle.gs_frames.proofs.laws.frame_is_received.Goals as goal

pub returns : goal.returns
returns c = frame_is_received
