use Rattle.gs_stream.proofs.HandedSent.{handed_were_sent}
use Rattle.gs_stream.proofs.laws.handed_frames_were_sent.Goals as goal

pub returns : goal.returns
returns c = handed_were_sent
