use Rattle.gs_frames.proofs.HandedNext.{last_handed_tells}
use Rattle.gs_frames.proofs.laws.last_handed_tells_next.Goals as goal

pub returns : goal.returns
returns c = last_handed_tells
