use Rattle.gs_frames.proofs.KeptAtFirst.{nothing_at_first}
use Rattle.gs_frames.proofs.laws.nothing_is_kept_at_first.Goals as goal

pub returns : goal.returns
returns c = nothing_at_first
