use Rattle.gs_frames.proofs.Parts.{other_changes_nothing}
use Rattle.gs_frames.proofs.laws.other_ssrc_changes_nothing.Goals as goal

pub returns : goal.returns
returns c = other_changes_nothing
