use Rattle.gs_frames.proofs.EnoughCame.{enough_complete}
use Rattle.gs_frames.proofs.laws.enough_complete_frame.Goals as goal

pub returns : goal.returns
returns c = enough_complete
