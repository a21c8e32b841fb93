use Rattle.gs_fecqueue.proofs.Given.{stands-reset}
use Rattle.gs_fecqueue.proofs.laws.reset_changes_nothing.Goals as goal

pub returns : goal.returns
returns c = stands-reset
