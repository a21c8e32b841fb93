use Rattle.gs_run.proofs.HoldingRuns.{runs_tell_all_once_closed}
use Rattle.gs_run.proofs.laws.runs_tell_all_once_closed.Goals as goal

pub returns : goal.returns
returns c = runs_tell_all_once_closed
