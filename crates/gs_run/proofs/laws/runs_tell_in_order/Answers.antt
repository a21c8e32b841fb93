use Rattle.gs_run.proofs.Runs.{runs_tell_in_order}
use Rattle.gs_run.proofs.laws.runs_tell_in_order.Goals as goal

pub returns : goal.returns
returns c = runs_tell_in_order
