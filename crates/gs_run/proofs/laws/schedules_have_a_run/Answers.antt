use Rattle.gs_run.proofs.SomeRun.{schedules_have_a_run}
use Rattle.gs_run.proofs.laws.schedules_have_a_run.Goals as goal

pub returns : goal.returns
returns c = schedules_have_a_run
