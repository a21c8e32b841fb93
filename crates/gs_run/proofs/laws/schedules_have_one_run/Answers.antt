use Rattle.gs_run.proofs.OneRun.{schedules_have_one_run, steps_have_one_run}
use Rattle.gs_run.proofs.laws.schedules_have_one_run.Goals as goal

pub returns-clause-lines : goal.returns-clause-lines
returns-clause-lines c = schedules_have_one_run

pub returns-clause-steps : goal.returns-clause-steps
returns-clause-steps c = steps_have_one_run
