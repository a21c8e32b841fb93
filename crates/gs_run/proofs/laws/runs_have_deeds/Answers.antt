use Rattle.gs_run.proofs.HoldingRuns.{runs_have_deeds, runs_of_steps_have_deeds}
use Rattle.gs_run.proofs.laws.runs_have_deeds.Goals as goal

pub returns-clause-lines : goal.returns-clause-lines
returns-clause-lines c = runs_have_deeds

pub returns-clause-steps : goal.returns-clause-steps
returns-clause-steps c = runs_of_steps_have_deeds
