use Rattle.gs_run.proofs.Runs.{runs_are_paired}
use Rattle.gs_run.proofs.laws.runs_are_paired.Goals as goal

pub returns : goal.returns
returns c = runs_are_paired
