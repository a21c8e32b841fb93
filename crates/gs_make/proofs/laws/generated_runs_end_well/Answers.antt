use Rattle.gs_make.proofs.EndingWell.{generated_runs_end_well}
use Rattle.gs_make.proofs.laws.generated_runs_end_well.Goals as goal

pub returns : goal.returns
returns c = generated_runs_end_well
