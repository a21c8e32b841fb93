use Rattle.gs_run.proofs.Runs.{runs_hand_references}
use Rattle.gs_run.proofs.laws.runs_hand_references.Goals as goal

pub returns : goal.returns
returns c = runs_hand_references
