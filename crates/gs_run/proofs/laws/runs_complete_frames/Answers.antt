use Rattle.gs_run.proofs.Runs.{runs_complete_frames}
use Rattle.gs_run.proofs.laws.runs_complete_frames.Goals as goal

pub returns : goal.returns
returns c = runs_complete_frames
