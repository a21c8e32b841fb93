use Rattle.gs_run.proofs.Runs.{runs_play_captured_units}
use Rattle.gs_run.proofs.laws.runs_play_captured_units.Goals as goal

pub returns : goal.returns
returns c = runs_play_captured_units c.played_units_were_sent.ensures
