use Rattle.gs_run.proofs.UserEvents.{runs_give_events}
use Rattle.gs_run.proofs.laws.runs_give_events.Goals as goal

pub returns : goal.returns
returns c = runs_give_events
