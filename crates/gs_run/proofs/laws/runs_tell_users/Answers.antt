use Rattle.gs_run.proofs.HoldingRuns.{runs_tell_users}
use Rattle.gs_run.proofs.laws.runs_tell_users.Goals as goal

pub returns : goal.returns
returns c = runs_tell_users c.packet_is_read.ensures
