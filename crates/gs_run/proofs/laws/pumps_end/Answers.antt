use Rattle.gs_run.proofs.Pumps.{pumps_end}
use Rattle.gs_run.proofs.laws.pumps_end.Goals as goal

pub returns : goal.returns
returns c = pumps_end
