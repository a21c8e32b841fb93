use Rattle.gs_run.proofs.PartDeliveries.{pumps_advance}
use Rattle.gs_run.proofs.laws.pumps_advance.Goals as goal

pub returns : goal.returns
returns c = pumps_advance
