use Rattle.gs_frames.proofs.SettledUp.{settled_is_greatest, settled_never_falls}
use Rattle.gs_frames.proofs.laws.settled_is_greatest.Goals as goal

pub returns-clause-greatest : goal.returns-clause-greatest
returns-clause-greatest c = settled_is_greatest

pub returns-clause-stays : goal.returns-clause-stays
returns-clause-stays c = settled_never_falls
