use Rattle.gs_frames.proofs.Plans.{plan_covers}
use Rattle.gs_frames.proofs.laws.plan_covers.Goals as goal

pub returns : goal.returns
returns c = plan_covers
