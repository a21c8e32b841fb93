use Rattle.gs_stream.proofs.CameWhole.{came_complete, came_handed, idr_came_handed}
use Rattle.gs_stream.proofs.laws.frames_that_came_are_complete.Goals as goal

pub returns-clause-complete : goal.returns-clause-complete
returns-clause-complete c = came_complete

pub returns-clause-handed : goal.returns-clause-handed
returns-clause-handed c = came_handed

pub returns-clause-idr : goal.returns-clause-idr
returns-clause-idr c = idr_came_handed
