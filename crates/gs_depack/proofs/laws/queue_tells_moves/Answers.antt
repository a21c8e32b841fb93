use Rattle.gs_depack.proofs.Arrivals.{queue_tells}
use Rattle.gs_depack.proofs.laws.queue_tells_moves.Goals as goal

pub returns : goal.returns
returns c = queue_tells
