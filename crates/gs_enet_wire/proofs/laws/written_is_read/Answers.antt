use Rattle.gs_enet_wire.proofs.Writers.{spelling_again}
use Rattle.gs_enet_wire.proofs.laws.written_is_read.Goals as goal

pub returns : goal.returns
returns c = spelling_again
