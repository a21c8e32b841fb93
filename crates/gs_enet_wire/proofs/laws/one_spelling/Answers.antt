use Rattle.gs_enet_wire.proofs.Writers.{spelling_same}
use Rattle.gs_enet_wire.proofs.laws.one_spelling.Goals as goal

pub returns : goal.returns
returns c = spelling_same
