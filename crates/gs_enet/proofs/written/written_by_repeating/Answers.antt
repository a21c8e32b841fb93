use Rattle.gs_enet.proofs.Repeating.{repeating}
use Rattle.gs_enet.proofs.written.written_by_repeating.Goals as goal

pub returns : goal.returns
returns c = repeating
