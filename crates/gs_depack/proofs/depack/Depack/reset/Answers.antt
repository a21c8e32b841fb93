use Rattle.gs_depack.proofs.Passing.{reset-stands}
use Rattle.gs_depack.proofs.depack.Depack.reset.Goals as goal

pub returns : goal.returns
returns c = λ s came stands. reset-stands c.args.self.now s came stands
