use Rattle.std.proofs.lemmas.Simd.{length-chunk, get_or-chunk}
use Rattle.gs_gf256.proofs.lanes.load.Goals as goal

pub returns-clause-size : goal.returns-clause-size
returns-clause-size c = length-chunk c.args.at 32 c.args.bytes.now c.requires

pub returns-clause-lanes : goal.returns-clause-lanes
returns-clause-lanes c = λ j h. get_or-chunk c.args.at 32 c.args.bytes.now j 0 h
