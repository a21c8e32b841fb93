use Rattle.std.proofs.Common.{◌*◌}
use Rattle.std.proofs.lemmas.Simd.{length-chunk, get_or-chunk}
use Rattle.gs_gf256.proofs.table.row.Goals as goal

pub returns-clause-size : goal.returns-clause-size
returns-clause-size c = length-chunk (c.args.number * 16) 16 c.args.products.now c.requires

pub returns-clause-lanes : goal.returns-clause-lanes
returns-clause-lanes c = λ i h. get_or-chunk (c.args.number * 16) 16 c.args.products.now i 0 h
