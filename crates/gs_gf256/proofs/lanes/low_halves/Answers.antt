use Rattle.std.proofs.Common.{get_or, replicate, bit_and, ◌∙◌}
use Rattle.std.proofs.lemmas.Simd.{length-zip2}
use Rattle.gs_gf256.proofs.LaneLemmas.{splat_at, low_half}
use Rattle.gs_gf256.proofs.lanes.low_halves.Goals as goal

pub returns-clause-size : goal.returns-clause-size
returns-clause-size c = length-zip2 bit_and c.args.block (replicate 32 15) c.fits-block.0 ∙ c.fits-block.0

pub returns-clause-lanes : goal.returns-clause-lanes
returns-clause-lanes c = λ j h. splat_at 32 bit_and c.args.block 15 c.fits-block.0 j h ∙ low_half (get_or c.args.block j 0)
