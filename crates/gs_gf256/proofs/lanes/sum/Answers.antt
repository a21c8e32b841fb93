use Rattle.std.proofs.Common.{bit_xor, sym, ◌∙◌}
use Rattle.std.proofs.lemmas.Simd.{length-zip2}
use Rattle.gs_gf256.proofs.LaneLemmas.{zip2_at}
use Rattle.gs_gf256.proofs.lanes.sum.Goals as goal

pub returns-clause-size : goal.returns-clause-size
returns-clause-size c = length-zip2 bit_xor c.args.a c.args.b (c.fits-a.0 ∙ sym c.fits-b.0) ∙ c.fits-a.0

pub returns-clause-lanes : goal.returns-clause-lanes
returns-clause-lanes c = zip2_at 32 bit_xor c.args.a c.args.b c.fits-a.0 c.fits-b.0
