use Rattle.std.proofs.Common.{ℕ, ◌/◌, ◌^◌, replicate, ◌∙◌}
use Rattle.std.proofs.lemmas.Simd.{length-zip2}
use Rattle.gs_gf256.proofs.LaneLemmas.{splat_at}
use Rattle.gs_gf256.proofs.lanes.high_halves.Goals as goal

abbrev down : ℕ → ℕ → ℕ
down a b = a / 2 ^ b

pub returns-clause-size : goal.returns-clause-size
returns-clause-size c = length-zip2 down c.args.block (replicate 32 4) c.fits-block.0 ∙ c.fits-block.0

pub returns-clause-lanes : goal.returns-clause-lanes
returns-clause-lanes c = λ j h. splat_at 32 down c.args.block 4 c.fits-block.0 j h
