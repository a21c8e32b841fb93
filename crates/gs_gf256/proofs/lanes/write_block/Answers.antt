use Rattle.std.proofs.Common.{arith}
use Rattle.std.proofs.lemmas.Simd.{get_or-put_chunk_at, get_or-put_chunk_below, get_or-put_chunk_above}
use Rattle.gs_gf256.proofs.lanes.write_block.Goals as goal

pub returns-clause-written : goal.returns-clause-written
returns-clause-written c = λ j h.
    get_or-put_chunk_at c.args.at c.args.bytes.now c.args.block j 0 (omega (arith, c.fits-block.0)) (omega (arith, c.fits-block.0))

pub returns-clause-before : goal.returns-clause-before
returns-clause-before c = λ i h. get_or-put_chunk_below c.args.at c.args.bytes.now c.args.block i 0 h

pub returns-clause-after : goal.returns-clause-after
returns-clause-after c = λ i h. get_or-put_chunk_above c.args.at c.args.bytes.now c.args.block i 0 (omega (arith, c.fits-block.0))
