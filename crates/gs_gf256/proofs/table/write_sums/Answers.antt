use Rattle.std.proofs.Common.{◌≡◌, length, bit_xor, sym, ◌∙◌, arith}
use Rattle.std.proofs.lemmas.Simd.{length-zip2, get_or-put_chunk_at, get_or-put_chunk_below, get_or-put_chunk_above}
use lib.Lanes.{zip2}
use Rattle.gs_gf256.proofs.LaneLemmas.{zip2_at}
use Rattle.gs_gf256.proofs.table.write_sums.Goals as goal

pub returns-clause-sums : goal.returns-clause-sums
returns-clause-sums c = λ i h.
    let sums = zip2 bit_xor c.args.a c.args.b in
    let size : length sums ≡ 16 = length-zip2 bit_xor c.args.a c.args.b (c.fits-a.0 ∙ sym c.fits-b.0) ∙ c.fits-a.0 in
    get_or-put_chunk_at c.args.at c.args.tables.now sums i 0 (omega arith) (omega (arith, c.requires))
    ∙ zip2_at 16 bit_xor c.args.a c.args.b c.fits-a.0 c.fits-b.0 i h

pub returns-clause-before : goal.returns-clause-before
returns-clause-before c = λ i h. get_or-put_chunk_below c.args.at c.args.tables.now _ i 0 h

pub returns-clause-after : goal.returns-clause-after
returns-clause-after c = λ i h.
    let sums = zip2 bit_xor c.args.a c.args.b in
    let size : length sums ≡ 16 = length-zip2 bit_xor c.args.a c.args.b (c.fits-a.0 ∙ sym c.fits-b.0) ∙ c.fits-a.0 in
    get_or-put_chunk_above c.args.at c.args.tables.now sums i 0 (omega arith)
