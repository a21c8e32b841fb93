use Rattle.std.proofs.Common.{◌≡◌, ℕ, ◌+◌, ◌*◌, ◌/◌, ◌%◌, ◌<◌, List, get_or, bit_xor, ap, ap₂, ◌∙◌, arith}
use Rattle.gs_gf256.specs.declared.halves.TheConstants.{LOW_BY_LOW, HIGH_BY_LOW}
use Rattle.gs_gf256.proofs.LaneLemmas.{low_half}
use Rattle.gs_gf256.proofs.HalfTables.{low_products, high_products, whole_product}
use Rattle.gs_gf256.proofs.table.write_table.Goals as goal

at_row : (table : List ℕ) (j n i : ℕ) → j ≡ n → get_or table (j * 16 + i) 0 ≡ get_or table (n * 16 + i) 0
at_row table j n i e = ap (λ m. get_or table (m * 16 + i) 0) e

pub returns-clause-products : goal.returns-clause-products
returns-clause-products c = λ x h.
    let k = c.args.k in
    let fits : k < 256 = omega arith in
    let low : x % 16 < 16 = omega arith in
    let high : x / 16 < 16 = omega arith in
    whole_product k x _ _ (
    c.write_sums-2.ensures.before (c.args.at + x % 16) (omega arith)
    ∙ c.write_sums.ensures.sums (x % 16) low
    ∙ ap₂ bit_xor (c.row.ensures.lanes (x % 16) low ∙ at_row LOW_BY_LOW _ (k % 16) (x % 16) (low_half k)) (c.row-2.ensures.lanes (x % 16) low)
    ∙ low_products k (x % 16) fits low
    ) (
    c.write_sums-2.ensures.sums (x / 16) high
    ∙ ap₂ bit_xor (c.row-3.ensures.lanes (x / 16) high ∙ at_row HIGH_BY_LOW _ (k % 16) (x / 16) (low_half k)) (c.row-4.ensures.lanes (x / 16) high)
    ∙ high_products k (x / 16) fits high
    )
