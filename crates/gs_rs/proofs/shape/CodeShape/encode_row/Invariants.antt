use Rattle.std.proofs.Common.{◌≡◌, ℕ, ◌+◌, ◌*◌, ◌<◌, length, get_or}
use Rattle.gs_gf256.specs.Field.{product, field_sum}
use Rattle.gs_rs.specs.Shape.{coefficient}
use Rattle.gs_rs.proofs.shape.CodeShape.encode_row.Given as goal

abbrev pub invariant-loop-i : goal.invariant-loop-i
invariant-loop-i l = (length l.out ≡ l.len) × ((k : ℕ) → k < l.len
    → get_or l.out k 0 ≡ field_sum (λ i. product (coefficient l.self l.row i) (get_or l.source (i * l.len + k) 0)) l.i)
