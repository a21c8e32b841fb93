use Rattle.std.proofs.Common.{◌≡◌, ◌≢◌, ℕ, ◌+◌, ◌*◌, ◌<◌, get_or}
use Rattle.gs_gf256.specs.Field.{product, field_sum}
use Rattle.gs_rs.proofs.restore.add_weighted.Given as goal

abbrev pub invariant-loop-i : goal.invariant-loop-i
invariant-loop-i l =
    ((k : ℕ) → k < l.len → get_or l.shards (l.to * l.len + k) 0
    ≡ field_sum (λ j. product (get_or l.weights j 0) (get_or l.fn.shards (get_or l.chosen j 0 * l.len + k) 0)) l.i)
    × ((number k : ℕ) → number ≢ l.to → k < l.len → get_or l.shards (number * l.len + k) 0 ≡ get_or l.fn.shards (number * l.len + k) 0)
