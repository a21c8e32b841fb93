-- Cited by private contracts alone: absent data shards as sums of the chosen shards, each times its weight.
use Rattle.std.specs.Prelude.{◌≡◌, ◌≢◌, ℕ, ◌+◌, ◌*◌, ◌<◌, List, Bool, length, map, slice_index, bit_xor}
use Rattle.gs_gf256.specs.Field.{product, quotient, field_sum}
use Rattle.gs_rs.specs.declared.shape.CodeShape.{CodeShape}
use Rattle.gs_rs.specs.Shape.{point, denominator, differences}
use Rattle.gs_rs.specs.Restore.{IsPresent}

-- what the weight of a chosen shard has in common at all absent shards
abbrev pub weight_factor : CodeShape → List ℕ → ℕ → ℕ
weight_factor code chosen i =
    let points = map (point code) chosen in
    let p = slice_index points i in
    quotient (denominator code p) (differences points p)

-- the weight of a chosen shard in an absent one
abbrev pub shard_weight : CodeShape → List ℕ → ℕ → ℕ → ℕ
shard_weight code chosen to i =
    let points = map (point code) chosen in
    let x = point code to in
    quotient
    (product (quotient (differences points x) (denominator code x)) (weight_factor code chosen i))
    (bit_xor x (slice_index points i))

-- the first of these numbers, as many as counted, are those of the absent shards below a limit, lowest first
pub record AreAllAbsent (present : List Bool) (limit count : ℕ) (numbers : List ℕ) : Type 0 where
  pub absent : (r : ℕ) → r < count → (slice_index numbers r < limit) × ¬ IsPresent present (slice_index numbers r)
  pub in_order : (r s : ℕ) → r < s → s < count → slice_index numbers r < slice_index numbers s
  pub whole : (n : ℕ) → n < limit → ¬ IsPresent present n → (r : ℕ) × (r < count) × (slice_index numbers r ≡ n)

-- numbers of shards, each once, and none of a chosen one
pub record AreOthers (chosen numbers : List ℕ) : Type 0 where
  pub distinct : (r s : ℕ) → r < length numbers → s < length numbers → r ≢ s
      → slice_index numbers r ≢ slice_index numbers s
  pub not_chosen : (r i : ℕ) → r < length numbers → i < length chosen → slice_index chosen i ≢ slice_index numbers r

-- the first of these shards are the weighted sums of the chosen ones, and no other shard has changed
pub record AreRestored
    (code : CodeShape) (len : ℕ) (chosen numbers : List ℕ) (rows : ℕ) (old new : List ℕ) : Type 0 where
  pub sums : (r k : ℕ) → r < rows → k < len
      → slice_index new (slice_index numbers r * len + k)
      ≡ field_sum
      (λ i. product
      (shard_weight code chosen (slice_index numbers r) i) (slice_index old (slice_index chosen i * len + k)))
      code.data
  pub others : (n k : ℕ) → ((r : ℕ) → r < rows → n ≢ slice_index numbers r) → k < len
      → slice_index new (n * len + k) ≡ slice_index old (n * len + k)
