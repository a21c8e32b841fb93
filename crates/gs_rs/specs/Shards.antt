-- The shards of a block one by one: the parity shards that its data shards make, and each data shard of the one block
-- that enough of its shards fix.
use Rattle.std.specs.Prelude.{ℕ, zero, suc, List, [], ◌∷◌, ◌++◌, map, slice_index, Option, Some, None, ◌==◌}
use Rattle.std.specs.List.{find, range_with_len}
use Rattle.gs_gf256.specs.Field.{product, quotient, field_sum}
use Rattle.gs_poly.specs.Polynomial.{weighted_sum}
use Rattle.gs_rs.specs.declared.shape.CodeShape.{CodeShape}
use Rattle.gs_rs.specs.Shape.{point, denominator, coefficient}

-- byte k of shard i
abbrev pub shard_byte : List (List ℕ) → ℕ → ℕ → ℕ
shard_byte [] i k = 0
shard_byte (shard ∷ shards) zero k = slice_index shard k
shard_byte (shard ∷ shards) (suc i) k = shard_byte shards i k

-- a parity shard: each byte is the sum of the data shards' bytes at its place, each times its coefficient
abbrev pub parity_shard : CodeShape → ℕ → List (List ℕ) → ℕ → List ℕ
parity_shard code size shards row =
    map (λ k. field_sum (λ i. product (coefficient code row i) (shard_byte shards i k)) code.data)
    (range_with_len 0 size)

-- a block's data shards and then its parity shards
abbrev pub with_parity_shards : CodeShape → ℕ → List (List ℕ) → List (List ℕ)
with_parity_shards code size shards = shards ++ map (parity_shard code size shards) (range_with_len 0 code.parity)

-- a shard that is held, and its number in its block
pub record HeldShard : Type 0 where
  pub index : ℕ
  pub bytes : List ℕ

-- Byte k of a shard that isn't held, of the one block that has the held shards: the value at its point of
-- the one polynomial that they fix. A shard is its polynomial's value divided by its point's denominator.
abbrev pub restored_byte : CodeShape → List HeldShard → ℕ → ℕ → ℕ
restored_byte code held index k =
    quotient
    (weighted_sum
    (map (λ s. point code s.index) held)
    (map (λ s. product (slice_index s.bytes k) (denominator code (point code s.index))) held)
    (point code index))
    (denominator code (point code index))

abbrev pub held_or_restored : CodeShape → ℕ → List HeldShard → ℕ → Option HeldShard → List ℕ
held_or_restored code size held index None = map (restored_byte code held index) (range_with_len 0 size)
held_or_restored code size held index (Some s) = s.bytes

-- data shard `index` of the block that the held shards fix
abbrev pub block_shard : CodeShape → ℕ → List HeldShard → ℕ → List ℕ
block_shard code size held index = held_or_restored code size held index (find (λ s. s.index == index) held)
