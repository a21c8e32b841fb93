-- What the codes protect: each place of a block's shards is coded by itself.
use Rattle.std.specs.Prelude.{◌≡◌, ℕ, ◌+◌, ◌*◌, ◌<◌, List, map, length, take, drop, slice_index, All}
use Rattle.std.specs.List.{range_with_len}
use Rattle.gs_gf256.specs.Field.{IsByte, product, field_sum}
use Rattle.gs_poly.specs.Polynomial.{value, IsPolynomialBelow}
use Rattle.gs_rs.specs.declared.shape.CodeShape.{CodeShape}
use Rattle.gs_rs.specs.Shape.{shard_count, point, denominator, coefficient}

-- A byte for each shard, such that one polynomial N with a coefficient for each data shard gives the byte of the shard
-- at each point p as N(p) divided by the denominator of p.
pub record IsCodeword (code : CodeShape) (bytes : List ℕ) : Type 0 where
  pub counted : length bytes ≡ shard_count code
  pub are_bytes : All IsByte bytes
  pub polynomial : List ℕ
  pub degree : IsPolynomialBelow code.data polynomial
  pub values : (shard : ℕ) → shard < shard_count code
      → product (slice_index bytes shard) (denominator code (point code shard)) ≡ value polynomial (point code shard)

-- A byte for each shard, such that each parity byte is the sum of the data bytes, each times its coefficient.
pub record HasParityRows (code : CodeShape) (bytes : List ℕ) : Type 0 where
  pub counted : length bytes ≡ shard_count code
  pub are_bytes : All IsByte bytes
  pub rows : (row : ℕ) → row < code.parity
      → slice_index bytes (code.data + row)
      ≡ field_sum (λ i. product (coefficient code row i) (slice_index bytes i)) code.data

-- the k-th byte of each of n shards of one length, laid end to end
abbrev pub column : ℕ → ℕ → List ℕ → ℕ → List ℕ
column n len shards k = map (λ i. slice_index shards (i * len + k)) (range_with_len 0 n)

-- The shards of a block, of one length, laid end to end: the data shards, then the parity shards. Without parity shards
-- any data is a block.
pub record IsBlock (code : CodeShape) (len : ℕ) (block : List ℕ) : Type 0 where
  pub size : length block ≡ shard_count code * len
  pub bytes : All IsByte block
  pub columns : 0 < code.parity → (k : ℕ) → k < len → IsCodeword code (column (shard_count code) len block k)

-- one shard, by its number, of shards of one length laid end to end
abbrev pub shard_of : ℕ → List ℕ → ℕ → List ℕ
shard_of len shards number = take len (drop (number * len) shards)
