-- The table of a factor: its products with the sixteen low halves of a byte, 0 to 15, and then with the sixteen high
-- halves, 0, 16, .. 240.
use Rattle.std.specs.Prelude.{◌≡◌, ℕ, ◌+◌, ◌*◌, ◌/◌, ◌%◌, ◌<◌, List, length, slice_index, bit_xor}
use Rattle.gs_gf256.specs.Field.{field_sum}

-- what the table that begins at a place of these bytes gives for a byte
abbrev pub times : List ℕ → ℕ → ℕ → ℕ
times tables at x = bit_xor (slice_index tables (at + x % 16)) (slice_index tables (at + 16 + x / 16))

-- where the table of row r of shard i begins, if each shard has the tables of so many rows one behind the other
abbrev pub table_at : ℕ → ℕ → ℕ → ℕ
table_at rows i r = (i * rows + r) * 32

-- A block of sums: at each place that of the bytes there of the numbered shards, each times the factor of its table in
-- a row. The shards are laid end to end, each of len bytes, and the block begins at `at` in each.
pub record IsRowOfSums
    (shards : List ℕ) (len : ℕ) (numbers : List ℕ) (at : ℕ) (tables : List ℕ) (rows r : ℕ) (block : List ℕ)
    : Type 0 where
  pub size : length block ≡ 32
  pub sums : (j : ℕ) → j < 32 → slice_index block j
      ≡ field_sum
      (λ i. times tables (table_at rows i r) (slice_index shards (slice_index numbers i * len + (at + j))))
      (length numbers)
