-- Cited by private contracts alone: rows of sums, as they are written block by block.
use Rattle.std.specs.Prelude.{◌≡◌, ℕ, ◌+◌, ◌*◌, ◌<◌, ◌≤◌, ◌⊎◌, List, length, slice_index}
use Rattle.gs_gf256.specs.Field.{product, field_sum}
use Rattle.gs_gf256.specs.Table.{times, table_at}
use Rattle.gs_rs.specs.declared.shape.CodeShape.{CodeShape}
use Rattle.gs_rs.specs.Shape.{coefficient}

-- Rows of len places, each with a beginning: the first of them have their values below `later`, the others below
-- `sooner`. Elsewhere nothing has changed.
pub record RowsMade
    (rows len : ℕ) (begin : ℕ → ℕ) (value : ℕ → ℕ → ℕ) (first later sooner : ℕ) (old new : List ℕ) : Type 0 where
  pub ahead : (r k : ℕ) → r < first → k < later → slice_index new (begin r + k) ≡ value r k
  pub behind : (r k : ℕ) → r < rows → k < sooner → slice_index new (begin r + k) ≡ value r k
  pub elsewhere : (i : ℕ) → ((r : ℕ) → r < rows → (i < begin r) ⊎ (begin r + len ≤ i))
      → slice_index new i ≡ slice_index old i

-- the value of a row at a place: the sum of the bytes there of the numbered shards, each times its factor
abbrev pub row_value : List ℕ → ℕ → List ℕ → List ℕ → ℕ → ℕ → ℕ → ℕ
row_value shards len numbers tables rows r k =
    field_sum
    (λ i. times tables (table_at rows i r) (slice_index shards (slice_index numbers i * len + k)))
    (length numbers)

-- the first parity shards are the sums of the data shards, each times its coefficient
abbrev pub HasRows : CodeShape → ℕ → List ℕ → List ℕ → ℕ → Type 0
HasRows code len source parity rows = (row k : ℕ) → row < rows → k < len
    → slice_index parity (row * len + k)
    ≡ field_sum (λ i. product (coefficient code row i) (slice_index source (i * len + k))) code.data
