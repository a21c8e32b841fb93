-- A row of sums over some of the shards, and over one more.
use Rattle.std.proofs.Common.{◌≡◌, ℕ, ◌+◌, ◌*◌, ◌/◌, ◌%◌, ◌<◌, List, length, get_or, replicate, bit_xor, refl, sym, ap, ◌∙◌}
use Rattle.std.proofs.lemmas.Simd.{get_or-replicate}
use Rattle.gs_gf256.specs.Field.{field_sum}
use Rattle.gs_gf256.specs.Table.{times, table_at, IsRowOfSums}
use Rattle.gs_gf256.proofs.FieldSums.{field_sum-zero, field_sum-more}
use Rattle.gs_gf256.proofs.LaneLemmas.{times_of_halves}

-- the sums over the first n shards
pub record IsRowSoFar (shards : List ℕ) (len : ℕ) (numbers : List ℕ) (at : ℕ) (tables : List ℕ) (rows r : ℕ) (block : List ℕ) (n : ℕ) : Type 0 where
  pub size : length block ≡ 32
  pub sums : (j : ℕ) → j < 32 → get_or block j 0
      ≡ field_sum (λ i. times tables (table_at rows i r) (get_or shards (get_or numbers i 0 * len + (at + j)) 0)) n

pub no_row : (shards : List ℕ) (len : ℕ) (numbers : List ℕ) (at : ℕ) (tables : List ℕ) (rows r : ℕ)
    → IsRowSoFar shards len numbers at tables rows r (replicate 32 0) 0
no_row shards len numbers at tables rows r = record {
  size = refl;
  sums = λ j h. get_or-replicate 32 j 0 0 h ∙ sym (field_sum-zero _);
}

pub more_row : (shards : List ℕ) (len : ℕ) (numbers : List ℕ) (at : ℕ) (tables : List ℕ) (rows r : ℕ) (old new low high : List ℕ) (n place : ℕ)
    → IsRowSoFar shards len numbers at tables rows r old n → length new ≡ 32 → place ≡ table_at rows n r
    → ((j : ℕ) → j < 32 → get_or low j 0 ≡ get_or shards (get_or numbers n 0 * len + (at + j)) 0 % 16)
    → ((j : ℕ) → j < 32 → get_or high j 0 ≡ get_or shards (get_or numbers n 0 * len + (at + j)) 0 / 16)
    → ((j : ℕ) → j < 32 → get_or new j 0 ≡ bit_xor (get_or old j 0)
    (bit_xor (get_or tables (place + get_or low j 0) 0) (get_or tables (place + 16 + get_or high j 0) 0)))
    → IsRowSoFar shards len numbers at tables rows r new (n + 1)
more_row shards len numbers at tables rows r old new low high n place so_far size here lows highs step = record {
  size = size;
  sums = λ j h.
      let f = λ (i : ℕ). times tables (table_at rows i r) (get_or shards (get_or numbers i 0 * len + (at + j)) 0) in
      step j h
      ∙ ap (bit_xor (get_or old j 0)) (times_of_halves tables place (table_at rows n r) _ _ _ here (lows j h) (highs j h))
      ∙ ap (λ s. bit_xor s (f n)) (so_far.sums j h)
      ∙ sym (field_sum-more f n);
}

pub whole_row : (shards : List ℕ) (len : ℕ) (numbers : List ℕ) (at : ℕ) (tables : List ℕ) (rows r : ℕ) (block : List ℕ) (n : ℕ)
    → IsRowSoFar shards len numbers at tables rows r block n → n ≡ length numbers → IsRowOfSums shards len numbers at tables rows r block
whole_row shards len numbers at tables rows r block n row all = record {
  size = row.size;
  sums = λ j h. row.sums j h ∙ ap (field_sum _) all;
}
