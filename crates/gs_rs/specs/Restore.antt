-- Which shards a block is restored from, and what it then holds.
use Rattle.std.specs.Prelude.{◌≡◌, ℕ, ◌*◌, ◌<◌, ◌≤◌, ◌⊎◌, List, Bool, false, take, slice_index, slice_index_or}
use Rattle.std.specs.Prelude.{count_by, All, IsTrue}
use Rattle.gs_rs.specs.declared.shape.CodeShape.{CodeShape}
use Rattle.gs_rs.specs.Shape.{shard_count}
use Rattle.gs_rs.specs.Codeword.{IsBlock, shard_of}

-- the shard of this number is present
abbrev pub IsPresent : List Bool → ℕ → Type 0
IsPresent present number = IsTrue (slice_index_or present number false)

-- how many shards are present
abbrev pub count_present : List Bool → ℕ
count_present present = count_by (λ here. here) present

-- the shard is one of the present shards of lowest number, as many as there are data shards: it is present, and fewer
-- than that have a lower number and are present
abbrev pub IsChosen : CodeShape → List Bool → ℕ → Type 0
IsChosen code present number = IsPresent present number × (count_present (take number present) < code.data)

-- the first of these numbers, as many as counted, are the numbers of the present shards in order, lowest first
pub record AreLowestPresent (present : List Bool) (count : ℕ) (numbers : List ℕ) : Type 0 where
  pub are_present : (i : ℕ) → i < count → IsPresent present (slice_index numbers i)
  pub in_order : (i : ℕ) → i < count → count_present (take (slice_index numbers i) present) ≡ i
  pub whole : (number : ℕ) → IsPresent present number → count_present (take number present) < count
      → slice_index numbers (count_present (take number present)) ≡ number

-- the shards are a block's as far as they are chosen
abbrev pub AgreesWhereChosen : CodeShape → ℕ → List Bool → List ℕ → List ℕ → Type 0
AgreesWhereChosen code len present shards block =
    (number : ℕ) → number < shard_count code → IsChosen code present number
    → shard_of len shards number ≡ shard_of len block number

-- the data shards, laid end to end
abbrev pub data_of : CodeShape → ℕ → List ℕ → List ℕ
data_of code len shards = take (code.data * len) shards

-- each absent data shard is that of each block that has these shards at these numbers
abbrev pub RestoresAbsent : CodeShape → ℕ → List Bool → List ℕ → List ℕ → List ℕ → Type 0
RestoresAbsent code len present numbers before after =
    (block : List ℕ) → IsBlock code len block
    → All (λ number. shard_of len before number ≡ shard_of len block number) numbers
    → (number : ℕ) → number < code.data → ¬ IsPresent present number
    → shard_of len after number ≡ shard_of len block number

-- the data shards are those of each block that has the chosen shards
abbrev pub RestoresEachBlock : CodeShape → ℕ → List Bool → List ℕ → List ℕ → Type 0
RestoresEachBlock code len present before after =
    (block : List ℕ) → IsBlock code len block → AgreesWhereChosen code len present before block
    → data_of code len after ≡ data_of code len block

-- and there is such a block
abbrev pub RestoresSomeBlock : CodeShape → ℕ → List Bool → List ℕ → List ℕ → Type 0
RestoresSomeBlock code len present before after =
    (block : List ℕ) × IsBlock code len block × AgreesWhereChosen code len present before block
    × (data_of code len after ≡ data_of code len block)

-- the present shards and the parity shards stay
abbrev pub KeepsOthers : CodeShape → ℕ → List Bool → List ℕ → List ℕ → Type 0
KeepsOthers code len present before after =
    (number : ℕ) → number < shard_count code → IsPresent present number ⊎ (code.data ≤ number)
    → shard_of len after number ≡ shard_of len before number
