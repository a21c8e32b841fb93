-- Data shards with their parity shards are a block, and any shards of a block, as many as it has data shards, fix it.
use Rattle.std.specs.Prelude.{ℕ, ◌≡◌, ◌≢◌, ◌<◌, ◌⊎◌, List, length, Some, All, AllPairs}
use Rattle.std.specs.List.{concat, slice_get}
use Rattle.gs_gf256.specs.Field.{IsByte}
use Rattle.gs_rs.specs.declared.shape.CodeShape.{CodeShape}
use Rattle.gs_rs.specs.Shape.{IsCode, shard_count}
use Rattle.gs_rs.specs.Codeword.{IsBlock, shard_of}
use Rattle.gs_rs.specs.Shards.{with_parity_shards, HeldShard, block_shard}

-- as many shards of one block as it has data shards, no two of one number
pub record AreShardsOf (code : CodeShape) (size : ℕ) (shards : List (List ℕ)) (held : List HeldShard) : Type 0 where
  pub count : length held ≡ code.data
  pub distinct : AllPairs (λ s t. s.index ≢ t.index) held
  pub are : All (λ s. slice_get (with_parity_shards code size shards) s.index ≡ Some s.bytes) held

-- data shards of one size, as many as the code has
pub record AreDataShards (code : CodeShape) (size : ℕ) (shards : List (List ℕ)) : Type 0 where
  pub count : length shards ≡ code.data
  pub sizes : All (λ shard. length shard ≡ size) shards
  pub bytes : All (All IsByte) shards

-- Any shards of a block, as many as it has data shards, hold each of its data shards.
-- (Without parity, of any number of data shards.)
abbrev pub HeldShardsHoldBlock : Type 0
HeldShardsHoldBlock =
    (code : CodeShape) (size : ℕ) (shards : List (List ℕ)) (held : List HeldShard) → IsCode code ⊎ (code.parity ≡ 0)
    → AreDataShards code size shards → AreShardsOf code size shards held
    → (i : ℕ) → i < code.data → slice_get shards i ≡ Some (block_shard code size held i)

-- Data shards, with their parity shards behind them, laid end to end, are a block of the code.
-- (Without parity, of any number of data shards.)
abbrev pub ShardsFormBlock : Type 0
ShardsFormBlock =
    (code : CodeShape) (size : ℕ) (shards : List (List ℕ)) → IsCode code ⊎ (code.parity ≡ 0)
    → AreDataShards code size shards
    → IsBlock code size (concat (with_parity_shards code size shards))

-- any shards of a block, as many as it has data shards, no two of one number
pub record AreOfBlock (code : CodeShape) (size : ℕ) (block : List ℕ) (held : List HeldShard) : Type 0 where
  pub count : length held ≡ code.data
  pub distinct : AllPairs (λ s t. s.index ≢ t.index) held
  pub in_range : All (λ s. s.index < shard_count code) held
  pub are : All (λ s. s.bytes ≡ shard_of size block s.index) held

-- Whatever the block, the shards that are held or restored are that block's data shards.
-- (Without parity, of any number of data shards.)
abbrev pub HeldShardsFixBlock : Type 0
HeldShardsFixBlock =
    (code : CodeShape) (size : ℕ) (block : List ℕ) (held : List HeldShard) → IsCode code ⊎ (code.parity ≡ 0)
    → IsBlock code size block
    → AreOfBlock code size block held → (i : ℕ) → i < code.data → block_shard code size held i ≡ shard_of size block i
