-- A plan of the blocks of a frame, as the list of blocks that it stands for.
use Rattle.std.specs.Prelude.{ℕ, ◌≡◌, ◌==◌, ◌||◌, List, map, drop, slice_index, All, if◌then◌else◌}
use Rattle.std.specs.List.{range_with_len}
use Rattle.gs_frames.specs.Plan.{BlockPlan, with_parity, without_parity}
use Rattle.gs_split.specs.declared.plan.Plan.{Plan}
use Rattle.gs_split.specs.declared.plan.Block.{Block}

-- what the plan says of a block
abbrev pub block_at : Plan → ℕ → BlockPlan
block_at plan block = record {
  data_shards = slice_index plan.shards block;
  parity_shards = slice_index plan.parity block;
  percentage = slice_index plan.sent block;
}

-- its blocks
abbrev pub blocks_of : Plan → List BlockPlan
blocks_of plan = map (block_at plan) (range_with_len 0 plan.blocks)

-- the places behind those of the blocks hold 0
abbrev pub IsZeroFrom : ℕ → List ℕ → Type 0
IsZeroFrom blocks numbers = All (λ number. number ≡ 0) (drop blocks numbers)

-- a block by itself
abbrev pub block_plan : Block → BlockPlan
block_plan block = record { data_shards = block.shards; parity_shards = block.parity; percentage = block.sent }

-- the block of d data shards of a frame with this percentage of parity, 0 for none
abbrev pub protected : ℕ → ℕ → ℕ → BlockPlan
protected percentage minimum d =
    if d == 0 || percentage == 0 then without_parity d else with_parity percentage minimum d
