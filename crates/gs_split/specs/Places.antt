-- Cited by private contracts alone: where the blocks of a frame stand in it.
use Rattle.std.specs.Prelude.{ℕ, zero, suc, ◌≡◌, ◌≤◌, ◌+◌, ◌*◌, List, [], ◌∷◌, Some}
use Rattle.std.specs.List.{slice_get}
use Rattle.gs_frames.specs.Plan.{BlockPlan}
use Rattle.gs_split.specs.declared.placed.PlacedBlock.{PlacedBlock}

-- how many packets of a frame stand before a block
abbrev pub packets_before : ℕ → List BlockPlan → ℕ
packets_before zero plans = 0
packets_before (suc block) [] = 0
packets_before (suc block) (plan ∷ plans) = plan.data_shards + packets_before block plans

-- how many datagrams
abbrev pub datagrams_before : ℕ → List BlockPlan → ℕ
datagrams_before zero plans = 0
datagrams_before (suc block) [] = 0
datagrams_before (suc block) (plan ∷ plans) = plan.data_shards + plan.parity_shards + datagrams_before block plans

-- what the plan says of a block
abbrev pub placed_plan : PlacedBlock → BlockPlan
placed_plan b = record { data_shards = b.shards; parity_shards = b.parity; percentage = b.sent }

-- how many datagrams of the frame stand before its end
abbrev pub block_end : PlacedBlock → ℕ
block_end b = b.first_datagram + b.shards + b.parity

-- it is a block of such a plan, at its place
pub record IsPlaced (plans : List BlockPlan) (b : PlacedBlock) : Type 0 where
  pub here : slice_get plans b.number ≡ Some (placed_plan b)
  pub packets : b.first_packet ≡ packets_before b.number plans
  pub datagrams : b.first_datagram ≡ datagrams_before b.number plans
  pub few_packets : b.first_packet ≤ b.number * 65535
  pub few_datagrams : b.first_datagram ≤ b.number * 131070
