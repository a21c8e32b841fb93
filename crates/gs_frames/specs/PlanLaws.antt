-- A plan has all packets of a frame.
use Rattle.std.specs.Prelude.{ℕ, ◌≡◌, ◌≤◌, map}
use Rattle.std.specs.List.{sum}
use Rattle.gs_rtp.specs.Limits.{most_percentage}
use Rattle.gs_frames.specs.Image.{most_packets}
use Rattle.gs_frames.specs.Plan.{fec_plan}

-- the data shards of its blocks are as many as the packets
abbrev pub PlanCovers : Type 0
PlanCovers =
    (n percentage minimum : ℕ) → 1 ≤ n → n ≤ most_packets → percentage ≤ most_percentage
    → sum (map (λ b. b.data_shards) (fec_plan n percentage minimum)) ≡ n
