-- How a frame of n packets is parted into blocks of shards for the erasure code.
use Rattle.std.specs.Prelude.{ℕ, ◌+◌, ◌-◌, ◌*◌, ◌/◌, Bool, ◌&&◌, List, [], ◌∷◌, ◌++◌, map, replicate, nat_lt, nat_le}
use Rattle.std.specs.Prelude.{if◌then◌else◌}
pub use Rattle.gs_rtp.specs.Limits.{most_blocks}
use Rattle.gs_rtp.specs.Limits.{most_shards_of_block}
use Rattle.gs_rtp.specs.Video.{parity_count}
use Rattle.gs_frames.specs.Image.{ceil_div}

-- a block's numbers of data and parity shards, and the percentage that its datagrams say
pub record BlockPlan : Type 0 where
  pub data_shards : ℕ
  pub parity_shards : ℕ
  pub percentage : ℕ

-- the most data shards that leave room for their parity among 255 shards
abbrev pub most_shards : ℕ → ℕ
most_shards percentage = 25500 / (100 + percentage)

abbrev pub most_bare : ℕ
most_bare = most_shards_of_block

-- there is parity: it is asked for, and the blocks that it makes aren't too many
abbrev pub has_parity : ℕ → ℕ → Bool
has_parity n percentage = nat_lt 0 percentage && nat_le (ceil_div n (most_shards percentage)) most_blocks

abbrev pub block_count : ℕ → ℕ → ℕ
block_count n percentage = if has_parity n percentage then ceil_div n (most_shards percentage) else ceil_div n most_bare

-- the data shards of each of b blocks: as even as whole numbers are, the last has the rest
abbrev pub parts : ℕ → ℕ → List ℕ
parts n b = replicate (b - 1) (ceil_div n b) ++ (n - (b - 1) * ceil_div n b) ∷ []

-- a block of d data shards with parity, and at least the minimum of it
abbrev pub with_parity : ℕ → ℕ → ℕ → BlockPlan
with_parity percentage minimum d =
    if nat_lt (parity_count d percentage) minimum
    then record { data_shards = d; parity_shards = minimum; percentage = 100 * minimum / d }
    else record { data_shards = d; parity_shards = parity_count d percentage; percentage = percentage }

abbrev pub without_parity : ℕ → BlockPlan
without_parity d = record { data_shards = d; parity_shards = 0; percentage = 0 }

unfoldable pub fec_plan : ℕ → ℕ → ℕ → List BlockPlan
fec_plan n percentage minimum =
    if has_parity n percentage
    then map (with_parity percentage minimum) (parts n (block_count n percentage))
    else map without_parity (parts n (block_count n percentage))
