-- Cited by private contracts alone: the limits of what a queue holds.
use Rattle.std.specs.Prelude.{ℕ, ◌*◌}
use Rattle.gs_rtp.specs.Limits.{most_shards_of_block}
use Rattle.gs_frames.specs.Plan.{most_blocks}
use Rattle.gs_frames.specs.Shards.{most_payload}

-- of all data shards of a block
abbrev pub most_of_block : ℕ
most_of_block = most_shards_of_block * most_payload

-- bytes of an image
abbrev pub most_of_image : ℕ
most_of_image = most_blocks * most_of_block
