use Rattle.gs_frames.proofs.Fills.{distinct_shards_fill}
use Rattle.gs_frames.proofs.laws.distinct_shards_fill_block.Goals as goal

pub returns : goal.returns
returns c = distinct_shards_fill
