use Rattle.std.proofs.Common.{◌≤◌, sym, ◌∙◌, arith}
use Rattle.gs_frames.specs.Plan.{block_count}
use Rattle.gs_split.proofs.Counts.{block_count-few, block_count-with}
use Rattle.gs_split.proofs.plan.blocks_at.Goals as goal

pub returns-then-is_protected-clause-is : goal.returns-then-is_protected-clause-is
returns-then-is_protected-clause-is c =
    block_count-with c.args.packets c.args.percentage c.most_shards_at.result c.div_ceil.result c.requires.within
    (sym c.is_protected.ensures ∙ c.if-is_protected.true) c.most_shards_at.ensures.is c.div_ceil.ensures

pub returns-then-is_protected-clause-few : goal.returns-then-is_protected-clause-few
returns-then-is_protected-clause-few c =
    let few : block_count c.args.packets c.args.percentage ≤ 4 =
    (block_count-few c.args.packets c.args.percentage c.requires.least c.requires.most c.requires.within).few in
    let is = block_count-with c.args.packets c.args.percentage c.most_shards_at.result c.div_ceil.result c.requires.within
    (sym c.is_protected.ensures ∙ c.if-is_protected.true) c.most_shards_at.ensures.is c.div_ceil.ensures in
    omega (arith, few, is)
