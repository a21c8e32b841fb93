use Rattle.std.proofs.Common.{arith}
use Rattle.gs_split.proofs.Counts.{has_parity-is}
use Rattle.gs_split.proofs.plan.is_protected.Goals as goal

pub returns-then-percentage-gt0 : goal.returns-then-percentage-gt0
returns-then-percentage-gt0 c =
    has_parity-is c.args.packets c.args.percentage c.most_shards_at.result c.div_ceil.result
    (omega (arith, c.if-percentage-gt0.true)) c.requires.within c.most_shards_at.ensures.is c.div_ceil.ensures
