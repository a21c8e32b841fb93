use Rattle.gs_rs.proofs.Present.{FoundBelow}
use Rattle.gs_rs.proofs.restore.lowest_present.Given as goal

abbrev pub invariant-loop-shard : goal.invariant-loop-shard
invariant-loop-shard l = FoundBelow l.present l.limit l.count l.numbers l.shard
