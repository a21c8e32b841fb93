use Rattle.std.proofs.Common.{◌≡◌, ◌≤◌, length}
use Rattle.gs_rs.specs.AbsentRows.{AreAllAbsent}
use Rattle.gs_rs.proofs.restore.absent_data.Given as goal

abbrev pub invariant-loop-shard : goal.invariant-loop-shard
invariant-loop-shard l = (length l.numbers ≡ 255) × (l.count ≤ l.shard) × AreAllAbsent l.present l.shard l.count l.numbers
