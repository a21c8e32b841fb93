use Rattle.gs_rs.specs.AbsentRows.{AreRestored}
use Rattle.gs_rs.proofs.shape.CodeShape.restore_absent.Given as goal

abbrev pub invariant-loop-row : goal.invariant-loop-row
invariant-loop-row l = AreRestored l.self l.len l.chosen l.absent l.row l.fn.shards l.shards
