use Rattle.std.proofs.Common.{◌-◌, ◌≤◌, length}
use Rattle.gs_rs.specs.AbsentRows.{AreRestored}
use Rattle.gs_rs.proofs.shape.CodeShape.restore_groups_by.Given as goal

abbrev pub invariant-loop-row : goal.invariant-loop-row
invariant-loop-row l = (l.row ≤ length l.absent) × AreRestored l.self l.len l.chosen l.absent l.row l.fn.shards l.shards

abbrev pub decreases-loop-row : goal.decreases-loop-row
decreases-loop-row l = length l.absent - l.row
