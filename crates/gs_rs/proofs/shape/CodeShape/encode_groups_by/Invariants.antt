use Rattle.std.proofs.Common.{◌-◌, ◌≤◌}
use Rattle.gs_rs.specs.GroupRows.{HasRows}
use Rattle.gs_rs.proofs.shape.CodeShape.encode_groups_by.Given as goal

abbrev pub invariant-loop-row : goal.invariant-loop-row
invariant-loop-row l = (l.row ≤ l.self.parity) × HasRows l.self l.len l.source l.parity l.row

abbrev pub decreases-loop-row : goal.decreases-loop-row
decreases-loop-row l = l.self.parity - l.row
