use Rattle.gs_rs.specs.GroupRows.{HasRows}
use Rattle.gs_rs.proofs.shape.CodeShape.encode_rows.Given as goal

abbrev pub invariant-loop-row : goal.invariant-loop-row
invariant-loop-row l = HasRows l.self l.len l.source l.parity l.row
