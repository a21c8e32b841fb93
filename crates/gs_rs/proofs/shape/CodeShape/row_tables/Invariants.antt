use Rattle.std.proofs.Common.{◌≡◌, ℕ, ◌+◌, ◌<◌}
use Rattle.gs_gf256.specs.Field.{product}
use Rattle.gs_gf256.specs.Table.{times, table_at}
use Rattle.gs_rs.specs.Shape.{coefficient}
use Rattle.gs_rs.proofs.shape.CodeShape.row_tables.Given as goal

abbrev pub invariant-loop-row : goal.invariant-loop-row
invariant-loop-row l = (r i x : ℕ) → r < l.row → i < l.self.data → x < 256
    → times l.tables (table_at l.rows i r) x ≡ product (coefficient l.self (l.first + r) i) x
