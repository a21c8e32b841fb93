use Rattle.std.proofs.Common.{◌≡◌, ℕ, ◌<◌, length, get_or}
use Rattle.gs_gf256.specs.Field.{product}
use Rattle.gs_gf256.specs.Table.{times, table_at}
use Rattle.gs_rs.specs.AbsentRows.{shard_weight}
use Rattle.gs_rs.proofs.shape.CodeShape.weight_tables.Given as goal

abbrev pub invariant-loop-row : goal.invariant-loop-row
invariant-loop-row l = (r i x : ℕ) → r < l.row → i < l.self.data → x < 256
    → times l.tables (table_at (length l.targets) i r) x ≡ product (shard_weight l.self l.chosen (get_or l.targets r 0) i) x
