use Rattle.std.proofs.Common.{◌≡◌, ◌≢◌, ℕ, ◌<◌, get_or}
use Rattle.gs_gf256.specs.Field.{product}
use Rattle.gs_gf256.specs.Table.{times, table_at}
use Rattle.gs_rs.proofs.group.write_tables.Given as goal

abbrev pub invariant-loop-i : goal.invariant-loop-i
invariant-loop-i l = record {
  written : (i x : ℕ) → i < l.i → x < 256 → times l.tables (table_at l.rows i l.row) x ≡ product (get_or l.factors i 0) x;
  others : (i r x : ℕ) → i < l.count → r < l.rows → r ≢ l.row → x < 256
      → times l.tables (table_at l.rows i r) x ≡ times l.initial.tables (table_at l.rows i r) x;
}
