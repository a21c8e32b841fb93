use Rattle.std.proofs.Common.{◌∙◌, arith}
use Rattle.gs_rs.proofs.Restoring.{numbers_fit}
use Rattle.gs_rs.proofs.TargetRows.{part_apart, group_restored}
use Rattle.gs_rs.proofs.shape.CodeShape.restore_groups_by.Goals as goal

pub restore_four-requires-clause-chosen_in : goal.restore_four-requires-clause-chosen_in
restore_four-requires-clause-chosen_in c =
    numbers_fit c.args.self.now c.args.len c.args.chosen.now c.loop-row.shards c.requires.enough (c.loop-row.auto.shards ∙ c.requires.shards_size)

pub loop-row-preserved : goal.loop-row-preserved
loop-row-preserved c = (
  omega arith,
  group_restored c.args.self.now c.args.len c.loop-row.row 4 c.args.chosen.now c.args.absent.now c.weight_tables.new.tables
      c.args.shards.now c.loop-row.shards c.restore_four.new.shards c.requires.enough c.requires.others (omega arith)
      c.weight_tables.ensures (λ j. (c.type_inv.shards j).fits) c.loop-row.invariant.1 c.restore_four.ensures,
)

pub weight_tables-requires-then-absent-row-ge2-clause-apart :
    goal.weight_tables-requires-then-absent-row-ge2-clause-apart
weight_tables-requires-then-absent-row-ge2-clause-apart c =
    part_apart c.args.chosen.now c.args.absent.now c.loop-row.row 2 (omega arith) c.requires.others

pub restore_two-requires-clause-chosen_in : goal.restore_two-requires-clause-chosen_in
restore_two-requires-clause-chosen_in c =
    numbers_fit c.args.self.now c.args.len c.args.chosen.now c.loop-row.shards c.requires.enough (c.loop-row.auto.shards ∙ c.requires.shards_size)

pub returns-then-absent-row-ge2-clause-made : goal.returns-then-absent-row-ge2-clause-made
returns-then-absent-row-ge2-clause-made c =
    group_restored c.args.self.now c.args.len c.loop-row.row 2 c.args.chosen.now c.args.absent.now c.weight_tables-then-absent-row-ge2.new.tables
    c.args.shards.now c.loop-row.shards c.restore_two.new.shards c.requires.enough c.requires.others (omega arith)
    c.weight_tables-then-absent-row-ge2.ensures (λ j. (c.type_inv.shards j).fits) c.loop-row.invariant.1 c.restore_two.ensures
