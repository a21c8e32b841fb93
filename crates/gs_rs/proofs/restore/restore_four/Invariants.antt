use Rattle.std.proofs.Common.{◌*◌, min, get_or}
use Rattle.gs_rs.specs.GroupRows.{RowsMade, row_value}
use Rattle.gs_rs.proofs.restore.restore_four.Given as goal

-- all blocks before this one are made
abbrev pub invariant-loop-block : goal.invariant-loop-block
invariant-loop-block l = RowsMade 4 l.len (λ r. get_or l.targets r 0 * l.len) (row_value l.fn.shards l.len l.chosen l.tables 4)
    0 0 (min (l.block * 32) l.len) l.fn.shards l.shards
