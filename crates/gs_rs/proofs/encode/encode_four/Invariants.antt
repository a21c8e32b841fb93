use Rattle.std.proofs.Common.{◌+◌, ◌*◌, min}
use Rattle.gs_rs.specs.GroupRows.{RowsMade, row_value}
use Rattle.gs_rs.proofs.encode.encode_four.Given as goal

-- all blocks before this one are made
abbrev pub invariant-loop-block : goal.invariant-loop-block
invariant-loop-block l = RowsMade 4 l.len (λ r. (l.row + r) * l.len) (row_value l.source l.len l.numbers l.tables 4) 0 0 (min (l.block * 32) l.len)
    l.fn.parity l.parity
