use Rattle.std.proofs.Common.{◌+◌, ◌≡◌, arith}
use Rattle.gs_split.proofs.Counts.{part-rest}
use Rattle.gs_split.proofs.plan.part.Goals as goal

pub returns-then-block-blocks-2-clause-most : goal.returns-then-block-blocks-2-clause-most
returns-then-block-blocks-2-clause-most c =
    let last : c.args.block + 1 ≡ c.args.blocks = omega (arith, c.if-block-blocks-2.true) in
    let rest = part-rest c.args.packets c.args.blocks c.args.block c.div_ceil-each.result last c.requires.room c.div_ceil-each.ensures in
    omega (arith, rest, c.saturating_sub.ensures)
