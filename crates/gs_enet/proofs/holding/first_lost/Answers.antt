use Rattle.std.proofs.Common.{sym, arith, ◌∙◌}
use Rattle.gs_enet.proofs.Flat.{lost_here, none_more, none_at_all}
use Rattle.gs_enet.proofs.holding.first_lost.Goals as goal

pub returns-in-Some : goal.returns-in-Some
returns-in-Some c =
    sym (lost_here c.args.now c.loop-index.index c.in-Some.number c.args.channels.now c.index-channels-index.result
    (omega arith) c.loop-index.invariant c.index-channels-index.is c.in-Some.ensures)

pub loop-index-preserved : goal.loop-index-preserved
loop-index-preserved c = none_more c.args.now c.loop-index.index c.args.channels.now c.index-channels-index.result
    (omega arith) c.loop-index.invariant c.index-channels-index.is c.in_default.ensures
