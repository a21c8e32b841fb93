use Rattle.std.proofs.Common.{refl, ap, ◌∙◌}
use Rattle.gs_frames.specs.Plan.{BlockPlan, fec_plan}
use Rattle.gs_split.proofs.Blocks.{plan-is, zeros-behind}
use Rattle.gs_split.proofs.plan.plan_of.Goals as goal

pub returns-clause-blocks : goal.returns-clause-blocks
returns-clause-blocks c =
    let n = c.packets_of-packets in
    let count = c.blocks_at-blocks in
    let settings = c.args.settings.now in
    plan-is n.result count.result c.percentage_at-percentage.result settings.percentage settings.minimum
    c.block_of-a.result c.block_of-b.result c.block_of-c.result c.block_of-d.result
    n.ensures.least n.ensures.most settings.percentage_greatest settings.minimum_greatest
    (record { some = count.ensures.some; few = count.ensures.few; room = count.ensures.room })
    count.ensures.is c.percentage_at-percentage.ensures.is
    (record { first = c.block_of-a.ensures; second = c.block_of-b.ensures; third = c.block_of-c.ensures; fourth = c.block_of-d.ensures })
    ∙ ap (λ k. fec_plan k settings.percentage settings.minimum) n.ensures.is

pub returns-clause-shards : goal.returns-clause-shards
returns-clause-shards c =
    let count = c.blocks_at-blocks in
    zeros-behind (λ (p : BlockPlan). p.data_shards) c.packets_of-packets.result count.result c.percentage_at-percentage.result
    c.args.settings.now.minimum c.block_of-a.result c.block_of-b.result c.block_of-c.result c.block_of-d.result refl
    (record { some = count.ensures.some; few = count.ensures.few; room = count.ensures.room })
    (record { first = c.block_of-a.ensures; second = c.block_of-b.ensures; third = c.block_of-c.ensures; fourth = c.block_of-d.ensures })

pub returns-clause-parity : goal.returns-clause-parity
returns-clause-parity c =
    let count = c.blocks_at-blocks in
    zeros-behind (λ (p : BlockPlan). p.parity_shards) c.packets_of-packets.result count.result c.percentage_at-percentage.result
    c.args.settings.now.minimum c.block_of-a.result c.block_of-b.result c.block_of-c.result c.block_of-d.result refl
    (record { some = count.ensures.some; few = count.ensures.few; room = count.ensures.room })
    (record { first = c.block_of-a.ensures; second = c.block_of-b.ensures; third = c.block_of-c.ensures; fourth = c.block_of-d.ensures })

pub returns-clause-sent : goal.returns-clause-sent
returns-clause-sent c =
    let count = c.blocks_at-blocks in
    zeros-behind (λ (p : BlockPlan). p.percentage) c.packets_of-packets.result count.result c.percentage_at-percentage.result
    c.args.settings.now.minimum c.block_of-a.result c.block_of-b.result c.block_of-c.result c.block_of-d.result refl
    (record { some = count.ensures.some; few = count.ensures.few; room = count.ensures.room })
    (record { first = c.block_of-a.ensures; second = c.block_of-b.ensures; third = c.block_of-c.ensures; fourth = c.block_of-d.ensures })
