use Rattle.gs_rtp.specs.Stream.{numbers_of}
use Rattle.gs_split.proofs.PlannedFrames.{limits_of, plan-counts}
use Rattle.gs_split.proofs.frame.LoadedFrame.plan.Goals as goal

pub datagrams-requires-clause-some : goal.datagrams-requires-clause-some
datagrams-requires-clause-some c =
    (plan-counts (numbers_of c.args.settings.now) c.plan_of-plan.result c.args.unit_length (limits_of c.args.settings.now) c.requires.limit
    c.plan_of-plan.ensures.blocks).0

pub datagrams-requires-clause-few : goal.datagrams-requires-clause-few
datagrams-requires-clause-few c =
    (plan-counts (numbers_of c.args.settings.now) c.plan_of-plan.result c.args.unit_length (limits_of c.args.settings.now) c.requires.limit
    c.plan_of-plan.ensures.blocks).1
