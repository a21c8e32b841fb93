use Rattle.std.proofs.Common.{◌≡◌, arith}
use Rattle.gs_trial.proofs.GeneratedSteps.{steps_all, steps_more}
use Rattle.gs_trial.proofs.generated_steps.generated_steps.Goals as goal

pub ticks-preserved : goal.ticks-preserved
ticks-preserved c = steps_more c.ticks.tick _ _ _ c.ticks.invariant c.in_ok-push_all-2.ensures c.tick_steps.ensures

pub returns : goal.returns
returns c =
    let end : c.ticks.tick ≡ c.args.ticks = omega arith in
    record { steps = steps_all c.args.ticks c.ticks.tick _ _ _ end c.ticks.invariant c.in_ok-push_all-3.ensures c.end_steps.ensures }
