use Rattle.std.proofs.Common.{◌≡◌}
use Rattle.gs_trial.proofs.GeneratedSteps.{steps_up_to}
use Rattle.gs_trial.proofs.generated_steps.generated_steps.Given as goal

abbrev pub invariant-ticks : goal.invariant-ticks
invariant-ticks l = l.steps.items ≡ steps_up_to l.tick
