use Rattle.std.proofs.Common.{refl}
use Rattle.gs_trial.proofs.Timers.{passes, passes_not}
use Rattle.gs_trial.proofs.trial.Trial.pass.Goals as goal

pub returns-in_default-clause-ran : goal.returns-in_default-clause-ran
returns-in_default-clause-ran c = passes_not c.args.self.now c.args.self.now c.args.by refl c.in_default.ensures.none

pub returns-clause-ran : goal.returns-clause-ran
returns-clause-ran c =
    let later = c.in-Some.ensures.some in
    let timers = c.in_ok-run_timers.ensures in
    passes c.args.self.now _ c.args.by c.in-Some.moment later.0 later.1 timers.feed.0 refl timers.timed
