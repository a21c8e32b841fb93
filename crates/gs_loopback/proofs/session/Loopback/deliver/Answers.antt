use Rattle.std.proofs.Common.{Bool, true, false, subst}
use Rattle.gs_loopback.specs.Running.{run_delivery}
use Rattle.gs_loopback.specs.Outcomes.{Attempts}
use Rattle.gs_loopback.proofs.Turns.{one_refused, attempt_ran}
use Rattle.gs_loopback.proofs.session.Loopback.deliver.Goals as goal

pub returns-then-not-branch-clause-ran : goal.returns-then-not-branch-clause-ran
returns-then-not-branch-clause-ran c =
    λ scene part at h.
    let did : Attempts scene (run_delivery c.args.delivery) part false c.attempt.new.self c.args.reporter.now c.attempt.new.reporter =
    subst (λ (b : Bool). Attempts scene (run_delivery c.args.delivery) part b c.attempt.new.self c.args.reporter.now c.attempt.new.reporter)
    c.if-not-branch.true (c.in_ok-attempt.ensures.attempted scene part at h) in
    one_refused scene (run_delivery c.args.delivery) part c.attempt.new.self c.args.reporter.now c.attempt.new.reporter did.0 did.1

pub returns-clause-ran : goal.returns-clause-ran
returns-clause-ran c =
    λ scene part at h.
    attempt_ran scene (run_delivery c.args.delivery) part true c.args.now c.attempt.new.self c.settle.new.self
    c.args.reporter.now c.attempt.new.reporter at
    (subst (λ (b : Bool). Attempts scene (run_delivery c.args.delivery) part b c.attempt.new.self c.args.reporter.now c.attempt.new.reporter)
    c.if-not-branch.false (c.in_ok-attempt.ensures.attempted scene part at h))
    (λ _. c.in_ok-settle.ensures.settled)
