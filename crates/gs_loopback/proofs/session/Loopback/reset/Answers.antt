use Rattle.gs_run.specs.Deed.{Reset}
use Rattle.gs_loopback.proofs.Turns.{call_ran}
use Rattle.gs_loopback.proofs.Ends.{resets}
use Rattle.gs_loopback.proofs.session.Loopback.reset.Goals as goal

pub returns-clause-ran : goal.returns-clause-ran
returns-clause-ran c =
    call_ran Reset c.in_ok-done.done c.args.now c.args.self.now (record c.args.self.now { client = c.reset.new.self }) c.settle_if.new.self
    c.args.reporter.now c.reset.new.reporter c.settle_if.result
    (λ scene part at h.
    resets scene part c.in_ok-done.done c.args.self.now c.reset.new.self c.args.reporter.now c.reset.new.reporter h
    (c.in_ok-done.ensures scene.session part h.client))
    c.settle_if.ensures.same c.settle_if.ensures.settled
