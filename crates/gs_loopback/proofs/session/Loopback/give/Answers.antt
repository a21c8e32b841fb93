use Rattle.gs_run.specs.Deed.{Give}
use Rattle.gs_loopback.proofs.Turns.{call_ran}
use Rattle.gs_loopback.proofs.Ends.{gives}
use Rattle.gs_loopback.proofs.session.Loopback.give.Goals as goal

pub returns-clause-ran : goal.returns-clause-ran
returns-clause-ran c =
    call_ran (Give c.args.event.now) c.in_ok-done.done c.args.now c.args.self.now (record c.args.self.now { client = c.give.new.self }) c.settle_if.new.self
    c.args.reporter.now c.give.new.reporter c.settle_if.result
    (λ scene part at h.
    gives scene c.args.event.now part c.in_ok-done.done c.args.self.now c.give.new.self c.args.reporter.now c.give.new.reporter h
    (c.in_ok-done.ensures scene.session part h.client))
    c.settle_if.ensures.same c.settle_if.ensures.settled
