use Rattle.gs_loopback.proofs.Turns.{close_ran}
use Rattle.gs_loopback.proofs.Ends.{closes}
use Rattle.gs_loopback.proofs.session.Loopback.close.Goals as goal

pub returns-clause-ran : goal.returns-clause-ran
returns-clause-ran c =
    close_ran c.close-done.result c.args.now c.args.self.now (record c.args.self.now { client = c.close-done.new.self }) c.settle_if.new.self
    c.settle_if.result
    (λ scene part before h.
    closes scene part c.close-done.result c.args.self.now c.close-done.new.self before h (c.close-done.ensures.closes scene.session part h.client))
    c.settle_if.ensures.same c.settle_if.ensures.settled
