use Rattle.gs_run.specs.Deed.{AskIdr}
use Rattle.gs_loopback.proofs.Turns.{call_ran}
use Rattle.gs_loopback.proofs.Ends.{asks_idr}
use Rattle.gs_loopback.proofs.session.Loopback.ask_idr.Goals as goal

pub returns-clause-ran : goal.returns-clause-ran
returns-clause-ran c =
    call_ran AskIdr c.in_ok-done.done c.args.now c.args.self.now (record c.args.self.now { client = c.ask_idr.new.self }) c.settle_if.new.self
    c.args.reporter.now c.ask_idr.new.reporter c.settle_if.result
    (λ scene part at h.
    asks_idr scene part c.in_ok-done.done c.args.self.now c.ask_idr.new.self c.args.reporter.now c.ask_idr.new.reporter h
    (c.in_ok-done.ensures scene.session part h.client))
    c.settle_if.ensures.same c.settle_if.ensures.settled
