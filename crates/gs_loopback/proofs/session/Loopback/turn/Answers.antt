use Rattle.std.proofs.Common.{true}
use Rattle.std.proofs.lemmas.Result.{on_ok_weaker}
use Rattle.gs_run.specs.Deed.{Turn}
use Rattle.gs_loopback.proofs.Turns.{attempt_ran}
use Rattle.gs_loopback.proofs.Ends.{turns}
use Rattle.gs_loopback.proofs.session.Loopback.turn.Goals as goal

pub returns-clause-ran : goal.returns-clause-ran
returns-clause-ran c =
    on_ok_weaker c.settle.result
    (λ settles scene part of at h.
    attempt_ran scene Turn part true c.args.now (record c.args.self.now { host = c.turn.new.self }) c.settle.new.self
    c.args.reporter.now c.turn.new.reporter at
    (turns scene part c.args.self.now c.turn.new.self c.args.reporter.now c.turn.new.reporter h (c.in_ok-turn.ensures.turned scene part of h.host))
    (λ _. settles))
    c.settle.ensures.settled
