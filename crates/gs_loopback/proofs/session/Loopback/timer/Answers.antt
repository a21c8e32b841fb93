use Rattle.std.proofs.lemmas.Result.{on_ok_weaker}
use Rattle.gs_client_end.specs.Outcomes.{client_timed}
use Rattle.gs_loopback.proofs.Ends.{client_times, times}
use Rattle.gs_loopback.proofs.session.Loopback.timer.Goals as goal

pub returns-clause-timed : goal.returns-clause-timed
returns-clause-timed c =
    on_ok_weaker c.timer-2.result
    (λ timed session ticks part h.
    times session ticks c.args.now part c.args.self.now c.timer.new.self c.timer-2.new.self
    c.args.reporter.now c.timer.new.reporter c.timer-2.new.reporter h (c.in_ok-timer.ensures session part h.client)
    (timed session ticks (client_timed session c.args.now part).value (client_times session ticks c.args.now part c.args.self.now h)))
    c.timer-2.ensures.timed
