use Rattle.std.proofs.Common.{ℕ, sym, subst}
use Rattle.std.proofs.lemmas.Result.{on_ok_weaker}
use Rattle.gs_run.specs.Connection.{settled_part}
use Rattle.gs_run.specs.Pump.{marked}
use Rattle.gs_loopback.specs.Standing.{IsLoopbackOf}
use Rattle.gs_loopback.proofs.Ends.{marks_move}
use Rattle.gs_loopback.proofs.session.Loopback.mark.Goals as goal

pub returns-clause-marked : goal.returns-clause-marked
returns-clause-marked c =
    on_ok_weaker c.settle.result
    (λ settles scene part at h.
    subst (λ (m : ℕ). IsLoopbackOf c.settle.new.self scene.session scene.ticks (settled_part m (marked scene part))) (sym at)
    (settles scene.session scene.ticks (marked scene part)
    (marks_move scene part c.args.self.now c.ends-self.result h (c.ends-self.ensures scene part h))))
    c.settle.ensures.settled
