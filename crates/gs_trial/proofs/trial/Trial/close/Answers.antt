use Rattle.std.proofs.Common.{[], ◌∷◌, refl}
use Rattle.gs_run.specs.Deed.{Close}
use Rattle.gs_bytes.proofs.Cases.{on_ok}
use Rattle.gs_trial.proofs.Acting.{runs_in, runs_nowhere}
use Rattle.gs_trial.proofs.Keeping.{ready_sent}
use Rattle.gs_trial.proofs.trial.Trial.close.Goals as goal

pub returns-in_err-place-clause-ran : goal.returns-in_err-place-clause-ran
returns-in_err-place-clause-ran c =
    runs_nowhere c.args.self.now _ c.args.session Close [] c.from_residual.result c.in_err-place.field-0.0 c.from_residual.ensures.1
    c.in_err-place.ensures.err refl

pub returns-clause-ran : goal.returns-clause-ran
returns-clause-ran c =
    runs_in c.args.self.now _ c.args.session c.in_ok-place.place c.index_mut.result.now c.close.new.self (Close ∷ []) c.in_ok-done.done c.allowed.result
    c.allowed.ensures c.in_ok-place.ensures.ok.0 c.in_ok-place.ensures.ok.1 c.index_mut.ensures.value (record { feed = refl; moment = refl; sessions = refl })
    (λ scene part captured moment stands. c.in_ok-done.ensures.ran scene part c.args.self.now.reporter moment stands)

pub returns-clause-ready : goal.returns-clause-ready
returns-clause-ready c =
    on_ok c.allowed.result _
    (ready_sent c.args.self.now _ c.in_ok-place.place c.index_mut.result.now c.close.new.self refl refl c.in_ok-place.ensures.ok.1 c.index_mut.ensures.value
    c.in_ok-done.ensures.sent c.requires.ready)
