use Rattle.std.proofs.Common.{[], ◌∷◌, Ok, true, refl}
use Rattle.gs_run.specs.Deed.{Turn}
use Rattle.gs_trial.proofs.Acting.{runs_in, runs_nowhere}
use Rattle.gs_trial.proofs.Keeping.{ready_with}
use Rattle.gs_trial.proofs.trial.Trial.turn.Goals as goal

pub returns-in_err-place-clause-ran : goal.returns-in_err-place-clause-ran
returns-in_err-place-clause-ran c =
    runs_nowhere c.args.self.now _ c.args.session Turn [] c.from_residual.result c.in_err-place.field-0.0 c.from_residual.ensures.1
    c.in_err-place.ensures.err refl

pub returns-clause-ran : goal.returns-clause-ran
returns-clause-ran c =
    runs_in c.args.self.now _ c.args.session c.in_ok-place.place c.index_mut.result.now c.turn.new.self (Turn ∷ []) true (Ok tt)
    refl c.in_ok-place.ensures.ok.0 c.in_ok-place.ensures.ok.1 c.index_mut.ensures.value (record { feed = refl; moment = refl; sessions = refl })
    (λ scene part captured moment stands. c.in_ok-turn.ensures.ran scene part captured moment stands)

pub returns-clause-ready : goal.returns-clause-ready
returns-clause-ready c =
    ready_with c.args.self.now _ c.in_ok-place.place c.turn.new.self refl refl c.in_ok-turn.ensures.keeps c.requires.ready
