use Rattle.std.proofs.Common.{◌≡◌, ◌∙◌, ℕ, List, map, refl, sym, subst, ap}
use Rattle.gs_run.specs.Deed.{TakeVideo, Deed, In}
use Rattle.gs_run.specs.Line.{videos}
use Rattle.gs_loopback.specs.Running.{video_deeds}
use Rattle.gs_trial.specs.Stepping.{RunsIn}
use Rattle.gs_bytes.proofs.Cases.{on_ok}
use Rattle.gs_trial.proofs.InSessions.{videos_are, videos_first}
use Rattle.gs_trial.proofs.Acting.{runs_as, runs_nowhere}
use Rattle.gs_trial.proofs.Keeping.{ready_sent}
use Rattle.gs_trial.proofs.trial.Trial.deliver_videos.Goals as goal

pub returns-in_err-place-clause-ran : goal.returns-in_err-place-clause-ran
returns-in_err-place-clause-ran c =
    let first = videos_first c.args.session c.args.first c.args.last c.requires.order in
    subst (λ (deeds : List Deed). RunsIn c.args.self.now deeds c.args.self.now c.from_residual.result) (sym first.1)
    (runs_nowhere c.args.self.now c.args.self.now c.args.session (TakeVideo c.args.first) first.0 c.from_residual.result c.in_err-place.field-0.0
    c.from_residual.ensures.1 c.in_err-place.ensures.err refl)

pub returns-clause-ran : goal.returns-clause-ran
returns-clause-ran c =
    let first = c.from-first.result in
    let last = c.from-last.result in
    let same : map (In c.args.session) (video_deeds first last) ≡ videos c.args.session c.args.first c.args.last =
    videos_are c.args.session first last ∙ ap (λ (k : ℕ). videos c.args.session k last) c.from-first.ensures
    ∙ ap (λ (k : ℕ). videos c.args.session c.args.first k) c.from-last.ensures in
    runs_as c.args.self.now _ c.args.session c.in_ok-place.place c.index_mut.result.now c.deliver_videos.new.self (video_deeds first last) _ c.in_ok-done.done
    c.allowed.result same c.allowed.ensures c.in_ok-place.ensures.ok.0 c.in_ok-place.ensures.ok.1 c.index_mut.ensures.value
    (record { feed = refl; moment = refl; sessions = refl }) (λ scene part captured moment stands. c.in_ok-done.ensures.ran scene part moment stands)

pub returns-clause-ready : goal.returns-clause-ready
returns-clause-ready c =
    on_ok c.allowed.result _
    (ready_sent c.args.self.now _ c.in_ok-place.place c.index_mut.result.now c.deliver_videos.new.self refl refl
    c.in_ok-place.ensures.ok.1 c.index_mut.ensures.value c.in_ok-done.ensures.sent c.requires.ready)
