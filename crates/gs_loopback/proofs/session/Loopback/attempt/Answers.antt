use Rattle.std.proofs.Common.{sym, subst}
use Rattle.std.proofs.lemmas.Result.{IfOk-weaker}
use Rattle.gs_loopback.specs.declared.delivery.Delivery.{Delivery}
use Rattle.gs_loopback.specs.Running.{run_delivery}
use Rattle.gs_loopback.specs.Outcomes.{Attempts}
use Rattle.gs_loopback.proofs.Ends.{takes_up, takes_down}
use Rattle.gs_loopback.proofs.session.Loopback.attempt.Goals as goal

pub returns-in-Up-clause-attempted : goal.returns-in-Up-clause-attempted
returns-in-Up-clause-attempted c =
    IfOk-weaker c.take_up.result _ _
    (λ done took scene part at h.
    subst (λ (d : Delivery). Attempts scene (run_delivery d) part done (record c.args.self.now { host = c.take_up.new.self }) c.args.reporter.now
    c.take_up.new.reporter)
    (sym c.in-Up.is)
    (takes_up scene c.args.now c.in-Up.number part done c.args.self.now c.take_up.new.self c.args.reporter.now c.take_up.new.reporter at h
    (took scene.session scene.ticks part h.host (c.side.ensures scene.session part h.client))))
    c.take_up.ensures.took

pub returns-in-Down-clause-attempted : goal.returns-in-Down-clause-attempted
returns-in-Down-clause-attempted c =
    IfOk-weaker c.take_down.result _ _
    (λ done took scene part at h.
    subst (λ (d : Delivery). Attempts scene (run_delivery d) part done (record c.args.self.now { client = c.take_down.new.self }) c.args.reporter.now
    c.take_down.new.reporter)
    (sym c.in-Down.is)
    (takes_down scene c.args.now c.in-Down.number part done c.args.self.now c.take_down.new.self c.args.reporter.now c.take_down.new.reporter at h
    (took scene.session part h.client (c.side-in-Down.ensures scene.session scene.ticks part h.host))))
    c.take_down.ensures

pub returns-in-Video-clause-attempted : goal.returns-in-Video-clause-attempted
returns-in-Video-clause-attempted c =
    IfOk-weaker c.take_video.result _ _
    (λ done took scene part at h.
    subst (λ (d : Delivery). Attempts scene (run_delivery d) part done c.take_video.new.self c.args.reporter.now c.take_video.new.reporter)
    (sym c.in-Video.is) (took scene part h))
    c.take_video.ensures.attempted

pub returns-in-Audio-clause-attempted : goal.returns-in-Audio-clause-attempted
returns-in-Audio-clause-attempted c =
    IfOk-weaker c.take_audio.result _ _
    (λ done took scene part at h.
    subst (λ (d : Delivery). Attempts scene (run_delivery d) part done c.take_audio.new.self c.args.reporter.now c.take_audio.new.reporter)
    (sym c.in-Audio.is) (took scene part h))
    c.take_audio.ensures.attempted
