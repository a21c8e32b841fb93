use Rattle.std.proofs.Common.{sym, ap, ◌∙◌}
use Rattle.std.specs.Option.{option_copied}
use Rattle.std.proofs.lemmas.Result.{IfOk-weaker}
use Rattle.gs_loopback.proofs.Ends.{no_video, takes_video}
use Rattle.gs_loopback.proofs.session.Loopback.take_video.Goals as goal

pub returns-in_default-clause-attempted : goal.returns-in_default-clause-attempted
returns-in_default-clause-attempted c =
    λ scene part h.
    no_video scene c.args.number part c.args.self.now c.args.reporter.now
    (sym (c.video.ensures scene.session scene.ticks part h.host) ∙ ap option_copied c.in_default.is)

pub returns-clause-attempted : goal.returns-clause-attempted
returns-clause-attempted c =
    IfOk-weaker c.take_video.result _ _
    (λ done took scene part h.
    takes_video scene c.args.number c.in-Some.datagram.now part done c.args.self.now c.take_video.new.self
    c.args.reporter.now c.take_video.new.reporter h
    (sym (c.video.ensures scene.session scene.ticks part h.host) ∙ ap option_copied c.in-Some.is)
    (took scene.session part h.client))
    c.take_video.ensures
