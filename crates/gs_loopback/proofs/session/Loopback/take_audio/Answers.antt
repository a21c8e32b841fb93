use Rattle.std.proofs.Common.{sym, ap, ◌∙◌}
use Rattle.std.specs.Option.{option_copied}
use Rattle.gs_loopback.proofs.Ends.{no_audio, takes_audio}
use Rattle.gs_loopback.proofs.session.Loopback.take_audio.Goals as goal

pub returns-in_default-clause-attempted : goal.returns-in_default-clause-attempted
returns-in_default-clause-attempted c =
    λ scene part h.
    no_audio scene c.args.number part c.args.self.now c.args.reporter.now
    (sym (c.audio.ensures scene.session scene.ticks part h.host) ∙ ap option_copied c.in_default.is)

pub returns-clause-attempted : goal.returns-clause-attempted
returns-clause-attempted c =
    λ scene part h.
    takes_audio scene c.args.number c.in-Some.datagram.now part c.args.self.now c.take_audio.new.self
    c.args.reporter.now c.take_audio.new.reporter h
    (sym (c.audio.ensures scene.session scene.ticks part h.host) ∙ ap option_copied c.in-Some.is)
    (c.in_ok-take_audio.ensures scene.session part h.client)
