use Rattle.std.proofs.Common.{refl}
use Rattle.gs_client_end.proofs.Streams.{audio_taken}
use Rattle.gs_client_end.proofs.end.ClientEnd.take_audio.Goals as goal

pub returns : goal.returns
returns c = λ session part h.
    audio_taken c.args.self.now _ session part c.args.datagram.now c.in_ok-units.units c.give_audio.new.client c.args.reporter.now
    c.give_audio.new.reporter h (c.in_ok-units.ensures part.settings part.came part.sound h.client) refl refl refl refl refl refl refl c.in_ok-self.ensures
