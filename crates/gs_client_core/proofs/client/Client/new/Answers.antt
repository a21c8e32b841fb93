use Rattle.std.proofs.Common.{[], ap, sym, subst, arith}
use Rattle.gs_rtp.specs.Stream.{StreamSettings}
use Rattle.gs_audio.specs.Standing.{IsAudioQueueOf}
use Rattle.gs_client_core.proofs.client.Client.new.Goals as goal

pub returns : goal.returns
returns c = λ client stream window.
    record {
      has_window = record { least = omega (arith, c.requires.least, window); greatest = omega (arith, c.requires.greatest, window) };
      packet = ap (λ (s : StreamSettings). s.packet) (sym stream);
      queue = c.in_ok-new.ensures client stream window;
      depack = c.new-2.ensures client window;
      audio = subst (λ (s : StreamSettings). IsAudioQueueOf c.in_ok-new-2.field-0 s []) (sym stream) c.in_ok-new-2.ensures;
    }
