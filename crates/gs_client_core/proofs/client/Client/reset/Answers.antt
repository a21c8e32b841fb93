use Rattle.gs_fecqueue.proofs.Given.{stands-reset}
use Rattle.gs_client_core.proofs.client.Client.reset.Goals as goal

pub returns : goal.returns
returns c = λ client came sound stands.
    record {
      has_window = stands.has_window;
      packet = stands.packet;
      queue = stands-reset c.args.self.now.queue client came stands.queue;
      depack = c.reset.ensures client came stands.depack;
      audio = stands.audio;
    }
