use Rattle.std.proofs.Common.{◌∙◌}
use Rattle.gs_loopback.proofs.session.Loopback.sums.Goals as goal

pub returns : goal.returns
returns c = λ session ticks part h.
    let client = c.sums-client.ensures session part h.client in
    record {
      frames = c.from.ensures ∙ c.frames.ensures session ticks part h.host;
      handed = client.handed;
      asks = client.asks;
      inputs = c.inputs.ensures session ticks part h.host;
      units = client.units;
    }
