use Rattle.std.proofs.Common.{◌∷◌, refl}
use Rattle.gs_frames.specs.Client.{Datagram}
use Rattle.gs_frames.specs.Handed.{newly_handed}
use Rattle.gs_client_core.proofs.Ready.{newly_ready}
use Rattle.gs_client_core.proofs.client.Client.take.Goals as goal

pub returns : goal.returns
returns c =
    let bytes = c.args.datagram.now in (
      (refl, λ _. tt, λ client came sound stands. c.step-what.ensures.stands client came sound stands),
      record {
        what = λ client came sound stands. c.step-what.ensures.what client came sound stands;
        ask = λ client came sound stands. c.step-what.ensures.ask client came sound stands;
        units = λ client came sound stands.
            let after = c.step-what.ensures.stands client came sound stands in
            c.units.ensures client (Datagram bytes ∷ came) sound (newly_handed client (Datagram bytes) came) after
            (newly_ready client came bytes stands.has_window) (c.step-what.ensures.frames client came sound stands);
        stands = tt;
      },
    )
