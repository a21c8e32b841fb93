use Rattle.std.proofs.Common.{[], ap, refl, ◌∙◌}
use Rattle.gs_rtp.specs.Stream.{numbers_of}
use Rattle.gs_frames.specs.Client.{ClientSettings, Datagram}
use Rattle.gs_frames.specs.Handed.{newly_handed}
use Rattle.gsbench.specs.Checksum.{fnv_1a}
use Rattle.gsbench.specs.Making.{with_window}
use Rattle.gsbench.proofs.new_client.make.Goals as goal

pub returns-clause-sum : goal.returns-clause-sum
returns-clause-sum c =
    let d : ClientSettings = with_window (numbers_of c.args.settings.now) c.args.window in
    let stands = c.in_ok-client.ensures d refl refl in
    c.checksum.ensures ∙ ap fnv_1a (c.first_unit.ensures (newly_handed d (Datagram c.args.datagram.now) []) (c.take.ensures.units d [] [] stands))
