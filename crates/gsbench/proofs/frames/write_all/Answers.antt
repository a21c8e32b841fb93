use Rattle.std.proofs.Common.{◌∙◌}
use Rattle.gsbench.proofs.Splits.{wrote_next}
use Rattle.gsbench.proofs.frames.write_all.Goals as goal

pub datagrams-preserved : goal.datagrams-preserved
datagrams-preserved c = record {
  stays = c.datagram.ensures.kept ∙ c.datagrams.invariant.stays;
  last = wrote_next _ _ _ _ _ _ c.datagram.ensures.kept c.datagram.ensures.length c.datagram.ensures.datagram;
}
