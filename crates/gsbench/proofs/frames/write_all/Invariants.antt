-- the splitter stays, and the datagram before this one is the last one written
use Rattle.std.proofs.Common.{◌≡◌}
use Rattle.gsbench.proofs.Splits.{Wrote}
use Rattle.gsbench.proofs.frames.write_all.Given as goal

abbrev pub invariant-datagrams : goal.invariant-datagrams
invariant-datagrams l = record {
  stays : l.splitter ≡ l.initial.splitter;
  last : Wrote l.splitter l.unit l.k l.out;
}
