-- the splitter stays, and the datagrams so far are the first ones of the frame, one for each turn
use Rattle.std.proofs.Common.{◌≡◌, length, map}
use Rattle.std.specs.Vec.{vec_items}
use Rattle.gsbench.proofs.Splits.{AreFirst}
use Rattle.gsbench.proofs.receive.datagrams_of.Given as goal

abbrev pub invariant-datagrams : goal.invariant-datagrams
invariant-datagrams l = record {
  stays : l.splitter ≡ l.initial.splitter;
  first : AreFirst l.splitter l.unit l.k (map vec_items l.all.items);
  long : length l.all.items ≡ l.k;
}
