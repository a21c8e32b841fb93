-- so many clients were made, and the last one gave this
use Rattle.std.proofs.Common.{◌≡◌, ◌<◌}
use Rattle.gs_rtp.specs.Stream.{numbers_of}
use Rattle.gsbench.specs.Making.{sum_of_new, with_window}
use Rattle.gsbench.proofs.new_client.make_often.Given as goal

abbrev pub invariant-clients : goal.invariant-clients
invariant-clients l = record {
  made : l.made ≡ l.counter;
  last : 0 < l.counter → l.sum ≡ sum_of_new (with_window (numbers_of l.settings) l.window) l.datagram;
}
