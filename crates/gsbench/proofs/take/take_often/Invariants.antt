-- the datagrams of the frames before this one were sent, and of this one the first ones; what wasn't lost of them came
use Rattle.std.proofs.Common.{◌≡◌, ℕ, ◌≤◌, ◌+◌, ◌-◌, ◌*◌, ◌^◌, ◌++◌, List, length, map}
use Rattle.std.specs.Vec.{vec_items}
use Rattle.gs_client_core.specs.Standing.{IsClientOf}
use Rattle.gs_frames.specs.Client.{ClientSettings, Arrival}
use Rattle.gsbench.specs.Sending.{arrivals_of, sent_of}
use Rattle.gsbench.proofs.Sendings.{AreSame, newest_first, sent_up_to}
use Rattle.gsbench.proofs.take.take_often.Given as goal

abbrev pub invariant-frames : goal.invariant-frames
invariant-frames l = record {
  least : 1 ≤ l.frame;
  same : AreSame vec_items l.fn.datagrams l.datagrams;
  few : l.sent ≤ (l.frame - 1) * 2 ^ 32;
  sent : l.sent ≡ length (sent_of (l.frame - 1) (map vec_items l.fn.datagrams));
  stands : (c : ClientSettings) (came : List Arrival) (sound : List (List ℕ)) → IsClientOf l.fn.client c came sound
      → IsClientOf l.client c (arrivals_of l.every (l.frame - 1) (map vec_items l.fn.datagrams) ++ came) sound;
}

abbrev pub invariant-datagrams : goal.invariant-datagrams
invariant-datagrams l = record {
  least : 1 ≤ l.frame;
  same : AreSame vec_items l.fn.datagrams l.datagrams;
  few : l.sent ≤ (l.frame - 1) * 2 ^ 32 + l.datagram-index;
  sent : l.sent ≡ length (sent_up_to vec_items l.frame l.datagram-index l.fn.datagrams);
  stands : (c : ClientSettings) (came : List Arrival) (sound : List (List ℕ)) → IsClientOf l.fn.client c came sound
      → IsClientOf l.client c (newest_first l.every (sent_up_to vec_items l.frame l.datagram-index l.fn.datagrams) ++ came) sound;
}
