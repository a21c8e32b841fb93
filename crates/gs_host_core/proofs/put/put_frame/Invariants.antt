use Rattle.std.proofs.Common.{◌≡◌, take}
use Rattle.gs_frames.specs.Datagrams.{OutgoingFrame, frame_datagrams}
use Rattle.gs_split.specs.Splitting.{IsLoaded}
use Rattle.gs_host_core.specs.Puts.{PutsAll, link_told}
use Rattle.gs_host_core.proofs.put.put_frame.Given as goal

-- those before this one were put
abbrev pub invariant-datagrams : goal.invariant-datagrams
invariant-datagrams g l =
    let link = g.L.Link in
    record {
      kept : l.splitter ≡ l.initial.splitter;
      put : (sent : OutgoingFrame) → IsLoaded l.initial.splitter sent → sent.unit ≡ l.unit
          → PutsAll (link_told link l.initial.link) (link_told link l.link) l.to
          (take l.k (frame_datagrams l.initial.splitter.settings sent));
      counted : link.faults l.link ≡ link.faults l.initial.link;
    }
