use Rattle.std.proofs.Common.{◌≡◌, ℕ, List, take}
use Rattle.gs_audio.specs.Sending.{HasPushed, last_datagrams}
use Rattle.gs_host_core.specs.Puts.{PutsAll, link_told}
use Rattle.gs_host_core.proofs.sound.put_ready.Given as goal

-- those before this one were put
abbrev pub invariant-ready : goal.invariant-ready
invariant-ready g l =
    let link = g.L.Link in
    record {
      put : (units : List (List ℕ)) → HasPushed l.sender units
          → PutsAll (link_told link l.initial.link) (link_told link l.link) l.to
          (take l.k (last_datagrams l.sender.settings units));
      counted : link.faults l.link ≡ link.faults l.initial.link;
    }
