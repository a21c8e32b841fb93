use Rattle.std.proofs.Common.{◌≡◌, ◌+◌, ◌++◌, ℕ, List, take}
use Rattle.gs_audio.specs.Sending.{HasPushed}
use Rattle.gs_host_core.specs.Puts.{PutsAll, link_told}
use Rattle.gs_host_core.specs.Sounds.{sound_behind}
use Rattle.gs_host_core.proofs.sound.put_units.Given as goal

-- the units before this one were pushed, and their datagrams put
abbrev pub invariant-units : goal.invariant-units
invariant-units g l =
    let link = g.L.Link in
    record {
      settings : l.sender.settings ≡ l.initial.sender.settings;
      count : l.sender.pushed ≡ l.initial.sender.pushed + l.unit-index;
      pushed : (before : List (List ℕ)) → HasPushed l.initial.sender before → HasPushed l.sender (before ++ take l.unit-index l.units);
      put : (before : List (List ℕ)) → HasPushed l.initial.sender before
          → PutsAll (link_told link l.initial.link) (link_told link l.link) l.to
          (sound_behind l.initial.sender.settings before (take l.unit-index l.units));
      counted : link.faults l.link ≡ link.faults l.initial.link;
    }
