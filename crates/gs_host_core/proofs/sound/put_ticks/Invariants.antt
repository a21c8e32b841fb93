use Rattle.std.proofs.Common.{◌≡◌, ◌≤◌, ◌+◌, ◌++◌, ℕ, List, length, take}
use Rattle.std.specs.List.{flat_map}
use Rattle.gs_audio.specs.Sending.{HasPushed}
use Rattle.gs_host_core.specs.Puts.{PutsAll, link_told}
use Rattle.gs_host_core.specs.Sounds.{sound_behind}
use Rattle.gs_host_core.proofs.sound.put_ticks.Given as goal

-- the audio of the ticks before this one was pushed, and its datagrams put
abbrev pub invariant-ticks : goal.invariant-ticks
invariant-ticks g l =
    let link = g.L.Link in
    record {
      settings : l.sender.settings ≡ l.initial.sender.settings;
      count : l.sender.pushed ≤ l.initial.sender.pushed + length (flat_map (λ t. t.value.audio) (take l.tick-index l.ticks));
      pushed : (before : List (List ℕ)) → HasPushed l.initial.sender before
          → HasPushed l.sender (before ++ flat_map (λ t. t.value.audio) (take l.tick-index l.ticks));
      put : (before : List (List ℕ)) → HasPushed l.initial.sender before
          → PutsAll (link_told link l.initial.link) (link_told link l.link) l.to
          (sound_behind l.initial.sender.settings before (flat_map (λ t. t.value.audio) (take l.tick-index l.ticks)));
      counted : link.faults l.link ≡ link.faults l.initial.link;
    }
