use Rattle.std.proofs.Common.{◌≡◌, None, take}
use Rattle.std.specs.List.{find}
use Rattle.gs_enet.specs.Steps.{had_last_wait}
use Rattle.gs_enet.specs.Channels.{all_held}
use Rattle.gs_enet.proofs.holding.first_lost.Given as goal

abbrev pub invariant-loop-index : goal.invariant-loop-index
invariant-loop-index l = find (had_last_wait l.now) (all_held 0 (take l.index l.channels)) ≡ None
