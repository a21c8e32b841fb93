use Rattle.std.proofs.Common.{◌≡◌, ◌≤◌, ◌-◌, length}
use Rattle.gs_enet.specs.Busy.{AreIdle}
use Rattle.gs_enet.specs.Channels.{AreSame}
use Rattle.gs_enet.proofs.holding.find_busy.Given as goal

abbrev pub invariant-channels : goal.invariant-channels
invariant-channels l = record {
  same : AreSame l.initial.channels l.channels;
  from : l.from ≤ l.place;
  to : l.place ≤ l.to;
  idle : AreIdle l.place l.to l.channels;
}

abbrev pub decreases-channels : goal.decreases-channels
decreases-channels l = l.to - l.place
