use Rattle.std.proofs.Common.{◌≡◌, ◌≤◌, ◌-◌, false, length, take}
use Rattle.std.specs.List.{list_any}
use Rattle.gs_enet.specs.Window.{passes, held_due}
use Rattle.gs_enet.proofs.window.next_due.Given as goal

abbrev pub invariant-places : goal.invariant-places
invariant-places l = (l.place ≤ length l.window.items) × (list_any (passes held_due) (take l.place l.window.items) ≡ false)

abbrev pub decreases-places : goal.decreases-places
decreases-places l = length l.window.items - l.place
