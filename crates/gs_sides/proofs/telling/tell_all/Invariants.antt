use Rattle.std.proofs.Common.{length}
use Rattle.gs_sides.proofs.Tellings.{Telling}
use Rattle.gs_sides.proofs.telling.tell_all.Given as goal

abbrev pub invariant-events : goal.invariant-events
invariant-events l = Telling l.fn.peer l.fn.was_open l.events.items l.is_open l.peer

abbrev pub decreases-events : goal.decreases-events
decreases-events l = length l.peer.waiting.items
