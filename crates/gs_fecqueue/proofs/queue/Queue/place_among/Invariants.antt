use Rattle.std.proofs.Common.{◌≢◌}
use Rattle.std.specs.List.{AllWithin}
use Rattle.gs_fecqueue.proofs.queue.Queue.place_among.Given as goal

-- no frame before this one has the number
abbrev pub invariant-places : goal.invariant-places
invariant-places l = AllWithin (λ held. held.number ≢ l.number) l.self.frames.items 0 l.place
