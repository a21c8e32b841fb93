use Rattle.std.proofs.Common.{◌<◌, ℕ, None, slice_index_or}
use Rattle.gs_enet_hub.specs.Seats.{IsTaken}
use Rattle.gs_enet_hub.proofs.seat.first_free.Given as goal

abbrev pub invariant-free : goal.invariant-free
invariant-free l = (k : ℕ) → k < l.key → IsTaken (slice_index_or l.seats k None)
