use Rattle.std.proofs.Common.{◌<◌, ℕ, None, slice_index_or}
use Rattle.gs_enet_hub.specs.Seats.{IsSeatOf}
use Rattle.gs_enet_hub.proofs.seat.seat_of.Given as goal

abbrev pub invariant-seats : goal.invariant-seats
invariant-seats l = (k : ℕ) → k < l.key → IsSeatOf l.from l.connect_id (slice_index_or l.seats k None) → ⊥
