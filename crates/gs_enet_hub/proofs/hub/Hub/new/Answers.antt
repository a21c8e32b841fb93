use Rattle.gs_enet_hub.proofs.Seatings.{empty_seating}
use Rattle.gs_enet_hub.proofs.hub.Hub.new.Goals as goal

pub invariant_of-result : goal.invariant_of-result
invariant_of-result c = empty_seating c.in_ok-empty_seats.field-0.items c.new.result c.in_ok-empty_seats.ensures
