use Rattle.std.proofs.Common.{List, Option, sym, ap, ◌∙◌}
use Rattle.gs_enet_hub.specs.declared.seat.Seat.{Seat}
use Rattle.gs_enet_hub.specs.Seating.{Seating, member, seat_of}
use Rattle.gs_enet_hub.proofs.Seatings.{goes, go_apart}
use Rattle.gs_enet_hub.proofs.hub.Hub.remove.Goals as goal

pub invariant_of-self : goal.invariant_of-self
invariant_of-self c =
    goes c.self.inside.seats.items c.self.inside.peers c.try_remove.new.self c.args.key c.in_ok-seat.seat c.self.invariant
    (ap (λ (x : List (Option Seat)). seat_of x c.args.key) (sym c.deref.ensures.value) ∙ sym c.in_ok-seat.ensures)
    c.try_remove.ensures.updates

pub returns-clause-others : goal.returns-clause-others
returns-clause-others c =
    λ k apart. go_apart c.self.inside.seats.items c.self.inside.peers c.try_remove.new.self c.args.key c.in_ok-seat.seat c.self.invariant
    (ap (λ (x : List (Option Seat)). seat_of x c.args.key) (sym c.deref.ensures.value) ∙ sym c.in_ok-seat.ensures) c.try_remove.ensures.updates k apart
    ∙ ap (λ (s : Seating). member s k) c.self.view_is
