use Rattle.std.proofs.Common.{rules, ◌≡◌, ◌≤◌, ℕ, List, Option, Some, None, length, sym, ap, subst, ◌∙◌}
use Rattle.slab.specs.Slab.{get}
use Rattle.gs_enet.specs.declared.peer.Peer.{Peer}
use Rattle.gs_enet_hub.specs.declared.seat.Seat.{Seat}
use Rattle.gs_enet_hub.specs.Seating.{Seating, seat_of, seated, member, peer_of, place_if, with_peer, PutsPeer}
use Rattle.gs_enet_hub.specs.Routing.{IsLive}
use Rattle.gs_enet_hub.proofs.Seatings.{puts, peer_placed}
use Rattle.gs_enet_hub.proofs.hub.Hub.peer.Goals as goal

pub returns : goal.returns
returns c =
    let seats : List (Option Seat) = c.self.inside.seats.items in
    let same : seat_of c.deref.result.now c.args.key ≡ seat_of seats c.args.key = ap (λ (x : List (Option Seat)). seat_of x c.args.key) c.deref.ensures.value in
    let stands : get c.self.inside.peers c.place_of-place.result ≡ peer_of (seated c.self.inside.peers (seat_of seats c.args.key)) =
    peer_placed c.self.inside.peers (seat_of seats c.args.key) c.place_of-place.result c.self.inside.peers.capacity
    (c.place_of-place.ensures.value ∙ ap (place_if c.self.inside.peers.capacity) same)
    (λ none. c.place_of-place.ensures.past (same ∙ none)) in (
      search rules,
      record {
        lent = tt;
        value = c.get_mut.ensures.value ∙ stands ∙ ap (λ (s : Seating). peer_of (member s c.args.key)) c.self.view_is;
        puts = subst (λ (s : Seating). (p : Peer) → IsLive s c.args.key → PutsPeer s (with_peer s c.args.key p) c.args.key p) c.self.view_is
            (λ p live. puts c.self.inside.seats.items c.self.inside.peers c.args.key p c.self.invariant live);
      },
    )
