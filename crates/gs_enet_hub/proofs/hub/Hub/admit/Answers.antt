use Rattle.std.proofs.Common.{ap, ◌∙◌, inr}
use Rattle.gs_enet_hub.specs.Seating.{Seating, member}
use Rattle.gs_enet_hub.proofs.Seatings.{comes, come_here, come_apart, taking}
use Rattle.gs_enet_hub.proofs.hub.Hub.admit.Goals as goal

pub invariant_of-self-2 : goal.invariant_of-self-2
invariant_of-self-2 c =
    comes c.self.inside.seats.items c.self.inside.peers c.insert.new.self c.args.key c.in_ok-place.place c.args.from c.args.connect.now.connect_id
    c.in_ok-peer.peer c.self.invariant c.requires.free.below c.in_ok-place.ensures.was_vacant c.in_ok-place.ensures.updates

pub returns : goal.returns
returns c =
    inr (
      c.requires.unknown,
      record {
        least = c.requires.free;
        peer = c.in_ok-peer.peer;
        made = come_here c.self.inside.seats.items c.self.inside.peers c.insert.new.self c.args.key c.in_ok-place.place c.args.from
            c.args.connect.now.connect_id c.in_ok-peer.peer c.self.invariant c.requires.free.below c.in_ok-place.ensures.updates;
        stands = c.in_ok-peer.ensures;
        others = λ k apart. come_apart c.self.inside.seats.items c.self.inside.peers c.insert.new.self c.args.key c.in_ok-place.place
            (taking c.in_ok-place.place c.args.from c.args.connect.now.connect_id) c.in_ok-peer.peer c.self.invariant c.in_ok-place.ensures.was_vacant
            c.in_ok-place.ensures.updates k apart
            ∙ ap (λ (s : Seating). member s k) c.self.view_is;
      },
    )
