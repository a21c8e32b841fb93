use Rattle.std.proofs.Common.{◌≡◌, ◌≤◌, ℕ, length, subst, arith}
use Rattle.gs_enet_wire.specs.Grammar.{with_header}
use Rattle.gs_enet.specs.Record.{at_moment}
use Rattle.gs_enet.specs.Receive.{all_received}
use Rattle.gs_enet.specs.Standing.{IsPeerOf}
use Rattle.gs_enet.specs.Rooms.{HasRooms}
use Rattle.gs_enet.proofs.Commands.{few_commands, rooms_after}
use Rattle.gs_enet.proofs.peer.Peer.take_by.Goals as goal

pub make_room-requires : goal.make_room-requires
make_room-requires c =
    let cs = c.read_into.new.commands in
    let few : length cs.items ≤ 4096 = few_commands c.args.datagram.now (with_header c.in-Ok.header cs.items) c.in-Ok.ensures.found in
    let ok = cs.ok.0 in
    omega (arith, few, ok, c.len.ensures)

pub receive_all-requires : goal.receive_all-requires
receive_all-requires c =
    let cs = c.read_into.new.commands in
    let ok = cs.ok.0 in
    let size : c.len.result ≡ length cs.items = omega (arith, ok, c.len.ensures) in
    rooms_after _ c.make_room.new.self c.see.new.self (subst (λ (n : ℕ). HasRooms n c.make_room.new.self) size c.in-Ok-make_room.ensures.room)
    c.see.ensures.grows

pub returns-clause-taken : goal.returns-clause-taken
returns-clause-taken c =
    let cs = c.read_into.new.commands in
    record {
      datagram = with_header c.in-Ok.header cs.items;
      spelled = c.in-Ok.ensures.found;
      stands = λ r s.
          subst (λ (sent : ℕ). IsPeerOf c.receive_all.new.self (all_received sent cs.items (at_moment c.args.now r))) c.unwrap_or.ensures
          (c.receive_all.ensures (at_moment c.args.now r) (c.see.ensures.stands r (c.make_room.ensures.same r s)));
    }
