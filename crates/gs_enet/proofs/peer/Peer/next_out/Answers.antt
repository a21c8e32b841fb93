use Rattle.std.proofs.Common.{length, refl}
use Rattle.gs_enet.specs.Record.{PeerRecord, at_moment}
use Rattle.gs_enet.specs.Write.{having_written}
use Rattle.gs_enet.proofs.Outgoing.{written_first, written_more, wrote_none, wrote_datagram}
use Rattle.gs_enet.proofs.peer.Peer.next_out.Goals as goal

pub returns-in_default-clause-written : goal.returns-in_default-clause-written
returns-in_default-clause-written c = λ r s.
    wrote_none r c.args.now c.see.new.self c.write_item.new.self c.args.out.now c.write_item.new.out
    (c.in_default.ensures.written (at_moment c.args.now r) (c.see.ensures.stands r s))

pub items-init : goal.items-init
items-init c =
    record {
      so_far = λ r s. written_first (at_moment c.args.now r) c.in-Some.first c.write_item.new.self c.args.out.now c.write_item.new.out
          (c.in-Some.ensures.written (at_moment c.args.now r) (c.see.ensures.stands r s));
      room = c.in-Some.ensures.end.1;
    }

pub items-preserved : goal.items-preserved
items-preserved c =
    record {
      so_far = λ r s.
          let t : PeerRecord = at_moment c.args.now r in
          let h = c.items.invariant.so_far r s in
          written_more t c.items.place c.in-Some-write_item.end c.items.self c.write_item-in-items.new.self c.args.out.now c.items.out
          c.write_item-in-items.new.out h (c.in-Some-write_item.ensures.written (having_written (length h.items) t) h.stands);
      room = c.in-Some-write_item.ensures.end.1;
    }

pub returns-clause-written : goal.returns-clause-written
returns-clause-written c = λ r s.
    let t : PeerRecord = at_moment c.args.now r in
    let h = c.items.invariant.so_far r s in
    wrote_datagram r c.args.now c.items.place _ c.address.result _ c.items.self c.write_item-in-items.new.self c.args.out.now c.items.out
    c.write_item-in-items.new.out c.write_header.new.out h
    (c.in_default-write_item.ensures.written (having_written (length h.items) t) h.stands) c.address.ensures refl c.write_header.ensures c.requires
