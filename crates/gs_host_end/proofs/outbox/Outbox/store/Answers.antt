use Rattle.gs_host_end.proofs.Boxes.{stores-more}
use Rattle.gs_host_end.proofs.outbox.Outbox.store.Goals as goal

pub entries-preserved : goal.entries-preserved
entries-preserved c = λ all h.
    stores-more c.args.self.now c.entries.self-inside.entries.items c.pop_front.new.self.items c.in-Some.entry c.args.store.now
    c.entries.store c.store_entry.new.store all c.in-Some.ensures.items c.in_ok-store_entry.ensures (c.entries.invariant all h)
