use Rattle.std.proofs.Common.{◌≡◌, ◌≤◌, ◌-◌, vec_len}
use Rattle.std.specs.Io.KnownBytes.{Appends, Consumes, Keeps}
use Rattle.gs_bytes.specs.Outside.{KeepsFlag}
use Rattle.gs_bytes.proofs.whole.read_up_to.Given as goal

abbrev pub decreases-reads : goal.decreases-reads
decreases-reads g l = l.most - vec_len l.text

abbrev pub invariant-reads : goal.invariant-reads
invariant-reads g l =
    let told = g.S.Outside in
    record {
      within : vec_len l.text ≤ l.most;
      left : Consumes (told.left l.initial.source) (told.left l.source) l.text.items;
      taken : Appends (told.taken l.initial.source) (told.taken l.source) l.text.items;
      end : KeepsFlag (told.met_end l.initial.source) (told.met_end l.source);
      written : Keeps (told.written l.initial.source) (told.written l.source);
      counted : told.faults l.source ≡ told.faults l.initial.source;
    }
