use Rattle.std.proofs.Common.{◌≡◌, ◌≤◌, ◌-◌, length, take}
use Rattle.std.specs.Io.KnownBytes.{Appends, Keeps}
use Rattle.gs_bytes.specs.Outside.{KeepsFlag}
use Rattle.gs_bytes.proofs.whole.write_all.Given as goal

abbrev pub decreases-loop-at : goal.decreases-loop-at
decreases-loop-at g l = length l.initial.bytes - l.at

abbrev pub invariant-loop-at : goal.invariant-loop-at
invariant-loop-at g l =
    let told = g.K.Outside in
    record {
      within : l.at ≤ length l.bytes;
      written : Appends (told.written l.initial.out) (told.written l.out) (take l.at l.bytes);
      left : Keeps (told.left l.initial.out) (told.left l.out);
      taken : Keeps (told.taken l.initial.out) (told.taken l.out);
      end : KeepsFlag (told.met_end l.initial.out) (told.met_end l.out);
      counted : told.faults l.out ≡ told.faults l.initial.out;
    }
