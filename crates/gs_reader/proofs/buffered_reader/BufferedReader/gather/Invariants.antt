use Rattle.std.proofs.Common.{◌≡◌, ◌≤◌, ◌-◌, vec_len}
use Rattle.std.specs.Io.KnownBytes.{Keeps}
use Rattle.gs_reader.specs.Buffered.{HandsOn}
use Rattle.gs_bytes.specs.Outside.{KeepsFlag}
use Rattle.gs_reader.proofs.buffered_reader.BufferedReader.gather.Given as goal

abbrev pub decreases-pieces : goal.decreases-pieces
decreases-pieces g l = l.n - vec_len l.bytes

abbrev pub invariant-pieces : goal.invariant-pieces
invariant-pieces g l =
    let told = g.S.Outside in
    record {
      within : vec_len l.bytes ≤ l.n;
      handed : HandsOn l.initial.self l.self (told.left l.initial.source) (told.left l.source) (told.taken l.initial.source)
          (told.taken l.source) l.bytes.items;
      end : KeepsFlag (told.met_end l.initial.source) (told.met_end l.source);
      written : Keeps (told.written l.initial.source) (told.written l.source);
      counted : told.faults l.source ≡ told.faults l.initial.source;
    }
