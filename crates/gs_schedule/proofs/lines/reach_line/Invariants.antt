use Rattle.std.proofs.Common.{◌≡◌, ◌-◌, length, true}
use Rattle.std.specs.Io.KnownBytes.{Keeps, prepend_known}
use Rattle.gs_bytes.specs.Outside.{KeepsFlag}
use Rattle.gs_schedule.specs.Lines.{holds_line}
use Rattle.gs_schedule.proofs.lines.reach_line.Given as goal

abbrev pub decreases-fills : goal.decreases-fills
decreases-fills g l = 65 - length l.held

abbrev pub invariant-fills : goal.invariant-fills
invariant-fills g l =
    let told = g.S.Outside in
    record {
      to_come : Keeps (prepend_known l.initial.held (told.left l.initial.source)) (prepend_known l.held (told.left l.source));
      end : KeepsFlag (told.met_end l.initial.source) (told.met_end l.source);
      written : Keeps (told.written l.initial.source) (told.written l.source);
      held : holds_line l.initial.held ≡ true → (holds_line l.held ≡ true) × (l.source ≡ l.initial.source);
      counted : told.faults l.source ≡ told.faults l.initial.source;
    }
