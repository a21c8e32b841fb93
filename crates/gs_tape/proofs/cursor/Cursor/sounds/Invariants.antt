use Rattle.std.proofs.Common.{◌≡◌, ◌+◌, ◌-◌, ◌*◌, ◌≤◌, ◌++◌, length, List, ℕ, Ok}
use Rattle.std.specs.List.{AllByRecursion}
use Rattle.gs_reader.specs.Buffered.{to_come}
use Rattle.gs_tape.specs.Limits.{most_audio}
use Rattle.gs_tape.specs.Steps.{sounds}
use Rattle.gs_tape.specs.Streaming.{LeavesSource}
use Rattle.gs_tape.proofs.Streams.{Continues}
use Rattle.gs_tape.proofs.cursor.Cursor.sounds.Given as goal

abbrev pub invariant-loop : goal.invariant-loop
invariant-loop g l = record {
  goes : Continues (sounds l.fn.count l.fn.each) (sounds (l.count - l.counter) l.each) (λ us. l.units.items ++ us)
      (to_come l.fn.self.reader (g.S.Outside.left l.fn.source)) (to_come l.self.reader (g.S.Outside.left l.source)) l.fn.self.place l.self.place;
  place : l.self.place ≤ l.fn.self.place + l.counter * most_audio;
  many : length l.units.items ≡ l.counter;
  whole : AllByRecursion (λ u. length u ≡ l.each) l.units.items;
  source : LeavesSource {A = Unit {0}} (g.S.Outside.faults l.fn.source) (g.S.Outside.faults l.source) (g.S.Outside.met_end l.fn.source)
      (g.S.Outside.met_end l.source)
      (g.S.Outside.written l.fn.source) (g.S.Outside.written l.source) (Ok tt);
}
