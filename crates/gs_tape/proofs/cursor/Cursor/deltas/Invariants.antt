use Rattle.std.proofs.Common.{◌≡◌, ◌+◌, ◌-◌, ◌*◌, ◌≤◌, ◌++◌, length, List, Ok}
use Rattle.std.specs.List.{sum_by}
use Rattle.gs_reader.specs.Buffered.{to_come}
use Rattle.gs_tape.specs.Limits.{AreDeltasBetween, most_bytes, most_unit}
use Rattle.gs_tape.specs.Tick.{Delta}
use Rattle.gs_tape.specs.Steps.{deltas}
use Rattle.gs_tape.specs.Streaming.{LeavesSource}
use Rattle.gs_tape.proofs.Streams.{Continues}
use Rattle.gs_tape.proofs.cursor.Cursor.deltas.Given as goal

abbrev pub invariant-loop : goal.invariant-loop
invariant-loop g l = record {
  goes : Continues (deltas l.fn.count l.fn.tick 0 l.fn.held) (deltas (l.count - l.counter) l.tick l.after l.sum) (λ ds. l.deltas.items ++ ds)
      (to_come l.fn.self.reader (g.S.Outside.left l.fn.source)) (to_come l.self.reader (g.S.Outside.left l.source)) l.fn.self.place l.self.place;
  place : l.self.place ≤ l.fn.self.place + l.counter * (8 + most_unit);
  many : length l.deltas.items ≡ l.counter;
  few : l.sum ≤ most_bytes;
  sum_is : l.fn.held + sum_by (λ d. length d.unit) l.deltas.items ≡ l.sum;
  between : (ds : List Delta) → AreDeltasBetween l.after l.tick ds → AreDeltasBetween 0 l.tick (l.deltas.items ++ ds);
  source : LeavesSource {A = Unit {0}} (g.S.Outside.faults l.fn.source) (g.S.Outside.faults l.source) (g.S.Outside.met_end l.fn.source)
      (g.S.Outside.met_end l.source)
      (g.S.Outside.written l.fn.source) (g.S.Outside.written l.source) (Ok tt);
}
