use Rattle.std.proofs.Common.{◌≡◌, ◌+◌, ◌≤◌, drop, Ok}
use Rattle.gs_reader.specs.Buffered.{to_come}
use Rattle.gs_tape.specs.Steps.{text}
use Rattle.gs_tape.specs.Streaming.{LeavesSource}
use Rattle.gs_tape.proofs.Streams.{Continues}
use Rattle.gs_tape.proofs.cursor.Cursor.text.Given as goal

abbrev pub invariant-loop-expected : goal.invariant-loop-expected
invariant-loop-expected g l = record {
  goes : Continues (text l.fn.bytes) (text (drop l.expected-index l.bytes)) (λ x. x)
      (to_come l.fn.self.reader (g.S.Outside.left l.fn.source)) (to_come l.self.reader (g.S.Outside.left l.source)) l.fn.self.place l.self.place;
  place : l.self.place ≡ l.fn.self.place + l.expected-index;
  source : LeavesSource {A = Unit {0}} (g.S.Outside.faults l.fn.source) (g.S.Outside.faults l.source) (g.S.Outside.met_end l.fn.source)
      (g.S.Outside.met_end l.source)
      (g.S.Outside.written l.fn.source) (g.S.Outside.written l.source) (Ok tt);
}
