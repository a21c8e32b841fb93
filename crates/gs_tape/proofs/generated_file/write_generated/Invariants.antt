use Rattle.std.proofs.Common.{◌≡◌, length}
use Rattle.gs_tape.specs.Capture.{file}
use Rattle.gs_tape.specs.Generated.{generated, ticks_to_come}
use Rattle.gs_tape.proofs.GeneratedFile.{AreNext, Written}
use Rattle.gs_tape.proofs.generated_file.write_generated.Given as goal

abbrev pub invariant-ticks : goal.invariant-ticks
invariant-ticks g l = record {
  next : AreNext l.writer (ticks_to_come l.generator);
  written : Written (file 240 5 (generated l.fn.number l.fn.ticks)) (ticks_to_come l.generator) (g.K.Outside.written l.fn.out) (g.K.Outside.written l.out);
  faults : g.K.Outside.faults l.out ≡ g.K.Outside.faults l.fn.out;
}

abbrev pub decreases-ticks : goal.decreases-ticks
decreases-ticks g l = length (ticks_to_come l.generator)
