use Rattle.std.proofs.Common.{subst, sym}
use Rattle.gs_tape.specs.Writer.{TapeWriting, IsNextTick}
use Rattle.gs_tape.proofs.Parts.{small_is_next}
use Rattle.gs_tape.proofs.tests.a_fault_of_the_sink_is_told.Goals as goal

pub put-requires : goal.put-requires
put-requires g c =
    let Next : TapeWriting → Type 0 = λ w. IsNextTick w c.in_ok-tick.tick in
    subst Next (sym c.in_ok-writer.ensures.writer) (small_is_next 0 c.in_ok-tick.tick c.in_ok-tick.ensures)
