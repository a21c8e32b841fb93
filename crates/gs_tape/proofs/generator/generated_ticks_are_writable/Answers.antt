use Rattle.gs_tape.proofs.GeneratedWithin.{generated_is_writable}
use Rattle.gs_tape.proofs.generator.generated_ticks_are_writable.Goals as goal

pub returns : goal.returns
returns c = generated_is_writable
