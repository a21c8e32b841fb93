use Rattle.gs_tape.proofs.Ticks.{faultless_bytes_are_files}
use Rattle.gs_tape.proofs.laws.faultless_bytes_are_files.Goals as goal

pub returns : goal.returns
returns c = faultless_bytes_are_files
