use Rattle.gs_tape.proofs.WrittenFiles.{files_are_read}
use Rattle.gs_tape.proofs.laws.files_are_read.Goals as goal

pub returns : goal.returns
returns c = files_are_read
