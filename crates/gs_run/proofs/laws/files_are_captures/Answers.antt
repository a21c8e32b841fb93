use Rattle.gs_run.proofs.Captures.{bytes_are_captures, generated_files_are_captures}
use Rattle.gs_run.proofs.laws.files_are_captures.Goals as goal

pub returns-clause-bytes : goal.returns-clause-bytes
returns-clause-bytes c = bytes_are_captures

pub returns-clause-generated : goal.returns-clause-generated
returns-clause-generated c = generated_files_are_captures
