use Rattle.gs_capture.proofs.Reading.{reads_of}
use Rattle.gs_capture.proofs.viewer.read.Goals as goal

pub returns-clause-read : goal.returns-clause-read
returns-clause-read g c = reads_of _ _ _ c.requires c.enter.ensures
