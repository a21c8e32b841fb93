use Rattle.gs_bytes.proofs.FieldLemmas.{reads_back}
use Rattle.gs_bytes.proofs.field.field_reads_back.Goals as goal

pub returns : goal.returns
returns c = reads_back
