use Rattle.std.proofs.Common.{ap, ◌∙◌}
use Rattle.gs_rtsp.specs.Fields.{field_number}
use Rattle.gs_rtsp.proofs.Spelling.{written_is_read, number_was_written}
use Rattle.gs_rtsp.proofs.field.Field.read.Goals as goal

pub returns-clause-written : goal.returns-clause-written
returns-clause-written c = number_was_written c.args.self c.args.value.now c.number_in.result c.number_in.ensures

pub returns-clause-every : goal.returns-clause-every
returns-clause-every c = λ n lt e. c.number_in.ensures ∙ ap (field_number c.args.self) e ∙ written_is_read c.args.self n lt
