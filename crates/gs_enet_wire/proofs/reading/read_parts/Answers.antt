use Rattle.std.proofs.Common.{arith}
use Rattle.std.proofs.lemmas.Result.{err_from_is_err_and}
use Rattle.gs_enet_wire.specs.ReadingHeader.{TakesHeader}
use Rattle.gs_enet_wire.proofs.OneReading.{stopped}
use Rattle.gs_enet_wire.proofs.reading.read_parts.Goals as goal

pub returns-in_err-read_commands-clause-fault : goal.returns-in_err-read_commands-clause-fault
returns-in_err-read_commands-clause-fault c =
    let p = err_from_is_err_and c.from_residual-in_err-read_commands.result c.from_residual-in_err-read_commands.ensures.1 in
    let h = c.in_ok-header.header in
    let body = c.read_header.new.cursor in
    let taken : TakesHeader h c.args.bytes.now body = rw (← c.new-cursor.ensures) c.in_ok-header.ensures.taken in
    rw (p.1, p.2) (stopped c.args.bytes.now body h c.is_some.result _ c.in_err-read_commands.field-0.0 (omega arith) taken (omega arith) c.is_some.ensures
    (omega arith) c.in_err-read_commands.ensures.fault)
