use Rattle.std.proofs.Common.{refl, arith}
use Rattle.gs_enet_wire.proofs.HeaderReaders.{takes_more, stops_here}
use Rattle.gs_enet_wire.proofs.reading.read_commands.Goals as goal

pub commands-preserved : goal.commands-preserved
commands-preserved c = record {
  so_far = rw c.in_ok-push-in-Ok.ensures.items (takes_more c.args.timed c.commands.commands.items c.in-Ok.command c.args.cursor.now c.commands.cursor
      c.read_command.new.cursor c.commands.invariant.so_far c.in-Ok.ensures.taken);
  length_kept = c.commands.invariant.length_kept;
}

pub returns-in-Err-Malformed-clause-fault : goal.returns-in-Err-Malformed-clause-fault
returns-in-Err-Malformed-clause-fault c =
    let none = c.in-Err-Malformed.ensures.refused (rw c.in-Err-Malformed.field-0-is refl) in
    stops_here c.args.timed c.args.start _ c.commands.commands.items c.args.cursor.now c.commands.cursor c.commands.invariant.so_far none (omega arith)
    (omega arith)
