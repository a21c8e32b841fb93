use Rattle.gs_enet_wire.proofs.OneReading.{place_only}
use Rattle.gs_enet_wire.proofs.reading.read_into.Goals as goal

pub returns-clause-fault_only : goal.returns-clause-fault_only
returns-clause-fault_only c =
    place_only c.args.bytes.now c.read_parts.new.commands.items c.read_parts.result c.read_parts.ensures.found c.read_parts.ensures.fault
