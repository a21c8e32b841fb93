use Rattle.gs_enet_wire.proofs.Writers.{puts_command}
use Rattle.gs_enet_wire.proofs.writing.put_command.Goals as goal

pub returns-clause-put : goal.returns-clause-put
returns-clause-put c =
    puts_command c.args.command.now c.first_byte.result c.channel.result c.number.result c.payload.result.now c.first_byte.ensures c.channel.ensures
    c.number.ensures c.payload.ensures
    c.put_u8-place.ensures c.put_u8-place-2.ensures c.put_u16-place.ensures c.put_fields-place.ensures c.put_bytes.ensures
