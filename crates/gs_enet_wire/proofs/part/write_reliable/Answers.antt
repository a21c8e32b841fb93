use Rattle.gs_enet_wire.proofs.Writers.{fields_then, puts_then}
use Rattle.gs_enet_wire.proofs.part.write_reliable.Goals as goal

pub returns-clause-put : goal.returns-clause-put
returns-clause-put c =
    puts_then (fields_then (fields_then (fields_then c.put_u8-place.ensures c.put_u8-place-2.ensures)
    c.put_u16-place.ensures) c.put_u16-place-2.ensures).puts c.put_bytes.ensures
