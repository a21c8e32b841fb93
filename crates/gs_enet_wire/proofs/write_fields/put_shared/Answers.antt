use Rattle.gs_enet_wire.proofs.Writers.{fields_then}
use Rattle.gs_enet_wire.proofs.write_fields.put_shared.Goals as goal

pub returns : goal.returns
returns c = fields_then c.put_u16-place.ensures (fields_then c.put_u8-place.ensures
    (fields_then c.put_u8-place-2.ensures (fields_then c.put_u32-place.ensures
    (fields_then c.put_u32-place-2.ensures (fields_then c.put_u32-place-3.ensures
    (fields_then c.put_u32-place-4.ensures (fields_then c.put_u32-place-5.ensures
    (fields_then c.put_u32-place-6.ensures (fields_then c.put_u32-place-7.ensures (fields_then c.put_u32-place-8.ensures c.put_u32.ensures))))))))))
