use Rattle.gs_enet_wire.proofs.Writers.{fields_then}
use Rattle.gs_enet_wire.proofs.write_fields.put_connect.Goals as goal

pub returns : goal.returns
returns c = fields_then c.put_shared-place.ensures c.put_u32.ensures
