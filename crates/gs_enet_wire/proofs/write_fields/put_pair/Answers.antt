use Rattle.gs_enet_wire.proofs.Writers.{fields_then}
use Rattle.gs_enet_wire.proofs.write_fields.put_pair.Goals as goal

pub returns : goal.returns
returns c = fields_then c.put_u16-place.ensures c.put_u16.ensures
