use Rattle.gs_enet_wire.proofs.Writers.{fields_then}
use Rattle.gs_enet_wire.proofs.write_fields.put_throttle.Goals as goal

pub returns : goal.returns
returns c = fields_then c.put_u32-place.ensures c.put_rates.ensures
