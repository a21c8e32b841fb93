use Rattle.gs_enet.proofs.TwoSides.{messages_in_order_lem}
use Rattle.gs_enet.proofs.laws.messages_in_order.Goals as goal

pub returns : goal.returns
returns c = messages_in_order_lem
