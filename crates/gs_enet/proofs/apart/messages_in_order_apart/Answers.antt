use Rattle.gs_enet.proofs.ApartSides.{messages_in_order_apart_lem}
use Rattle.gs_enet.proofs.apart.messages_in_order_apart.Goals as goal

pub returns : goal.returns
returns c = messages_in_order_apart_lem
