use Rattle.std.proofs.Common.{◌≡◌, ◌+◌, ◌∙◌, arith}
use Rattle.gs_split.proofs.Places.{next-placed}
use Rattle.gs_split.proofs.plan.Plan.next.Goals as goal

pub returns-clause-placed : goal.returns-clause-placed
returns-clause-placed c =
    let packet : c.place.result.first_packet ≡ c.args.block.now.first_packet + c.args.block.now.shards =
    omega (arith, c.place.ensures.first_packet, c.from.ensures) in
    next-placed c.args.self.now c.args.block.now c.place.result c.requires.placed (omega (arith, c.requires.behind)) c.place.ensures.number
    c.place.ensures.plan packet (c.place.ensures.first_datagram ∙ c.end.ensures) (omega arith) (omega arith)
