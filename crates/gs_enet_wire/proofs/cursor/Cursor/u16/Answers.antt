use Rattle.std.proofs.Common.{arith}
use Rattle.gs_enet_wire.specs.Grammar.{u16}
use Rattle.gs_enet_wire.proofs.Readers.{takes_field}
use Rattle.gs_enet_wire.proofs.cursor.Cursor.u16.Goals as goal

pub returns-clause-taken : goal.returns-clause-taken
returns-clause-taken c =
    takes_field (u16 c.u16_of.result) c.in_ok-front.front.now c.args.self.now c.take.new.self c.in_ok-front.ensures.taken c.u16_of.ensures (omega arith)
