use Rattle.std.proofs.Common.{arith}
use Rattle.gs_enet_wire.specs.Grammar.{u32}
use Rattle.gs_enet_wire.proofs.Readers.{takes_field}
use Rattle.gs_enet_wire.proofs.cursor.Cursor.u32.Goals as goal

pub returns-clause-taken : goal.returns-clause-taken
returns-clause-taken c =
    takes_field (u32 c.u32_of.result) c.in_ok-front.front.now c.args.self.now c.take.new.self c.in_ok-front.ensures.taken c.u32_of.ensures (omega arith)
