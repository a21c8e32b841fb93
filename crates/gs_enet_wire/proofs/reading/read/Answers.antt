use Rattle.std.proofs.Common.{◌≡◌, length}
use Rattle.std.proofs.lemmas.Result.{IfOk-weaker}
use Rattle.gs_enet_wire.specs.Grammar.{SpellsDatagram, spelling}
use Rattle.gs_enet_wire.proofs.Writers.{same_length}
use Rattle.gs_enet_wire.proofs.OneReading.{found_only, fault_only}
use Rattle.gs_enet_wire.proofs.reading.read.Goals as goal

pub returns-clause-found_only : goal.returns-clause-found_only
returns-clause-found_only c = found_only c.args.bytes.now c.whole.result c.whole.ensures.found c.whole.ensures.fault

pub returns-clause-fault_only : goal.returns-clause-fault_only
returns-clause-fault_only c = fault_only c.args.bytes.now c.whole.result c.whole.ensures.found c.whole.ensures.fault

pub returns-clause-size : goal.returns-clause-size
returns-clause-size c =
    IfOk-weaker c.whole.result (λ d. SpellsDatagram c.args.bytes.now d) (λ d. length (spelling d) ≡ length c.args.bytes.now)
    (λ d s. same_length c.args.bytes.now d s) c.whole.ensures.found
