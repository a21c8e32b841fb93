use Rattle.std.proofs.Common.{refl}
use Rattle.gs_enet.specs.Steps.{closed}
use Rattle.gs_sides.proofs.Standings.{closes_side}
use Rattle.gs_sides.proofs.side.ControlSide.close.Goals as goal

pub invariant_of-self-clause-has_record : goal.invariant_of-self-clause-has_record
invariant_of-self-clause-has_record c = λ none. c.args.self.now.has_record (λ r h. none (closed r) (c.close.ensures r h))

pub returns : goal.returns
returns c = λ x h. closes_side _ _ x h (c.close.ensures x.peer h.peer) refl refl refl
