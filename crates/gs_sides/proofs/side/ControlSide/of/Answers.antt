use Rattle.std.proofs.Common.{refl, []}
use Rattle.std.proofs.lemmas.List.{get_or-replicate}
use Rattle.std.proofs.lemmas.List.Elements.{All-nil}
use Rattle.gs_sides.specs.Known.{IsReadAsItself}
use Rattle.gs_sides.proofs.Standings.{begins}
use Rattle.gs_sides.proofs.side.ControlSide.of.Goals as goal

pub invariant_of-result-clause-has_list : goal.invariant_of-result-clause-has_list
invariant_of-result-clause-has_list c = λ none. none [] (record { bytes = c.in_ok-new.ensures; read_again = All-nil IsReadAsItself })

pub returns : goal.returns
returns c = λ r h new. begins _ r h new c.in_ok-new.ensures refl (λ k below. get_or-replicate 48 k 0 0 below)
