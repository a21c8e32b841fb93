use Rattle.std.proofs.Common.{◌≡◌, ◌+◌, ◌∷◌, [], ℕ, length, arith, rules}
use Rattle.gs_turn.specs.Cells.{AreNewPasses, IsPassOf, own}
use Rattle.gsbench.specs.Calling.{HasCalled, HaveCalled}
use Rattle.gsbench.proofs.Passes.{joined_called, new_of_all}
use Rattle.gsbench.proofs.turns.+call_by_all+fn-call_by_all-join+arg2.Goals as goal

pub join-keep-requires-after_bounds : goal.join-keep-requires-after_bounds
join-keep-requires-after_bounds g t c κs within =
    let parts = new_of_all c.args.turn.now 0 c.args.passes.items c.pop.new.self.items c.in-Some.last c.in-Some.ensures.items c.requires.new in
    let news : AreNewPasses c.args.turn.now 0 c.pop.new.self.items = parts.0 in
    let cell : IsPassOf c.args.turn.now c.in-Some.last = parts.1.of_cell in
    search rules

pub returns-clause-called : goal.returns-clause-called
returns-clause-called g t c =
    let parts = new_of_all c.args.turn.now 0 c.args.passes.items c.pop.new.self.items c.in-Some.last c.in-Some.ensures.items c.requires.new in
    let n = length c.pop.new.self.items in
    let first : HaveCalled 0 c.args.count (own c.join-keep.result.0) × (length (own c.join-keep.result.0) ≡ n) = search rules in
    let second : (number : ℕ) → own c.in-Some.last ≡ (number, []) ∷ [] → HasCalled number c.args.count (own c.join-keep.result.1) = search rules in
    let both = joined_called c.args.count n (own c.join-keep.result.0) (own c.join-keep.result.1) (own c.join.new.keep) first
    (second (0 + n) parts.1.own) c.join.ensures.own in
    (both.0, omega (arith, both.1, c.in-Some.ensures.len))
