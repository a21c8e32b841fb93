-- it stays a pass of the cell, and has made so many calls
use Rattle.std.proofs.Common.{◌≡◌, ℕ, [], ◌∷◌}
use Rattle.gs_turn.specs.Cells.{IsPassOf, own}
use Rattle.gsbench.specs.Calling.{HasCalled}
use Rattle.gsbench.proofs.turns.call_often.Given as goal

abbrev pub invariant-calls : goal.invariant-calls
invariant-calls g l = record {
  cell : IsPassOf l.fn.turn l.pass;
  called : (number : ℕ) → own l.fn.pass ≡ (number, []) ∷ [] → HasCalled number l.counter (own l.pass);
}
