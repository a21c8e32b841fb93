use Rattle.std.proofs.Common.{◌≡◌, ℕ}
use Rattle.gs_turn.specs.Cells.{IsPassOf, own}
use Rattle.gs_turn.specs.History.{has_number}
use Rattle.gs_turn.proofs.tests.call_from.Given as goal

abbrev pub invariant-loop-i : goal.invariant-loop-i
invariant-loop-i g l =
    record {
      cell : IsPassOf l.fn.turn l.pass;
      numbers : (number : ℕ) → has_number number (own l.pass) ≡ has_number number (own l.fn.pass);
    }
