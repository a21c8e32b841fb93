-- What a contract sees of a cell and of its passes.
use Rattle.std.specs.Prelude.{◌≡◌, ℕ, ◌+◌, ◌<◌, List, [], ◌∷◌, Some, true, ⊤}
use Rattle.gs_turn.specs.declared.turned.Turned.{Ghosts}
use Rattle.gs_turn.specs.declared.turn_call.TurnCall.{TurnCall}
use Rattle.gs_turn.specs.declared.pass.Pass.{Pass}
use Rattle.gs_turn.specs.declared.turn.Turn.{Turn}
use Rattle.gs_turn.specs.History.{has_number}

module _ {S C R : Type 0} where
  -- the state with which the cell opened
  abbrev pub opening_of : Turn S C R → S
  opening_of t = t.table.shared.key.state

  -- how many passes the cell has
  abbrev pub passes_of : Turn S C R → ℕ
  passes_of t = t.table.shared.key.passes

module _ {S C R : Type 0} {g : Ghosts S C R} where
  -- the beginning of the history that the pass knows
  abbrev pub front : Pass S C R g → List (TurnCall C R)
  front p = p.seat.me.0.front

  -- the numbers of the pass, each with the calls made under it
  abbrev pub own : Pass S C R g → List (ℕ × List (TurnCall C R))
  own p = p.seat.me.0.own

  -- how many passes it made, where it is the one that makes them
  abbrev pub made_by : Pass S C R g → ℕ
  made_by p = p.seat.me.0.made

  -- it is a pass of this cell
  pub record IsPassOf (t : Turn S C R) (p : Pass S C R g) : Type 0 where
    pub cell : p.seat.table_id ≡ t.table.shared.table_id
    pub opening : p.seat.me.0.opening ≡ Some (opening_of t)

  -- a pass of this cell with one number, with nothing seen and no call made
  pub record IsNewPass (t : Turn S C R) (number : ℕ) (p : Pass S C R g) : Type 0 where
    pub of_cell : IsPassOf t p
    pub front : front p ≡ []
    pub own : own p ≡ (number, []) ∷ []

  -- passes of this cell with the numbers from this one on, one each and in order
  abbrev pub AreNewPasses : Turn S C R → ℕ → List (Pass S C R g) → Type 0
  AreNewPasses t number [] = ⊤
  AreNewPasses t number (p ∷ ps) = IsNewPass t number p × AreNewPasses t (number + 1) ps

  -- the pass has each number of the cell
  abbrev pub HasAllNumbers : Turn S C R → Pass S C R g → Type 0
  HasAllNumbers t p = (number : ℕ) → number < passes_of t → has_number number (own p) ≡ true
