-- The history of a cell: its calls in order, each with the number under which it was made and its reply.
use Rattle.std.specs.Prelude.{◌≡◌, ℕ, Bool, false, cond, ◌==◌, ◌||◌, min, List, [], ◌∷◌, ◌++◌}
use Rattle.std.specs.List.{AllByRecursion}
use mathlib.Core.List.{IsPrefix}
use Rattle.gs_turn.specs.declared.turn_call.TurnCall.{TurnCall}

module _ {S C R : Type 0} where
  -- made in order from the state s, the calls leave the state t, and each reply is one that a step may give there
  abbrev pub Leaves : (S → C → R → S → Type 0) → S → List (TurnCall C R) → S → Type 0
  Leaves steps s [] t = s ≡ t
  Leaves steps s (e ∷ es) t = (u : S) × steps s e.call e.reply u × Leaves steps u es t

  -- each reply is one that a step may give on the state that the calls before it leave
  abbrev pub TurnHistory : (S → C → R → S → Type 0) → S → List (TurnCall C R) → Type 0
  TurnHistory steps s h = (t : S) × Leaves steps s h t

module _ {C R : Type 0} where
  abbrev pub turn_call : ℕ → C → R → TurnCall C R
  turn_call number call reply = record { number = number; call = call; reply = reply }

  -- the calls made under a number, in order
  abbrev pub calls_under : ℕ → List (TurnCall C R) → List (TurnCall C R)
  calls_under number [] = []
  calls_under number (e ∷ es) = cond (e.number == number) (e ∷ calls_under number es) (calls_under number es)

  -- the number is among those of a pass
  abbrev pub has_number : ℕ → List (ℕ × List (TurnCall C R)) → Bool
  has_number number [] = false
  has_number number (o ∷ os) = (number == o.0) || has_number number os

  abbrev pub least_from : ℕ → List (ℕ × List (TurnCall C R)) → ℕ
  least_from number [] = number
  least_from number (o ∷ os) = least_from (min number o.0) os

  -- the least number of a pass
  abbrev pub least_number : List (ℕ × List (TurnCall C R)) → ℕ
  least_number [] = 0
  least_number (o ∷ os) = least_from o.0 os

  -- a pass's calls with one more, under the number that it names
  abbrev pub with_call : TurnCall C R → List (ℕ × List (TurnCall C R)) → List (ℕ × List (TurnCall C R))
  with_call e [] = []
  with_call e (o ∷ os) = (o.0, cond (e.number == o.0) (o.1 ++ e ∷ []) o.1) ∷ with_call e os

  -- of each number of a pass, the history has the pass's own calls, each once and in order
  abbrev pub HasOwn : List (ℕ × List (TurnCall C R)) → List (TurnCall C R) → Type 0
  HasOwn own h = AllByRecursion (λ o. calls_under o.0 h ≡ o.1) own

  -- the history begins with a pass's front, and has the pass's own calls
  pub record Front (front : List (TurnCall C R)) (own : List (ℕ × List (TurnCall C R)))
      (h : List (TurnCall C R)) : Type 0 where
    pub begins : IsPrefix front h
    pub own_calls : HasOwn own h
