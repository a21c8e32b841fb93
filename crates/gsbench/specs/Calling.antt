-- The calls that passes of a cell have made.
use Rattle.std.specs.Prelude.{◌≡◌, ℕ, ◌+◌, List, [], ◌∷◌, length, ⊤}
use Rattle.gs_turn.specs.declared.turn_call.TurnCall.{TurnCall}

module _ {C R : Type 0} where
  -- so many calls were made under one number, and none under another
  abbrev pub HasCalled : ℕ → ℕ → List (ℕ × List (TurnCall C R)) → Type 0
  HasCalled number count own = (calls : List (TurnCall C R)) × (own ≡ (number, calls) ∷ []) × (length calls ≡ count)

  -- so many were made under each number from this one on, in order
  abbrev pub HaveCalled : ℕ → ℕ → List (ℕ × List (TurnCall C R)) → Type 0
  HaveCalled number count [] = ⊤
  HaveCalled number count (o ∷ os) = (o.0 ≡ number) × (length o.1 ≡ count) × HaveCalled (number + 1) count os
