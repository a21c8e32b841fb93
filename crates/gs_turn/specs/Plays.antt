-- Cited by private contracts alone: what each kind of atomic step tells of the seat before, the word found, and the
-- seat after.
use Rattle.std.specs.Prelude.{◌≡◌, ℕ, ◌+◌, ◌%◌, ◌^◌, ◌==◌, nat_lt, cond, List, [], ◌∷◌, ◌++◌, length, Option, Some}
use Rattle.std.specs.Prelude.{None, IfSome, MatchBool}
use Rattle.std.specs.List.{AllByRecursion}
use mathlib.Core.List.{IsPrefix}
use Rattle.atomic_table.specs.Table.{Me, Step, rest}
use Rattle.gs_turn.specs.declared.turn_call.TurnCall.{TurnCall}
use Rattle.gs_turn.specs.declared.rule.PassView.{PassView}
use Rattle.gs_turn.specs.declared.rule.Standing.TheVariants.{Outside, Waiting, Serving}
use Rattle.gs_turn.specs.History.{Leaves, HasOwn, turn_call, least_number, with_call}

abbrev pub longer : {A : Type 0} → List A → List A → List A
longer xs ys = cond (nat_lt (length xs) (length ys)) ys xs

abbrev Sat : Type 0 → Type 0 → Type 0 → Type 0
Sat S C R = Me (Option S) (PassView S C R)

module _ {S C R : Type 0} where
  -- it has the first turn, and the empty slot
  abbrev pub arrived : Step (Option S) → Sat S C R → ℕ → Sat S C R → Type 0
  arrived st m found n = n ≡ (record m.0 { standing = Serving 0 }, (0, None) ∷ [])

  -- it holds the ticket that it found
  abbrev pub drew : Step (Option S) → Sat S C R → ℕ → Sat S C R → Type 0
  drew st m found n = (k : ℕ) × (found ≡ k % 2 ^ 64) × (n ≡ (record m.0 { standing = Waiting k }, m.1))

  -- it has the state, which the history so far leaves
  abbrev pub HasTurn : (S → C → R → S → Type 0) → ℕ → Sat S C R → Sat S C R → Type 0
  HasTurn steps k m n =
      (log : List (TurnCall C R)) × (t : S) × IsPrefix m.0.front log × IfSome m.0.opening (λ s. Leaves steps s log t)
      × (n ≡ (record m.0 { standing = Serving k; front = log }, (0, Some t) ∷ m.1))

  -- where the ticket found is its own, the turn is too
  abbrev pub saw_served : (S → C → R → S → Type 0) → Step (Option S) → Sat S C R → ℕ → Sat S C R → Type 0
  saw_served steps st m found n =
      (k : ℕ) → m.0.standing ≡ Waiting k → MatchBool (found == k % 2 ^ 64) (HasTurn steps k m n) (n ≡ m)

  -- what it knows with one more call, under its least number
  abbrev pub after_call : C → R → PassView S C R → PassView S C R
  after_call c r v =
      let e = turn_call (least_number v.own) c r in
      record v { front = v.front ++ e ∷ []; own = with_call e v.own }

  -- the call joined the history
  abbrev pub counted : List C → List R → Step (Option S) → Sat S C R → ℕ → Sat S C R → Type 0
  counted calls replies st m found n =
      (c : C) (r : R) → calls ≡ c ∷ [] → replies ≡ r ∷ []
      → (n ≡ (after_call c r m.0, m.1)) × HasOwn n.0.own n.0.front

  -- it holds no ticket, and the slot is at home
  abbrev pub gave_back : Step (Option S) → Sat S C R → ℕ → Sat S C R → Type 0
  gave_back st m found n = n ≡ (record m.0 { standing = Outside }, rest m.1)

  -- each older front begins the front
  abbrev pub settled : Step (Option S) → Sat S C R → ℕ → Sat S C R → Type 0
  settled st m found n = AllByRecursion (λ old. IsPrefix old m.0.front) m.0.olds × (n ≡ (record m.0 { olds = [] }, m.1))

  -- one more pass was made
  abbrev pub with_next_made : PassView S C R → PassView S C R
  with_next_made v = record v { made = v.made + 1 }

  -- a pass with the next number
  abbrev pub numbered_next : PassView S C R → PassView S C R
  numbered_next v =
      record { opening = v.opening; standing = Outside; made = 0; front = []; own = (v.made, []) ∷ []; olds = [] }

  -- the longer front, and the numbers and calls of both
  abbrev pub joined : PassView S C R → PassView S C R → PassView S C R
  joined v w = record v { front = longer v.front w.front; own = v.own ++ w.own; olds = v.front ∷ w.front ∷ [] }

  -- a pass that was joined into another
  abbrev pub spent : PassView S C R
  spent = record { opening = None; standing = Outside; made = 0; front = []; own = []; olds = [] }
