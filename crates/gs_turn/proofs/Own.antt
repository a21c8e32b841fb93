-- The calls of a pass's own numbers, when one more call joins the history.
use Rattle.std.proofs.Common.{◌≡◌, ◌⊎◌, ℕ, ◌<◌, ◌==◌, ◌||◌, min, Bool, true, false, cond, List, [], ◌∷◌, ◌++◌, length, refl, sym, ap}
use Rattle.std.proofs.Common.{◌∙◌, subst, inl, inr, ⊎_elim, arith, append_assoc}
use Rattle.std.specs.List.{AllByRecursion}
use Rattle.std.proofs.lemmas.Bool.{or_right, or_left, or_parts, or_cases, eq-eqb, eqb-true}
use mathlib.Core.Logic.{dite}
use mathlib.Core.List.{IsPrefix}
use native.Mathlib.Decide.{dec_le}
use Rattle.gs_turn.specs.declared.turn_call.TurnCall.{TurnCall}
use Rattle.gs_turn.specs.History.{Leaves, calls_under, has_number, least_from, least_number, with_call}

pub prefix_append : {A : Type 0} (xs ys zs : List A) → IsPrefix xs ys → IsPrefix xs (ys ++ zs)
prefix_append xs ys zs p = (p.0 ++ zs, sym (append_assoc xs p.0 zs) ∙ ap (λ w. w ++ zs) p.1)

module _ {S C R : Type 0} (steps : S → C → R → S → Type 0) where
  pub leaves_one_more : (s t u : S) (h : List (TurnCall C R)) (e : TurnCall C R) → Leaves steps s h t → steps t e.call e.reply u → Leaves steps s
      (h ++ e ∷ []) u
  leaves_one_more s t u [] e l may = (u, subst (λ (z : S). steps z e.call e.reply u) (sym l) may, refl)
  leaves_one_more s t u (x ∷ xs) e l may = (l.0, l.1, leaves_one_more l.0 t u xs e l.2 may)

cond_more : {A : Type 0} (here last : Bool) (x e : A) (xs ys : List A) → ys ≡ cond last (xs ++ e ∷ []) xs
    → cond here (x ∷ ys) ys ≡ cond last (cond here (x ∷ xs) xs ++ e ∷ []) (cond here (x ∷ xs) xs)
cond_more true true x e xs ys is = ap (λ zs. x ∷ zs) is
cond_more true false x e xs ys is = ap (λ zs. x ∷ zs) is
cond_more false true x e xs ys is = is
cond_more false false x e xs ys is = is

least_of : (n m : ℕ) → (min n m ≡ n) ⊎ (min n m ≡ m)
least_of n m = dite (dec_le n m) (λ le. inl (omega (arith, le))) (λ gt. inr (omega (arith, gt)))

module _ {C R : Type 0} where
  pub under_more : (n : ℕ) (h : List (TurnCall C R)) (e : TurnCall C R) → calls_under n (h ++ e ∷ []) ≡ cond (e.number == n) (calls_under n h ++ e ∷ [])
      (calls_under n h)
  under_more n [] e = refl
  under_more n (x ∷ xs) e = cond_more (x.number == n) (e.number == n) x e (calls_under n xs) (calls_under n (xs ++ e ∷ [])) (under_more n xs e)

  -- each number of a pass is below the number made, and the history has the pass's own calls
  abbrev pub OwnIn : ℕ → List (TurnCall C R) → List (ℕ × List (TurnCall C R)) → Type 0
  OwnIn made h own = AllByRecursion (λ o. (o.0 < made) × (calls_under o.0 h ≡ o.1)) own

  pub own_with_call : (made : ℕ) (h : List (TurnCall C R)) (e : TurnCall C R) (own : List (ℕ × List (TurnCall C R))) → OwnIn made h own → OwnIn made
      (h ++ e ∷ []) (with_call e own)
  own_with_call made h e [] is = tt
  own_with_call made h e (o ∷ os) is =
      ((is.0.0, under_more o.0 h e ∙ ap (λ (c : List (TurnCall C R)). cond (e.number == o.0) (c ++ e ∷ []) c) is.0.1), own_with_call made h e os is.1)

  pub own_of_another : (made : ℕ) (h : List (TurnCall C R)) (e : TurnCall C R) (own : List (ℕ × List (TurnCall C R))) → has_number e.number own ≡ false
      → OwnIn made h own → OwnIn made (h ++ e ∷ []) own
  own_of_another made h e [] none is = tt
  own_of_another made h e (o ∷ os) none is =
      let apart = or_parts (e.number == o.0) (has_number e.number os) none in
      ((is.0.0, under_more o.0 h e ∙ (rw apart.0 is.0.1)), own_of_another made h e os apart.1 is.1)

  pub number_below : (made n : ℕ) (h : List (TurnCall C R)) (own : List (ℕ × List (TurnCall C R))) → has_number n own ≡ true → OwnIn made h own → n < made
  number_below made n h [] has is = absurd (cc has)
  number_below made n h (o ∷ os) has is =
      ⊎_elim (λ here. let same = eqb-true n o.0 here in omega (arith, is.0.0)) (λ later. number_below made n h os later is.1)
      (or_cases (n == o.0) (has_number n os) has)

  least_in : (n : ℕ) (os : List (ℕ × List (TurnCall C R))) → (least_from n os ≡ n) ⊎ (has_number (least_from n os) os ≡ true)
  least_in n [] = inl refl
  least_in n (o ∷ os) =
      ⊎_elim
      (λ is. ⊎_elim (λ a. inl (is ∙ a)) (λ b. inr (or_left _ _ (eq-eqb _ _ (is ∙ b)))) (least_of n o.0))
      (λ later. inr (or_right _ _ later))
      (least_in (min n o.0) os)

  pub has_least : (own : List (ℕ × List (TurnCall C R))) → 0 < length own → has_number (least_number own) own ≡ true
  has_least [] some = absurd (omega arith)
  has_least (o ∷ os) some = ⊎_elim (λ is. or_left _ _ (eq-eqb _ _ is)) (λ later. or_right _ _ later) (least_in o.0 os)

  pub has_with_call : (n : ℕ) (e : TurnCall C R) (own : List (ℕ × List (TurnCall C R))) → has_number n (with_call e own) ≡ has_number n own
  has_with_call n e [] = refl
  has_with_call n e (o ∷ os) = ap (λ b. (n == o.0) || b) (has_with_call n e os)

  pub length-with_call : (e : TurnCall C R) (own : List (ℕ × List (TurnCall C R))) → length (with_call e own) ≡ length own
  length-with_call e [] = refl
  length-with_call e (o ∷ os) = let rest = length-with_call e os in omega arith
