-- The greatest valid frame that a tick has a unit against.
use Rattle.std.proofs.Common.{◌≡◌, ◌<◌, ◌≤◌, ℕ, zero, suc, true, false, ◌&&◌, List, Some, None, refl, sym, subst, ◌∙◌, arith, inl, inr}
use Rattle.std.specs.Prelude.{Bool}
use Rattle.std.proofs.lemmas.Bool.{cond-true, cond-false, cases_eq}
use Rattle.gs_tape.specs.Tick.{Tick}
use Rattle.gs_refs.specs.declared.entry.Entry.{Entry}
use Rattle.gs_refs.specs.History.{tick_of, is_valid}
use Rattle.gs_refs.specs.Choice.{names, greatest_named}

-- the frame is valid, and the tick has a unit against its tick
abbrev pub is_usable : List Entry → Tick → ℕ → Bool
is_usable h t v = is_valid h v && names t (tick_of h v)

-- no frame above this one is usable
abbrev pub NoneAbove : List Entry → Tick → ℕ → Type 0
NoneAbove h t low = (v : ℕ) → low < v → is_usable h t v ≡ false

pub greatest-some : (h : List Entry) (t : Tick) (v n : ℕ) → 1 ≤ v → v ≤ n → is_usable h t v ≡ true → NoneAbove h t v → greatest_named h t n ≡ Some v
greatest-some h t v zero least most usable above = absurd (omega arith)
greatest-some h t v (suc n) least most usable above = elim (cases_eq v (suc n)) [
  | inl last ↦
      subst (λ (k : ℕ). is_usable h t k ≡ true → greatest_named h t (suc n) ≡ Some k) (sym last)
      (λ u. cond-true (is_usable h t (suc n)) (Some (suc n)) (greatest_named h t n) u) usable
  | inr before ↦
      cond-false (is_usable h t (suc n)) (Some (suc n)) (greatest_named h t n) (above (suc n) (omega arith))
      ∙ greatest-some h t v n least (omega arith) usable above
]

pub greatest-none : (h : List Entry) (t : Tick) (n : ℕ) → NoneAbove h t 0 → greatest_named h t n ≡ None
greatest-none h t zero above = refl
greatest-none h t (suc n) above =
    cond-false (is_usable h t (suc n)) (Some (suc n)) (greatest_named h t n) (above (suc n) (omega arith)) ∙ greatest-none h t n above
