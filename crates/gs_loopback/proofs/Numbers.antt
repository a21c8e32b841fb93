-- The numbers that a pump leaves out.
use Rattle.std.proofs.Common.{◌≡◌, ◌<◌, ◌≤◌, ◌+◌, ◌-◌, ◌%◌, ℕ, zero, suc, Bool, true, false, not, cond, Option, Some, None, refl, sym, ap, subst, ◌∙◌, arith}
use Rattle.std.proofs.Common.{inl, inr}
use Rattle.std.specs.Prelude.{◌==◌, ◌⊎◌, nat_lt, unwrap_or}
use Rattle.std.specs.List.{find, range_with_len}
use Rattle.std.proofs.Math.Nat.{mod-one, mod-add-mod, mod-eq_of_lt}
use Rattle.std.proofs.lemmas.Bool.{or_parts, eqb-true, ltb-true, ltb-false}
use Rattle.std.specs.Option.{option_map}
use Rattle.gs_run.specs.Session.{PartMarks}
use Rattle.gs_run.specs.Deed.{SessionDeed, TakeVideo, TakeAudio, Mark}
use Rattle.gs_run.specs.Pump.{Pumping, is_kept, next_kept, next_above, or_else, next_control, next_pumped}
use Rattle.gs_loopback.specs.declared.delivery.Delivery.{Delivery}
use Rattle.gs_loopback.specs.Running.{run_delivery, pumped_deed}

found_first : (p : ℕ → Bool) (a n m : ℕ) → n ≡ suc m → p a ≡ true → find p (range_with_len a n) ≡ Some a
found_first p a n m e holds =
    subst (λ (k : ℕ). find p (range_with_len a k) ≡ Some a) (sym e)
    (ap (λ (b : Bool). cond b (Some a) (find p (range_with_len (a + 1) m))) holds)

passed_over : (p : ℕ → Bool) (a n m : ℕ) → n ≡ suc m → p a ≡ false
    → find p (range_with_len a n) ≡ find p (range_with_len (a + 1) m)
passed_over p a n m e isnt =
    subst (λ (k : ℕ). find p (range_with_len a k) ≡ find p (range_with_len (a + 1) m)) (sym e)
    (ap (λ (b : Bool). cond b (Some a) (find p (range_with_len (a + 1) m))) isnt)

found_none : (p : ℕ → Bool) (a n : ℕ) → ((k : ℕ) → p k ≡ false) → find p (range_with_len a n) ≡ None
found_none p a zero isnt = refl
found_none p a (suc n) isnt = passed_over p a (suc n) n refl (isnt a) ∙ found_none p (a + 1) n isnt

-- every number is a multiple of one
pub none_kept : (every above to : ℕ) → every ≡ 1 → next_kept every above to ≡ None
none_kept every above to e =
    found_none (is_kept every) (above + 1) (to - above) (λ n. subst (λ (m : ℕ). is_kept m n ≡ false) (sym e) (multiple n)) where
      multiple : (n : ℕ) → is_kept 1 n ≡ false
      multiple n = ap (λ (m : ℕ). not (m == 0)) (mod-one n)

pub none_left : (every above to : ℕ) → to ≤ above → next_kept every above to ≡ None
none_left every above to past =
    let e : to - above ≡ 0 = omega (arith, past) in
    ap (λ (n : ℕ). find (is_kept every) (range_with_len (above + 1) n)) e

pub first_kept : (every above to : ℕ) → above < to → is_kept every (above + 1) ≡ true
    → next_kept every above to ≡ Some (above + 1)
first_kept every above to below holds =
    let e : to - above ≡ suc (to - above - 1) = omega (arith, below) in
    found_first (is_kept every) (above + 1) (to - above) (to - above - 1) e holds

-- of two neighbours one isn't a multiple of a number above one
kept_behind : (every n : ℕ) → (every ≡ 1 → ⊥) → is_kept every n ≡ false → is_kept every (n + 1) ≡ true
kept_behind every n apart isnt = by (is_kept every (n + 1)) refl where
  parts : ((every == 0) ≡ false) × (not (n % every == 0) ≡ false)
  parts = or_parts (every == 0) (not (n % every == 0)) isnt

  flip : (b : Bool) → not b ≡ false → b ≡ true
  flip true e = refl
  flip false e = absurd cc

  multiple : n % every ≡ 0
  multiple = eqb-true (n % every) 0 (flip (n % every == 0) parts.1)

  positive : (m : ℕ) → (m == 0) ≡ false → 0 < m
  positive zero e = absurd cc
  positive (suc m) e = omega arith

  large : 1 < every
  large = let some : 0 < every = positive every parts.0 in omega (arith, some, apart)

  one : (n + 1) % every ≡ 1
  one = sym (mod-add-mod n every 1) ∙ (ap (λ (m : ℕ). (m + 1) % every) multiple ∙ mod-eq_of_lt large)

  by : (b : Bool) → is_kept every (n + 1) ≡ b → is_kept every (n + 1) ≡ true
  by true e = e
  by false e =
      let rest = or_parts (every == 0) (not ((n + 1) % every == 0)) e in
      let none : (n + 1) % every ≡ 0 = eqb-true ((n + 1) % every) 0 (flip ((n + 1) % every == 0) rest.1) in
      absurd (omega (arith, one, none))

pub second_kept : (every above to : ℕ) → above < to → (every ≡ 1 → ⊥) → is_kept every (above + 1) ≡ false
    → next_kept every above to ≡ next_above (above + 1) to
second_kept every above to below apart isnt =
    passed_over (is_kept every) (above + 1) (to - above) (to - above - 1) some isnt ∙ by (nat_lt (above + 1) to) refl where
      some : to - above ≡ suc (to - above - 1)
      some = omega (arith, below)

      by : (b : Bool) → nat_lt (above + 1) to ≡ b
          → find (is_kept every) (range_with_len (above + 1 + 1) (to - above - 1)) ≡ cond b (Some (above + 1 + 1)) None
      by true e =
          let less : above + 1 < to = ltb-true (above + 1) to e in
          let more : to - above - 1 ≡ suc (to - above - 2) = omega (arith, less) in
          found_first (is_kept every) (above + 1 + 1) (to - above - 1) (to - above - 2) more (kept_behind every (above + 1) apart isnt)
      by false e =
          let past : to ≤ above + 1 = ltb-false (above + 1) to e in
          let none : to - above - 1 ≡ 0 = omega (arith, past) in
          ap (λ (n : ℕ). find (is_kept every) (range_with_len (above + 1 + 1) n)) none

pub none_next : (every above to : ℕ) → (every ≡ 1) ⊎ ((every ≡ 1 → ⊥) × (to ≤ above)) → None ≡ next_kept every above to
none_next every above to (inl one) = sym (none_kept every above to one)
none_next every above to (inr past) = sym (none_left every above to past.1)

-- ---- what is delivered next

deed_is : (o : Option Delivery) → pumped_deed o ≡ unwrap_or (option_map run_delivery o) Mark
deed_is None = refl
deed_is (Some delivery) = refl

pub next_is : (every : ℕ) (pumping : Pumping) (ends : PartMarks) (o : Option Delivery) → next_kept every pumping.at.video ends.video ≡ None
    → next_kept every pumping.at.audio ends.audio ≡ None → option_map run_delivery o ≡ next_control pumping ends
    → pumped_deed o ≡ next_pumped every pumping ends
next_is every pumping ends o video audio control =
    let rest : Option SessionDeed = next_control pumping ends in
    deed_is o ∙ ap (λ (x : Option SessionDeed). unwrap_or x Mark) control
    ∙ sym (ap (λ (x : Option ℕ). unwrap_or (or_else (option_map TakeVideo x)
    (or_else (option_map TakeAudio (next_kept every pumping.at.audio ends.audio)) rest)) Mark) video
    ∙ ap (λ (x : Option ℕ). unwrap_or (or_else (option_map TakeAudio x) rest) Mark) audio)
