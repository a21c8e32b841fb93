-- How many flags are set.
use Rattle.std.proofs.Common.{◌≡◌, ◌<◌, ◌≤◌, ◌+◌, ℕ, zero, suc, Bool, true, false, ◌||◌, cond, List, [], ◌∷◌, map, take, refl, sym, ap, ◌∙◌, arith, inl, inr}
use Rattle.std.specs.Prelude.{◌==◌}
use Rattle.std.specs.List.{range_with_len}
use Rattle.std.proofs.lemmas.Bool.{cases_eq, eq-eqb, ne_eqb, or_left}
use Rattle.std.proofs.lemmas.List.Sums.{sum_by-cons}
use Rattle.gs_rs.specs.Restore.{IsPresent, count_present}

pub count-cons : (p : Bool) (ps : List Bool) → count_present (p ∷ ps) ≡ cond p 1 0 + count_present ps
count-cons p ps = sum_by-cons (λ (b : Bool). cond b 1 0) p ps

-- the flags of the numbers from a on that pass a test
abbrev pub flags_from : (ℕ → Bool) → ℕ → ℕ → List Bool
flags_from test a n = map test (range_with_len a n)

abbrev pub or_one : ℕ → (ℕ → Bool) → ℕ → Bool
or_one x test i = x == i || test i

-- a number below them adds none
count-past : (x : ℕ) (test : ℕ → Bool) (a n : ℕ) → x < a → count_present (flags_from (or_one x test) a n) ≡ count_present (flags_from test a n)
count-past x test a zero h = refl
count-past x test a (suc n) h =
    let off : or_one x test a ≡ test a = ap (λ (b : Bool). b || test a) (ne_eqb x a (λ e. omega arith)) in
    let more = count-past x test (a + 1) n (omega arith) in
    count-cons (or_one x test a) (flags_from (or_one x test) (a + 1) n)
    ∙ ap (λ (b : Bool). cond b 1 0 + count_present (flags_from (or_one x test) (a + 1) n)) off
    ∙ ap (λ (m : ℕ). cond (test a) 1 0 + m) more
    ∙ sym (count-cons (test a) (flags_from test (a + 1) n))

-- a number among them that didn't pass adds one
pub count-one : (x : ℕ) (test : ℕ → Bool) (a n : ℕ) → test x ≡ false → a ≤ x → x < a + n
    → count_present (flags_from (or_one x test) a n) ≡ suc (count_present (flags_from test a n))
count-one x test a zero fails least most = absurd (omega arith)
count-one x test a (suc n) fails least most = elim (cases_eq x a) [
  | inl here ↦
      let on : or_one x test a ≡ true = or_left (x == a) (test a) (eq-eqb x a here) in
      let off : test a ≡ false = ap test (sym here) ∙ fails in
      let rest = count-past x test (a + 1) n (omega arith) in
      let e1 = count-cons (or_one x test a) (flags_from (or_one x test) (a + 1) n) in
      let e2 = ap (λ (b : Bool). cond b 1 0 + count_present (flags_from (or_one x test) (a + 1) n)) on in
      let e3 = count-cons (test a) (flags_from test (a + 1) n) in
      let e4 = ap (λ (b : Bool). cond b 1 0 + count_present (flags_from test (a + 1) n)) off in
      omega (arith, e1 ∙ e2, e3 ∙ e4, rest)
  | inr other ↦
      let same : or_one x test a ≡ test a = ap (λ (b : Bool). b || test a) (ne_eqb x a other) in
      let rest = count-one x test (a + 1) n fails (omega arith) (omega arith) in
      let e1 = count-cons (or_one x test a) (flags_from (or_one x test) (a + 1) n) in
      let e2 = ap (λ (b : Bool). cond b 1 0 + count_present (flags_from (or_one x test) (a + 1) n)) same in
      let e3 = count-cons (test a) (flags_from test (a + 1) n) in
      omega (arith, e1 ∙ e2, e3, rest)
]

pub count-none : (a n : ℕ) → count_present (flags_from (λ i. false) a n) ≡ 0
count-none a zero = refl
count-none a (suc n) = let rest = count-none (a + 1) n in omega (arith, count-cons false (flags_from (λ i. false) (a + 1) n))

-- so fewer stand before a flag that is set than there are
pub count-before : (flags : List Bool) (n : ℕ) → IsPresent flags n → count_present (take n flags) < count_present flags
count-before [] n here = let no : false ≡ true = here in cc
count-before (p ∷ ps) zero here =
    let on : p ≡ true = here in
    omega (arith, count-cons p ps ∙ ap (λ (b : Bool). cond b 1 0 + count_present ps) on)
count-before (p ∷ ps) (suc n) here =
    let less = count-before ps n here in
    omega (arith, count-cons p ps, count-cons p (take n ps))
