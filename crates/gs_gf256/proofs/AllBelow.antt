-- Tests of every number below a bound, which the checker computes.
use Rattle.std.proofs.Common.{◌≡◌, ℕ, zero, suc, ◌<◌, Bool, true, ◌&&◌, arith, inl, inr}
use Rattle.std.proofs.lemmas.Bool.{cases_eq, and_parts}

-- each number below n passes
unfoldable pub all_below : ℕ → (ℕ → Bool) → Bool
all_below zero test = true
all_below (suc n) test = test n && all_below n test

pub first_of_both : (x y : Bool) → (x && y) ≡ true → x ≡ true
first_of_both x y h = (and_parts x y h).0

pub second_of_both : (x y : Bool) → (x && y) ≡ true → y ≡ true
second_of_both x y h = (and_parts x y h).1

pub at_below : (n : ℕ) (test : ℕ → Bool) → all_below n test ≡ true → (i : ℕ) → i < n → test i ≡ true
unfolding all_below
at_below zero test h i below = absurd (omega arith)
at_below (suc n) test h i below =
    let b = and_parts (test n) (all_below n test) h in
    elim (cases_eq i n) [ inl same ↦ rw same b.0 | inr other ↦ at_below n test b.1 i (omega arith) ]
