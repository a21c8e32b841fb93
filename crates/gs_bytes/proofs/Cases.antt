-- What holds in each case of a test, or of a result.
use Rattle.std.proofs.Common.{◌≡◌, ◌≢◌, ◌<◌, ◌==◌, ℕ, Bool, true, false, not, Result, Ok, Err, OnOk, OnErr, is_err, ap, arith}
use Rattle.std.specs.Prelude.{MatchBool}
use Rattle.std.proofs.lemmas.Bool.{ne_eqb}

pub match_more : (b : Bool) (P Q P' Q' : Type 0) → (P → P') → (Q → Q') → MatchBool b P Q → MatchBool b P' Q'
match_more true P Q P' Q' p q m = p m
match_more false P Q P' Q' p q m = q m

-- what holds in any case holds at a failure
pub on_err : {T E : Type 0} (r : Result T E) (P : Type 0) → P → OnErr r P
on_err (Ok x) P h = tt
on_err (Err e) P h = h

-- and at a success
pub on_ok : {T E : Type 0} (r : Result T E) (P : Type 0) → P → OnOk r P
on_ok (Ok x) P h = h
on_ok (Err e) P h = tt

-- what holds of a success holds where there is no failure
pub from_ok : {T E : Type 0} (r : Result T E) (P : Type 0) → is_err r ≡ false → OnOk r P → P
from_ok (Ok x) P is h = h
from_ok (Err e) P is h = absurd (cc)

-- a test of two numbers that differ
pub not_zero : (n : ℕ) → n ≢ 0 → not (n == 0) ≡ true
not_zero n some = ap not (ne_eqb n 0 some)

pub less_is_other : (n m : ℕ) → n < m → (n == m) ≡ false
less_is_other n m less = ne_eqb n m (λ same. omega (arith, less, same))
