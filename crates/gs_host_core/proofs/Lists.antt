-- Lists item by item, and what is said of one of a result's two cases.
use Rattle.std.proofs.Common.{◌≡◌, ◌<◌, ◌+◌, ℕ, zero, suc, List, [], ◌∷◌, ◌++◌, length, take, drop, get_or, Result, Err, IfOk, OnOk, sym, ap, subst}
use Rattle.std.proofs.Common.{◌∙◌, arith}

-- the items before one, and the one
pub take_next : {A : Type 0} (xs : List A) (i : ℕ) (x : A) → x ≡ get_or xs i x → i < length xs → take (i + 1) xs ≡ take i xs ++ x ∷ []
take_next [] i x e h = absurd (omega arith)
take_next {A} (y ∷ ys) zero x e h = ap (λ (z : A). z ∷ []) (sym e)
take_next {A} (y ∷ ys) (suc i) x e h =
    let more : suc i + 1 ≡ suc (i + 1) = omega arith in
    ap (λ (n : ℕ). take n (y ∷ ys)) more ∙ ap (λ (l : List A). y ∷ l) (take_next ys i x e (omega arith))

-- and those behind it
pub split_next : {A : Type 0} (xs : List A) (i : ℕ) (x : A) → x ≡ get_or xs i x → i < length xs
    → take i xs ++ x ∷ drop (i + 1) xs ≡ xs
split_next [] i x e h = absurd (omega arith)
split_next {A} (y ∷ ys) zero x e h = ap (λ (z : A). z ∷ ys) e
split_next {A} (y ∷ ys) (suc i) x e h =
    let more : suc i + 1 ≡ suc (i + 1) = omega arith in
    ap (λ (n : ℕ). y ∷ (take i ys ++ x ∷ drop n (y ∷ ys))) more ∙ ap (λ (l : List A). y ∷ l) (split_next ys i x e (omega arith))

-- nothing is said of a success where there is none
pub if-failed : {T E : Type 0} (r : Result T E) (e : E) (P : T → Type 0) → r ≡ Err e → IfOk r P
if-failed r e P is = subst (λ x. IfOk x P) (sym is) tt

pub on-failed : {T E : Type 0} (r : Result T E) (e : E) (P : Type 0) → r ≡ Err e → OnOk r P
on-failed r e P is = subst (λ x. OnOk x P) (sym is) tt

-- a failure by what its error is
pub err-same : {T E : Type 0} {r : Result T E} {x y : E} → r ≡ Err x → x ≡ y → r ≡ Err y
err-same {T} {E} {r} p q = subst (λ (e : E). r ≡ Err e) q p
