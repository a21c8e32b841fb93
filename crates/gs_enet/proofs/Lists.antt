-- What holds of each member of a list.
use Rattle.std.proofs.Common.{◌≡◌, ℕ, zero, suc, Bool, true, false, cond, List, [], ◌∷◌, ◌++◌, map, drop, Option, Some, refl, subst}
use Rattle.std.specs.List.{filter, find, list_any}
use Rattle.std.proofs.lemmas.Bool.{or_parts}

abbrev pub Each : {X : Type 0} → (X → Type 0) → List X → Type 0
Each P [] = Unit {0}
Each P (x ∷ xs) = P x × Each P xs

pub each_weaker : {X : Type 0} (P Q : X → Type 0) → ((x : X) → P x → Q x) → (xs : List X) → Each P xs → Each Q xs
each_weaker P Q f [] h = tt
each_weaker P Q f (x ∷ xs) h = (f x h.0, each_weaker P Q f xs h.1)

pub each_push : {X : Type 0} (P : X → Type 0) (xs : List X) (y : X) → Each P xs → P y → Each P (xs ++ y ∷ [])
each_push P [] y h p = (p, tt)
each_push P (x ∷ xs) y h p = (h.0, each_push P xs y h.1 p)

pub each_append : {X : Type 0} (P : X → Type 0) (xs ys : List X) → Each P xs → Each P ys → Each P (xs ++ ys)
each_append P [] ys h k = k
each_append P (x ∷ xs) ys h k = (h.0, each_append P xs ys h.1 k)

each_kept : {X : Type 0} (P : X → Type 0) (x : X) (xs : List X) (b : Bool) → P x → Each P xs → Each P (cond b (x ∷ xs) xs)
each_kept P x xs true p h = (p, h)
each_kept P x xs false p h = h

pub each_filter : {X : Type 0} (P : X → Type 0) (test : X → Bool) (xs : List X) → Each P xs → Each P (filter test xs)
each_filter P test [] h = tt
each_filter P test (x ∷ xs) h = each_kept P x (filter test xs) (test x) h.0 (each_filter P test xs h.1)

pub each_drop : {X : Type 0} (P : X → Type 0) (n : ℕ) (xs : List X) → Each P xs → Each P (drop n xs)
each_drop P zero xs h = h
each_drop P (suc n) [] h = tt
each_drop P (suc n) (x ∷ xs) h = each_drop P n xs h.1

found_if : {X : Type 0} (P : X → Type 0) (test : X → Bool) (x : X) (b : Bool) (rest : Option X) (y : X)
    → test x ≡ b → P x → (rest ≡ Some y → P y × (test y ≡ true)) → cond b (Some x) rest ≡ Some y → P y × (test y ≡ true)
found_if P test x true rest y is p others e = (let same : x ≡ y = cc in subst (λ z. P z × (test z ≡ true)) same (p, is))
found_if P test x false rest y is p others e = others e

-- what a search finds holds as each member does, and passes the test
pub each_find : {X : Type 0} (P : X → Type 0) (test : X → Bool) (xs : List X) (y : X) → Each P xs → find test xs ≡ Some y → P y × (test y ≡ true)
each_find P test [] y h e = absurd cc
each_find P test (x ∷ xs) y h e = found_if P test x (test x) (find test xs) y refl h.0 (λ rest. each_find P test xs y h.1 rest) e

-- where none passes the test, each fails it
pub each_fails : {X : Type 0} (test : X → Bool) (xs : List X) → list_any test xs ≡ false → Each (λ x. test x ≡ false) xs
each_fails test [] e = tt
each_fails test (x ∷ xs) e = let parts = or_parts (test x) (list_any test xs) e in (parts.0, each_fails test xs parts.1)

pub each_map : {X Y : Type 0} (P : Y → Type 0) (f : X → Y) (xs : List X) → Each (λ x. P (f x)) xs → Each P (map f xs)
each_map P f [] h = tt
each_map P f (x ∷ xs) h = (h.0, each_map P f xs h.1)

pub each_unmap : {X Y : Type 0} (P : Y → Type 0) (f : X → Y) (xs : List X) → Each P (map f xs) → Each (λ x. P (f x)) xs
each_unmap P f [] h = tt
each_unmap P f (x ∷ xs) h = (h.0, each_unmap P f xs h.1)

pub each_both : {X : Type 0} (P Q : X → Type 0) (xs : List X) → Each P xs → Each Q xs → Each (λ x. P x × Q x) xs
each_both P Q [] h k = tt
each_both P Q (x ∷ xs) h k = ((h.0, k.0), each_both P Q xs h.1 k.1)
