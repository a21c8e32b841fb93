-- Lists: what holds of each member, their fronts, and lists made from a range.
use Rattle.std.proofs.Common.{◌≡◌, ◌<◌, ◌≤◌, ◌+◌, ℕ, zero, suc, Bool, true, Option, Some, None, List, [], ◌∷◌, ◌++◌, length, take, get_or, refl, sym, ap, ◌∙◌}
use Rattle.std.proofs.Common.{arith, append-nil, append_assoc}
use Rattle.std.specs.List.{All, AllByRecursion, Contains, list_all, concat, filter_map, cons_option, flat_map, range_with_len, slice_get}
use Rattle.std.proofs.lemmas.List.{take_more}
use Rattle.std.proofs.lemmas.List.Elements.{All-nil, All-cons, All-head, All-tail}
use Rattle.std.proofs.lemmas.List.Folds.{concat-append, list_all-append}
use mathlib.Core.List.{IsPrefix}

pub all-append : (p : ℕ → Bool) (a b : List ℕ) → list_all p a ≡ true → list_all p b ≡ true → list_all p (a ++ b) ≡ true
all-append p a b h k = list_all-append p a b ∙ grind (arith, h, k)

pub all_front : (p : ℕ → Bool) (a b : List ℕ) → list_all p (a ++ b) ≡ true → list_all p a ≡ true
all_front p a b h = let e = sym (list_all-append p a b) ∙ h in grind (arith, e)

pub all_back : (p : ℕ → Bool) (a b : List ℕ) → list_all p (a ++ b) ≡ true → list_all p b ≡ true
all_back p a b h = let e = sym (list_all-append p a b) ∙ h in grind (arith, e)

-- what holds of each member, member by member
pub AllByRecursion-weaker : {A : Type 0} (P Q : A → Type 0) (xs : List A) → ((x : A) → P x → Q x) → AllByRecursion P xs → AllByRecursion Q xs
AllByRecursion-weaker P Q [] f h = tt
AllByRecursion-weaker P Q (x ∷ xs) f h = (f x h.0, AllByRecursion-weaker P Q xs f h.1)

pub AllByRecursion-append : {A : Type 0} (P : A → Type 0) (xs ys : List A) → AllByRecursion P xs → AllByRecursion P ys → AllByRecursion P (xs ++ ys)
AllByRecursion-append P [] ys h k = k
AllByRecursion-append P (x ∷ xs) ys h k = (h.0, AllByRecursion-append P xs ys h.1 k)

pub AllByRecursion-push : {A : Type 0} (P : A → Type 0) (xs : List A) (x : A) → AllByRecursion P xs → P x → AllByRecursion P (xs ++ x ∷ [])
AllByRecursion-push P [] x all new = (new, tt)
AllByRecursion-push P (y ∷ xs) x all new = (all.0, AllByRecursion-push P xs x all.1 new)

-- what holds of the answer at each member holds of all answers
pub All-filter_map : {X Y : Type 0} (g : X → Option Y) (P : Y → Type 0) (xs : List X) → All (λ x. (y : Y) → g x ≡ Some y → P y) xs → All P (filter_map g xs)
All-filter_map g P [] all = All-nil P
All-filter_map {X} {Y} g P (x ∷ xs) all =
    onto (g x) (All-head (λ x'. (y : Y) → g x' ≡ Some y → P y) x xs all) (All-filter_map g P xs (All-tail (λ x'. (y : Y) → g x' ≡ Some y → P y) x xs all))
  where
    onto : (o : Option Y) → ((y : Y) → o ≡ Some y → P y) → All P (filter_map g xs) → All P (cons_option o (filter_map g xs))
    onto None h rest = rest
    onto (Some y) h rest = All-cons P y (filter_map g xs) (h y refl) rest

-- what a list contains a longer one contains
pub contains_behind : {X : Type 0} (y : X) (ys : List X) (x : X) → Contains ys x → Contains (y ∷ ys) x
contains_behind y ys x found = (suc found.0, omega (arith, found.1), found.2)

-- a member within a list
pub some_within : {X : Type 0} (xs : List X) (n : ℕ) → n < length xs → (x : X) × (slice_get xs n ≡ Some x)
some_within [] n below = absurd (omega (arith, below))
some_within (x ∷ xs) zero below = (x, refl)
some_within (x ∷ xs) (suc n) below = some_within xs n (omega (arith, below))

-- one list more behind those put together
pub concat_more : (us : List (List ℕ)) (i : ℕ) (u : List ℕ) → i < length us → concat (take (i + 1) us) ≡ concat (take i us) ++ get_or us i u
concat_more us i u within =
    ap concat (take_more us i u within) ∙ concat-append (take i us) (get_or us i u ∷ [])
    ∙ ap (λ (l : List ℕ). concat (take i us) ++ l) (append-nil (get_or us i u))

-- one number more in a range
pub range_more : (a n j : ℕ) → a + n ≡ j → range_with_len a (n + 1) ≡ range_with_len a n ++ j ∷ []
range_more a zero j is = let e : a ≡ j = omega (arith, is) in ap (λ (k : ℕ). k ∷ []) e
range_more a (suc n) j is =
    let e : suc n + 1 ≡ suc (n + 1) = omega arith in
    ap (range_with_len a) e ∙ ap (λ (l : List ℕ). a ∷ l) (range_more (a + 1) n j (omega (arith, is)))

-- two functions that agree on a range
pub flat_map-range : {A : Type 0} (f g : ℕ → List A) (a n : ℕ) → ((k : ℕ) → k < a + n → f k ≡ g k)
    → flat_map f (range_with_len a n) ≡ flat_map g (range_with_len a n)
flat_map-range f g a zero same = refl
flat_map-range {A} f g a (suc n) same =
    ap (λ (l : List A). l ++ flat_map f (range_with_len (a + 1) n)) (same a (omega arith))
    ∙ ap (λ (l : List A). g a ++ l) (flat_map-range f g (a + 1) n (λ k h. same k (omega arith)))

-- fronts of a list
pub prefix_self : {A : Type 0} (xs : List A) → IsPrefix xs xs
prefix_self xs = ([], append-nil xs)

pub prefix_trans : {A : Type 0} (xs ys zs : List A) → IsPrefix xs ys → IsPrefix ys zs → IsPrefix xs zs
prefix_trans xs ys zs p q = (p.0 ++ q.0, sym (append_assoc xs p.0 q.0) ∙ (ap (λ w. w ++ q.0) p.1 ∙ q.1))

-- of two fronts of one list the shorter is a front of the longer
pub prefix_shorter : {A : Type 0} (xs ys zs : List A) → IsPrefix xs zs → IsPrefix ys zs → length xs ≤ length ys → IsPrefix xs ys
prefix_shorter [] ys zs p q le = (ys, refl)
prefix_shorter (x ∷ xs) [] zs p q le = absurd (omega arith)
prefix_shorter (x ∷ xs) (y ∷ ys) [] p q le = absurd (cc (p.1))
prefix_shorter (x ∷ xs) (y ∷ ys) (z ∷ zs) p q le =
    let heads : x ≡ y = cc (p.1, q.1) in
    let rest = prefix_shorter xs ys zs (p.0, cc (p.1)) (q.0, cc (q.1)) (omega arith) in
    (rest.0, cc (heads, rest.1))
