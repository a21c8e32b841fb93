-- What can be named is there.
use Rattle.std.proofs.Common.{◌≡◌, ◌≤◌, ◌<◌, ◌-◌, ℕ, Bool, true, false, cond, ◌&&◌, List, [], ◌∷◌, length, Some, None, refl, arith}
use Rattle.std.specs.Prelude.{slice_get, nat_lt, nat_le}
use Rattle.std.proofs.lemmas.Bool.{and_parts, leb-true}
use Rattle.std.proofs.lemmas.Option.{slice_get-get_or}
use Rattle.gs_store.specs.Named.{is_nameable, named, most_named}

there : {A : Type 0} (all : List A) (k : ℕ) → is_nameable all k ≡ true → k - 1 < length all
there all k holds =
    let a = and_parts (nat_le 1 k && nat_le k (length all)) (nat_lt (length all - k) most_named) holds in
    let b = and_parts (nat_le 1 k) (nat_le k (length all)) a.0 in
    let least : 1 ≤ k = leb-true 1 k b.0 in
    let most : k ≤ length all = leb-true k (length all) b.1 in
    omega (arith, least, most)

isnt_none : {A : Type 0} (xs : List A) (i : ℕ) → i < length xs → slice_get xs i ≡ None → ⊥
isnt_none [] i below e = omega (arith, below)
isnt_none (x ∷ xs) i below e = let some = slice_get-get_or (x ∷ xs) i x below in absurd cc

-- where nothing is named, nothing can be
pub none_named : {A : Type 0} (all : List A) (k : ℕ) → named all k ≡ None → is_nameable all k ≡ false
none_named all k e = by (is_nameable all k) refl e where
  by : (b : Bool) → is_nameable all k ≡ b → cond b (slice_get all (k - 1)) None ≡ None → is_nameable all k ≡ false
  by false isnt is = isnt
  by true holds is = absurd (isnt_none all (k - 1) (there all k holds) is)

-- where an item is named, it can be, and is the one in its place
pub one_named : {A : Type 0} (all : List A) (k : ℕ) (x : A) → named all k ≡ Some x
    → (is_nameable all k ≡ true) × (slice_get all (k - 1) ≡ Some x)
one_named all k x e = by (is_nameable all k) refl e where
  by : (b : Bool) → is_nameable all k ≡ b → cond b (slice_get all (k - 1)) None ≡ Some x
      → (is_nameable all k ≡ true) × (slice_get all (k - 1) ≡ Some x)
  by true holds is = (holds, is)
  by false isnt is = absurd cc
