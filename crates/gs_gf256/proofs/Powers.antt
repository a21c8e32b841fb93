-- The tables are what they are called: entry i of the one is 2 to the power i, and the other says at which place an
-- element stands. Each is read once, by the checker.
use Rattle.std.proofs.Common.{◌≡◌, ◌≢◌, ℕ, zero, suc, ◌+◌, ◌<◌, Bool, true, ◌&&◌, List, [], ◌∷◌, length, get_or, drop, lit<, ltb, eqb, ltb-true, eqb-true, refl}
use Rattle.std.proofs.Common.{sym, ap, ◌∙◌, arith}
use Rattle.gs_gf256.specs.Field.{IsByte, polynomial_product, remainder, product}
use Rattle.gs_gf256.specs.declared.tables.TheConstants.{POWERS, LOGARITHMS}
use Rattle.gs_gf256.proofs.FieldLemmas.{product_assoc, product-one_r}
use Rattle.gs_gf256.proofs.AllBelow.{first_of_both, second_of_both}

-- each number of the list is a byte, and the next is twice it in the field
unfoldable doubles : List ℕ → Bool
doubles [] = true
doubles (x ∷ []) = ltb x 256
doubles (x ∷ y ∷ ys) = (ltb x 256 && eqb y (product x 2)) && doubles (y ∷ ys)

doubles_at : (xs : List ℕ) → doubles xs ≡ true → (i : ℕ) → i + 1 < length xs → get_or xs (i + 1) 0 ≡ product (get_or xs i 0) 2
unfolding doubles
doubles_at [] h i inside = absurd (omega arith)
doubles_at (x ∷ []) h i inside = absurd (omega arith)
doubles_at (x ∷ y ∷ ys) h zero inside = eqb-true y (product x 2) (second_of_both (ltb x 256) _ (first_of_both _ _ h))
doubles_at (x ∷ y ∷ ys) h (suc i) inside =
    let e = doubles_at (y ∷ ys) (second_of_both (ltb x 256 && eqb y (product x 2)) _ h) i (omega arith) in
    let s : suc i + 1 ≡ suc (i + 1) = omega arith in
    rw s e

doubles_byte : (xs : List ℕ) → doubles xs ≡ true → (i : ℕ) → i < length xs → get_or xs i 0 < 256
unfolding doubles
doubles_byte [] h i inside = absurd (omega arith)
doubles_byte (x ∷ []) h zero inside = ltb-true x 256 h
doubles_byte (x ∷ []) h (suc i) inside = absurd (omega arith)
doubles_byte (x ∷ y ∷ ys) h zero inside = ltb-true x 256 (first_of_both _ _ (first_of_both _ _ h))
doubles_byte (x ∷ y ∷ ys) h (suc i) inside = doubles_byte (y ∷ ys) (second_of_both (ltb x 256 && eqb y (product x 2)) _ h) i (omega arith)

powers_test : doubles POWERS ≡ true
unfolding doubles product polynomial_product remainder
powers_test = refl

-- the list gives the place of a, a + 1, .. in another
unfoldable places : List ℕ → ℕ → List ℕ → Bool
places powers a [] = true
places powers a (l ∷ ls) = (ltb l 255 && eqb (get_or powers l 0) a) && places powers (a + 1) ls

places_at : (powers : List ℕ) (a : ℕ) (ls : List ℕ) → places powers a ls ≡ true → (i : ℕ) → i < length ls
    → (get_or ls i 0 < 255) × (get_or powers (get_or ls i 0) 0 ≡ a + i)
unfolding places
places_at powers a [] h i inside = absurd (omega arith)
places_at powers a (l ∷ ls) h zero inside =
    let f = first_of_both (ltb l 255 && eqb (get_or powers l 0) a) _ h in
    let e = eqb-true (get_or powers l 0) a (second_of_both (ltb l 255) _ f) in
    (ltb-true l 255 (first_of_both _ _ f), omega arith)
places_at powers a (l ∷ ls) h (suc i) inside =
    let r = places_at powers (a + 1) ls (second_of_both (ltb l 255 && eqb (get_or powers l 0) a) _ h) i (omega arith) in
    (r.0, r.1 ∙ omega arith)

-- the logarithms of 1, 2, .. 255
logarithms_test : places POWERS 1 (drop 1 LOGARITHMS) ≡ true
unfolding places
logarithms_test = refl

-- 2 to the power i
unfoldable pub power_of_two : ℕ → ℕ
power_of_two i = get_or POWERS i 0

-- the power of 2 that a is
unfoldable pub logarithm : ℕ → ℕ
logarithm a = get_or LOGARITHMS a 0

pub power-zero : power_of_two 0 ≡ 1
unfolding power_of_two
power-zero = refl

pub power-whole : power_of_two 255 ≡ 1
unfolding power_of_two
power-whole = refl

pub power-more : (i : ℕ) → i + 1 < 509 → power_of_two (i + 1) ≡ product (power_of_two i) 2
unfolding power_of_two
power-more i h = doubles_at POWERS powers_test i h

pub IsByte-power : (i : ℕ) → i < 509 → IsByte (power_of_two i)
unfolding power_of_two
IsByte-power i h = doubles_byte POWERS powers_test i h

pub logarithm_is : (a : ℕ) → IsByte a → a ≢ 0 → (logarithm a < 255) × (power_of_two (logarithm a) ≡ a)
unfolding power_of_two logarithm
logarithm_is zero ha other = absurd (other refl)
logarithm_is (suc a) ha other =
    let r = places_at POWERS 1 (drop 1 LOGARITHMS) logarithms_test a (omega arith) in
    (r.0, r.1 ∙ omega arith)

pub power-add : (i j : ℕ) → i + j < 509 → product (power_of_two i) (power_of_two j) ≡ power_of_two (i + j)
power-add i zero h =
    let e : i + 0 ≡ i = omega arith in
    rw (power-zero, e) (product-one_r (power_of_two i) (IsByte-power i (omega arith)))
power-add i (suc j) h =
    let s : suc j ≡ j + 1 = omega arith in
    let t : i + suc j ≡ (i + j) + 1 = omega arith in
    ap (λ x. product (power_of_two i) (power_of_two x)) s
    ∙ ap (product (power_of_two i)) (power-more j (omega arith))
    ∙ sym (product_assoc (power_of_two i) (power_of_two j) 2 (IsByte-power i (omega arith)) (IsByte-power j (omega arith)) (lit< tt))
    ∙ ap (λ x. product x 2) (power-add i j (omega arith))
    ∙ sym (power-more (i + j) (omega arith))
    ∙ ap power_of_two (sym t)
