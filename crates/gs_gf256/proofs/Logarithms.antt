-- Powers of 2 of any exponent: what the table has, and that they come round after 255.
use Rattle.std.proofs.Common.{◌≡◌, ◌≢◌, ℕ, zero, suc, ◌+◌, ◌*◌, ◌/◌, ◌%◌, ◌<◌, if◌then◌else◌, ◌==◌, lit<, refl, sym, ap, ◌∙◌, arith}
use Rattle.std.proofs.lemmas.Bool.{ne_eqb}
use Rattle.gs_gf256.specs.Field.{IsByte, product, power}
use Rattle.gs_gf256.proofs.FieldLemmas.{IsByte-product, product_assoc, product-one_l, product-one_r}
use Rattle.gs_gf256.proofs.Powers.{power_of_two, power-zero, power-more, power-whole, logarithm, logarithm_is}

pub power_in_table : (i : ℕ) → i < 509 → power_of_two i ≡ power i
unfolding power
power_in_table zero h = power-zero
power_in_table (suc i) h =
    let s : suc i ≡ i + 1 = omega arith in
    ap power_of_two s ∙ power-more i (omega arith) ∙ ap (λ x. product x 2) (power_in_table i (omega arith))

pub IsByte-power_of : (i : ℕ) → IsByte (power i)
unfolding power
IsByte-power_of zero = lit< tt
IsByte-power_of (suc i) = IsByte-product (power i) 2 (IsByte-power_of i) (lit< tt)

pub powers_add : (i j : ℕ) → product (power i) (power j) ≡ power (i + j)
unfolding power
powers_add i zero =
    let e : i ≡ i + 0 = omega arith in
    product-one_r (power i) (IsByte-power_of i) ∙ ap power e
powers_add i (suc j) =
    let t : suc (i + j) ≡ i + suc j = omega arith in
    sym (product_assoc (power i) (power j) 2 (IsByte-power_of i) (IsByte-power_of j) (lit< tt))
    ∙ ap (λ x. product x 2) (powers_add i j)
    ∙ ap power t

power_comes_round : (rounds i : ℕ) → power (255 * rounds + i) ≡ power i
power_comes_round zero i = let e : 255 * 0 + i ≡ i = omega arith in ap power e
power_comes_round (suc rounds) i =
    let e : 255 * suc rounds + i ≡ 255 + (255 * rounds + i) = omega arith in
    ap power e
    ∙ sym (powers_add 255 (255 * rounds + i))
    ∙ ap (λ x. product x (power (255 * rounds + i))) (sym (power_in_table 255 (lit< tt)) ∙ power-whole)
    ∙ product-one_l (power (255 * rounds + i)) (IsByte-power_of (255 * rounds + i))
    ∙ power_comes_round rounds i

pub power-modulo : (i : ℕ) → power (i % 255) ≡ power i
power-modulo i =
    let e : 255 * (i / 255) + i % 255 ≡ i = omega arith in
    sym (power_comes_round (i / 255) (i % 255)) ∙ ap power e

pub logarithm-below : (a : ℕ) → IsByte a → logarithm a < 255
unfolding logarithm
logarithm-below zero ha = lit< tt
logarithm-below (suc a) ha = (logarithm_is (suc a) ha (λ e. omega arith)).0

-- the logarithm of 0 is that of 1
pub power-logarithm : (a : ℕ) → IsByte a → power (logarithm a) ≡ (if a == 0 then 1 else a)
unfolding logarithm power
power-logarithm zero ha = refl
power-logarithm (suc a) ha =
    let other : suc a ≢ 0 = λ e. omega arith in
    let l = logarithm_is (suc a) ha other in
    rw (ne_eqb (suc a) 0 other) (sym (power_in_table (logarithm (suc a)) (omega (arith, l.0))) ∙ l.1)
