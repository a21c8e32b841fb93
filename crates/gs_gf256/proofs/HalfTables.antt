-- The products of halves of bytes, each computed once, and the table of a factor that they make.
use Rattle.std.proofs.Common.{◌≡◌, ℕ, ◌+◌, ◌*◌, ◌/◌, ◌%◌, ◌<◌, true, ◌&&◌, eqb, eqb-true, get_or, bit_xor, refl, sym, ap, ◌∙◌, arith}
use Rattle.std.specs.Int.Bits.{xor_comm, xor_shifted}
use Rattle.gs_gf256.specs.Field.{product, polynomial_product, remainder}
use Rattle.gs_gf256.specs.declared.halves.TheConstants.{LOW_BY_LOW, HIGH_BY_LOW, HIGH_BY_HIGH}
use Rattle.gs_gf256.proofs.AllBelow.{all_below, at_below, first_of_both, second_of_both}
use Rattle.gs_gf256.proofs.FieldLemmas.{product-xor_l, product-xor_r}

low_by_low_test : all_below 16 (λ j. all_below 16 (λ i. eqb (get_or LOW_BY_LOW (j * 16 + i) 0) (product j i))) ≡ true
unfolding all_below product polynomial_product remainder
low_by_low_test = refl

high_by_low_test : all_below 16 (λ j. all_below 16 (λ i.
    eqb (get_or HIGH_BY_LOW (j * 16 + i) 0) (product (j * 16) i)
    && eqb (get_or HIGH_BY_LOW (j * 16 + i) 0) (product j (i * 16)))) ≡ true
unfolding all_below product polynomial_product remainder
high_by_low_test = refl

high_by_high_test : all_below 16 (λ j. all_below 16 (λ i. eqb (get_or HIGH_BY_HIGH (j * 16 + i) 0) (product (j * 16) (i * 16)))) ≡ true
unfolding all_below product polynomial_product remainder
high_by_high_test = refl

low_by_low : (j i : ℕ) → j < 16 → i < 16 → get_or LOW_BY_LOW (j * 16 + i) 0 ≡ product j i
low_by_low j i hj hi = eqb-true _ _ (at_below 16 _ (at_below 16 _ low_by_low_test j hj) i hi)

high_by_low : (j i : ℕ) → j < 16 → i < 16 → get_or HIGH_BY_LOW (j * 16 + i) 0 ≡ product (j * 16) i
high_by_low j i hj hi = eqb-true _ _ (first_of_both _ _ (at_below 16 _ (at_below 16 _ high_by_low_test j hj) i hi))

low_by_high : (j i : ℕ) → j < 16 → i < 16 → get_or HIGH_BY_LOW (j * 16 + i) 0 ≡ product j (i * 16)
low_by_high j i hj hi = eqb-true _ _ (second_of_both _ _ (at_below 16 _ (at_below 16 _ high_by_low_test j hj) i hi))

high_by_high : (j i : ℕ) → j < 16 → i < 16 → get_or HIGH_BY_HIGH (j * 16 + i) 0 ≡ product (j * 16) (i * 16)
high_by_high j i hj hi = eqb-true _ _ (at_below 16 _ (at_below 16 _ high_by_high_test j hj) i hi)

-- a byte is the sum of its halves
halves_of : (x : ℕ) → bit_xor (x % 16) (x / 16 * 16) ≡ x
halves_of x = xor_comm (x % 16) (x / 16 * 16) ∙ xor_shifted (x / 16) 4 (x % 16) (omega arith) ∙ omega arith

-- the products of k with a low half
pub low_products : (k i : ℕ) → k < 256 → i < 16
    → bit_xor (get_or LOW_BY_LOW (k % 16 * 16 + i) 0) (get_or HIGH_BY_LOW (k / 16 * 16 + i) 0) ≡ product k i
low_products k i hk hi =
    ap (λ a. bit_xor a (get_or HIGH_BY_LOW (k / 16 * 16 + i) 0)) (low_by_low (k % 16) i (omega arith) hi)
    ∙ ap (bit_xor (product (k % 16) i)) (high_by_low (k / 16) i (omega arith) hi)
    ∙ sym (product-xor_l (k % 16) (k / 16 * 16) i)
    ∙ ap (λ a. product a i) (halves_of k)

-- and with a high half
pub high_products : (k i : ℕ) → k < 256 → i < 16
    → bit_xor (get_or HIGH_BY_LOW (k % 16 * 16 + i) 0) (get_or HIGH_BY_HIGH (k / 16 * 16 + i) 0) ≡ product k (i * 16)
high_products k i hk hi =
    ap (λ a. bit_xor a (get_or HIGH_BY_HIGH (k / 16 * 16 + i) 0)) (low_by_high (k % 16) i (omega arith) hi)
    ∙ ap (bit_xor (product (k % 16) (i * 16))) (high_by_high (k / 16) i (omega arith) hi)
    ∙ sym (product-xor_l (k % 16) (k / 16 * 16) (i * 16))
    ∙ ap (λ a. product a (i * 16)) (halves_of k)

-- the sum of the products with the halves of x
pub whole_product : (k x low high : ℕ) → low ≡ product k (x % 16) → high ≡ product k (x / 16 * 16) → bit_xor low high ≡ product k x
whole_product k x low high a b =
    ap (λ t. bit_xor t high) a ∙ ap (bit_xor (product k (x % 16))) b ∙ sym (product-xor_r k (x % 16) (x / 16 * 16)) ∙ ap (product k) (halves_of x)
