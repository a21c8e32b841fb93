-- The laws of the product of bytes. It is linear in each factor, so closure, the order of two factors and the grouping of
-- three are computed at the powers of x alone.
use Rattle.std.proofs.Common.{◌≡◌, ◌≢◌, ℕ, ◌^◌, true, lit<, ltb, eqb, ltb-true, eqb-true, refl, sym, ap, ◌∙◌, bit_xor}
use Rattle.std.specs.Int.Bits.{xor_assoc, xor_self, xor_zero_r, xor_lt}
use Rattle.gs_gf256.specs.Field.{IsByte, polynomial_product, remainder, product}
use Rattle.gs_gf256.proofs.Linear.{IsLinear, linear-zero, same_from_powers, below_from_powers}
pub use Rattle.gs_gf256.proofs.Product.{product-xor_l, product-xor_r}
use Rattle.gs_gf256.proofs.AllBelow.{all_below, at_below}

-- ---- the sum

pub IsByte-xor : (a b : ℕ) → IsByte a → IsByte b → IsByte (bit_xor a b)
IsByte-xor a b ha hb = xor_lt 8 a b ha hb

pub xor-cancel : (a b : ℕ) → bit_xor a (bit_xor a b) ≡ b
xor-cancel a b = sym (xor_assoc a a b) ∙ ap (λ x. bit_xor x b) (xor_self a)

pub same_from_xor : (a b : ℕ) → bit_xor a b ≡ 0 → a ≡ b
same_from_xor a b h = sym (xor_zero_r a) ∙ ap (bit_xor a) (sym h) ∙ xor-cancel a b

pub xor-ne-zero : (a b : ℕ) → a ≢ b → bit_xor a b ≢ 0
xor-ne-zero a b other h = other (same_from_xor a b h)

-- ---- the product

-- the product by b of each a
by_second : (b : ℕ) → IsLinear (λ a. product a b)
by_second b x y = product-xor_l x y b

by_first : (a : ℕ) → IsLinear (product a)
by_first a x y = product-xor_r a x y

pub product-zero_l : (b : ℕ) → product 0 b ≡ 0
product-zero_l b = linear-zero (λ a. product a b) (by_second b)

pub product-zero_r : (a : ℕ) → product a 0 ≡ 0
product-zero_r a = linear-zero (product a) (by_first a)

closed_test : all_below 8 (λ i. all_below 8 (λ j. ltb (product (2 ^ i) (2 ^ j)) 256)) ≡ true
unfolding all_below product polynomial_product remainder
closed_test = refl

pub IsByte-product : (a b : ℕ) → IsByte a → IsByte b → IsByte (product a b)
IsByte-product a b ha hb =
    below_from_powers 8 8 (λ x. product x b) (by_second b) (λ i hi.
    below_from_powers 8 8 (product (2 ^ i)) (by_first (2 ^ i)) (λ j hj.
    ltb-true (product (2 ^ i) (2 ^ j)) 256 (at_below 8 _ (at_below 8 _ closed_test i hi) j hj)) b hb) a ha

comm_test : all_below 8 (λ i. all_below 8 (λ j. eqb (product (2 ^ i) (2 ^ j)) (product (2 ^ j) (2 ^ i)))) ≡ true
unfolding all_below product polynomial_product remainder
comm_test = refl

pub product_comm : (a b : ℕ) → IsByte a → IsByte b → product a b ≡ product b a
product_comm a b ha hb =
    same_from_powers 8 (λ x. product x b) (product b) (by_second b) (by_first b) (λ i hi.
    same_from_powers 8 (product (2 ^ i)) (λ y. product y (2 ^ i)) (by_first (2 ^ i)) (by_second (2 ^ i)) (λ j hj.
    eqb-true _ _ (at_below 8 _ (at_below 8 _ comm_test i hi) j hj)) b hb) a ha

assoc_test : all_below 8 (λ i. all_below 8 (λ j. all_below 8 (λ k.
    eqb (product (product (2 ^ i) (2 ^ j)) (2 ^ k)) (product (2 ^ i) (product (2 ^ j) (2 ^ k)))))) ≡ true
unfolding all_below product polynomial_product remainder
assoc_test = refl

-- both ways to group three factors are linear in each
pub product_assoc : (a b c : ℕ) → IsByte a → IsByte b → IsByte c → product (product a b) c ≡ product a (product b c)
product_assoc a b c ha hb hc =
    same_from_powers 8 (λ x. product (product x b) c) (λ x. product x (product b c))
    (λ x y. ap (λ z. product z c) (product-xor_l x y b) ∙ product-xor_l (product x b) (product y b) c)
    (by_second (product b c)) (λ i hi.
    same_from_powers 8 (λ y. product (product (2 ^ i) y) c) (λ y. product (2 ^ i) (product y c))
    (λ x y. ap (λ z. product z c) (product-xor_r (2 ^ i) x y) ∙ product-xor_l (product (2 ^ i) x) (product (2 ^ i) y) c)
    (λ x y. ap (product (2 ^ i)) (product-xor_l x y c) ∙ product-xor_r (2 ^ i) (product x c) (product y c)) (λ j hj.
    same_from_powers 8 (product (product (2 ^ i) (2 ^ j))) (λ z. product (2 ^ i) (product (2 ^ j) z))
    (by_first (product (2 ^ i) (2 ^ j)))
    (λ x y. ap (product (2 ^ i)) (product-xor_r (2 ^ j) x y) ∙ product-xor_r (2 ^ i) (product (2 ^ j) x) (product (2 ^ j) y)) (λ k hk.
    eqb-true _ _ (at_below 8 _ (at_below 8 _ (at_below 8 _ assoc_test i hi) j hj) k hk)) c hc) b hb) a ha

one_test : all_below 8 (λ i. eqb (product (2 ^ i) 1) (2 ^ i)) ≡ true
unfolding all_below product polynomial_product remainder
one_test = refl

pub product-one_r : (a : ℕ) → IsByte a → product a 1 ≡ a
product-one_r a ha = same_from_powers 8 (λ x. product x 1) (λ x. x) (by_second 1) (λ x y. refl) (λ i hi. eqb-true _ _ (at_below 8 _ one_test i hi)) a ha

pub product-one_l : (a : ℕ) → IsByte a → product 1 a ≡ a
product-one_l a ha = product_comm 1 a (lit< tt) ha ∙ product-one_r a ha
