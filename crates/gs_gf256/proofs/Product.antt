-- The product is linear in each factor, since the product of polynomials and the remainder are.
use Rattle.std.proofs.Common.{◌≡◌, ℕ, zero, suc, ◌+◌, ◌*◌, ◌%◌, ◌^◌, ◌<◌, refl, sym, ap, ◌∙◌, bit_xor, arith}
use Rattle.std.specs.Int.{bit_at}
use Rattle.std.specs.Int.Bits.{xor_self, xor_zero_r}
use Rattle.std.proofs.lemmas.Nat.Bits.{bit_at_xor, bit_at-lt}
use Rattle.gs_gf256.specs.Field.{polynomial_product, remainder, product, modulus}
use Rattle.gs_gf256.proofs.Linear.{IsLinear, xor-exchange, shifted-xor}

-- a bit times a sum
bit-times-xor : (m x y : ℕ) → m < 2 → m * bit_xor x y ≡ bit_xor (m * x) (m * y)
bit-times-xor zero x y h =
    let a : 0 * x ≡ 0 = omega arith in
    let b : 0 * y ≡ 0 = omega arith in
    let s : bit_xor (0 * x) (0 * y) ≡ 0 = rw (a, b) refl in
    omega arith
bit-times-xor (suc m) x y h =
    let one : suc m ≡ 1 = omega arith in
    let a : 1 * x ≡ x = omega arith in
    let b : 1 * y ≡ y = omega arith in
    let s : bit_xor (1 * x) (1 * y) ≡ bit_xor x y = rw (a, b) refl in
    let t : 1 * bit_xor x y ≡ bit_xor (1 * x) (1 * y) = omega arith in
    rw one t

-- a sum of bits times a number
bits-times : (m n x : ℕ) → m < 2 → n < 2 → (m + n) % 2 * x ≡ bit_xor (m * x) (n * x)
bits-times zero n x hm hn =
    let a : 0 * x ≡ 0 = omega arith in
    let b : (0 + n) % 2 ≡ n = omega arith in
    rw (a, b) refl
bits-times (suc m) zero x hm hn =
    let one : suc m ≡ 1 = omega arith in
    let a : 0 * x ≡ 0 = omega arith in
    rw (one, a) (sym (xor_zero_r (1 * x)))
bits-times (suc m) (suc n) x hm hn =
    let one : suc m ≡ 1 = omega arith in
    let more : suc n ≡ 1 = omega arith in
    let s = xor_self (1 * x) in
    rw (one, more) (omega arith)

pub polynomial_product-xor_l : (n b : ℕ) → IsLinear (λ a. polynomial_product n a b)
unfolding polynomial_product
polynomial_product-xor_l zero b x y = refl
polynomial_product-xor_l (suc n) b x y =
    let step : bit_at b n * (bit_xor x y * 2 ^ n) ≡ bit_xor (bit_at b n * (x * 2 ^ n)) (bit_at b n * (y * 2 ^ n))
    = ap (λ z. bit_at b n * z) (shifted-xor n x y) ∙ bit-times-xor (bit_at b n) (x * 2 ^ n) (y * 2 ^ n) (bit_at-lt b n) in
    rw (polynomial_product-xor_l n b x y, step)
    (xor-exchange (polynomial_product n x b) (polynomial_product n y b) (bit_at b n * (x * 2 ^ n)) (bit_at b n * (y * 2 ^ n)))

pub polynomial_product-xor_r : (n a : ℕ) → IsLinear (polynomial_product n a)
unfolding polynomial_product
polynomial_product-xor_r zero a x y = refl
polynomial_product-xor_r (suc n) a x y =
    let step : bit_at (bit_xor x y) n * (a * 2 ^ n) ≡ bit_xor (bit_at x n * (a * 2 ^ n)) (bit_at y n * (a * 2 ^ n))
    = ap (λ z. z * (a * 2 ^ n)) (bit_at_xor x y n) ∙ bits-times (bit_at x n) (bit_at y n) (a * 2 ^ n) (bit_at-lt x n) (bit_at-lt y n) in
    rw (polynomial_product-xor_r n a x y, step)
    (xor-exchange (polynomial_product n a x) (polynomial_product n a y) (bit_at x n * (a * 2 ^ n)) (bit_at y n * (a * 2 ^ n)))

pub remainder-xor : (n : ℕ) → IsLinear (remainder n)
unfolding remainder
remainder-xor zero x y = refl
remainder-xor (suc n) x y =
    let m = modulus * 2 ^ n in
    let i = n + 8 in
    let step : bit_at (bit_xor x y) i * m ≡ bit_xor (bit_at x i * m) (bit_at y i * m)
    = ap (λ z. z * m) (bit_at_xor x y i) ∙ bits-times (bit_at x i) (bit_at y i) m (bit_at-lt x i) (bit_at-lt y i) in
    ap (λ z. remainder n (bit_xor (bit_xor x y) z)) step
    ∙ ap (remainder n) (xor-exchange x y (bit_at x i * m) (bit_at y i * m))
    ∙ remainder-xor n (bit_xor x (bit_at x i * m)) (bit_xor y (bit_at y i * m))

pub product-xor_l : (a b c : ℕ) → product (bit_xor a b) c ≡ bit_xor (product a c) (product b c)
unfolding product
product-xor_l a b c = ap (remainder 7) (polynomial_product-xor_l 8 c a b) ∙ remainder-xor 7 (polynomial_product 8 a c) (polynomial_product 8 b c)

pub product-xor_r : (a b c : ℕ) → product a (bit_xor b c) ≡ bit_xor (product a b) (product a c)
unfolding product
product-xor_r a b c = ap (remainder 7) (polynomial_product-xor_r 8 a b c) ∙ remainder-xor 7 (polynomial_product 8 a b) (polynomial_product 8 a c)
