-- Linear functions: those that respect xor. Two that agree at the powers of 2 agree at every number of that many bits, so
-- a law of the product is checked at a few bytes.
use Rattle.std.proofs.Common.{◌≡◌, ℕ, zero, suc, ◌+◌, ◌-◌, ◌*◌, ◌^◌, ◌<◌, ◌≤◌, sym, ap, ◌∙◌, bit_xor, arith, inl, inr}
use Rattle.std.specs.Int.Bits.{xor_assoc, xor_comm, xor_self, xor_lt, xor_block, xor_shifted}
use Rattle.std.proofs.Math.Nat.{pow-suc}
use Rattle.std.proofs.lemmas.Nat.{pow_pos}
use Rattle.std.proofs.lemmas.Bool.{cases_lt}

abbrev pub IsLinear : (ℕ → ℕ) → Type 0
IsLinear f = (x y : ℕ) → f (bit_xor x y) ≡ bit_xor (f x) (f y)

-- the two middle terms of a sum of four change places
pub xor-exchange : (a b c d : ℕ) → bit_xor (bit_xor a b) (bit_xor c d) ≡ bit_xor (bit_xor a c) (bit_xor b d)
xor-exchange a b c d =
    xor_assoc a b (bit_xor c d)
    ∙ ap (bit_xor a) (sym (xor_assoc b c d) ∙ ap (λ x. bit_xor x d) (xor_comm b c) ∙ xor_assoc c b d)
    ∙ sym (xor_assoc a c (bit_xor b d))

pub shifted-xor : (k a b : ℕ) → bit_xor a b * 2 ^ k ≡ bit_xor (a * 2 ^ k) (b * 2 ^ k)
shifted-xor k a b =
    let e : bit_xor (a * 2 ^ k + 0) (b * 2 ^ k + 0) ≡ bit_xor a b * 2 ^ k + 0 = xor_block k a b 0 0 (pow_pos k) (pow_pos k) in
    let l : a * 2 ^ k + 0 ≡ a * 2 ^ k = omega arith in
    let r : b * 2 ^ k + 0 ≡ b * 2 ^ k = omega arith in
    let s : bit_xor (a * 2 ^ k + 0) (b * 2 ^ k + 0) ≡ bit_xor (a * 2 ^ k) (b * 2 ^ k) = cc in
    omega arith

pub linear-zero : (f : ℕ → ℕ) → IsLinear f → f 0 ≡ 0
linear-zero f linear = linear 0 0 ∙ xor_self (f 0)

-- a number of n + 1 bits that has bit n
pub top_bit : (n a : ℕ) → a < 2 ^ suc n → 2 ^ n ≤ a → bit_xor (2 ^ n) (a - 2 ^ n) ≡ a
top_bit n a below above =
    let p : 2 ^ suc n ≡ 2 ^ n * 2 = pow-suc 2 n in
    let e = xor_shifted 1 n (a - 2 ^ n) (omega arith) in
    let o : 1 * 2 ^ n ≡ 2 ^ n = omega arith in
    ap (λ x. bit_xor x (a - 2 ^ n)) (sym o) ∙ e ∙ omega arith

pub same_from_powers : (n : ℕ) (f g : ℕ → ℕ) → IsLinear f → IsLinear g → ((i : ℕ) → i < n → f (2 ^ i) ≡ g (2 ^ i))
    → (a : ℕ) → a < 2 ^ n → f a ≡ g a
same_from_powers zero f g f_linear g_linear agree a below =
    let none : a ≡ 0 = omega arith in
    ap f none ∙ linear-zero f f_linear ∙ sym (linear-zero g g_linear) ∙ ap g (sym none)
same_from_powers (suc n) f g f_linear g_linear agree a below =
    let fewer : (i : ℕ) → i < n → f (2 ^ i) ≡ g (2 ^ i) = λ i h. agree i (omega arith) in
    let p : 2 ^ suc n ≡ 2 ^ n * 2 = pow-suc 2 n in
    elim (cases_lt a (2 ^ n)) [
      | inl low ↦ same_from_powers n f g f_linear g_linear fewer a low
      | inr high ↦
          let e = top_bit n a below high in
          let rest = same_from_powers n f g f_linear g_linear fewer (a - 2 ^ n) (omega arith) in
          let top = agree n (omega arith) in
          let fa = ap f (sym e) ∙ f_linear (2 ^ n) (a - 2 ^ n) in
          let ga = ap g (sym e) ∙ g_linear (2 ^ n) (a - 2 ^ n) in
          cc
    ]

-- values at powers of 2 of k bits make values of k bits
pub below_from_powers : (k n : ℕ) (f : ℕ → ℕ) → IsLinear f → ((i : ℕ) → i < n → f (2 ^ i) < 2 ^ k) → (a : ℕ) → a < 2 ^ n → f a < 2 ^ k
below_from_powers k zero f linear small a below =
    let none : a ≡ 0 = omega arith in
    let e : f a ≡ 0 = ap f none ∙ linear-zero f linear in
    omega (arith, pow_pos k)
below_from_powers k (suc n) f linear small a below =
    let fewer : (i : ℕ) → i < n → f (2 ^ i) < 2 ^ k = λ i h. small i (omega arith) in
    let p : 2 ^ suc n ≡ 2 ^ n * 2 = pow-suc 2 n in
    elim (cases_lt a (2 ^ n)) [
      | inl low ↦ below_from_powers k n f linear fewer a low
      | inr high ↦
          let e = top_bit n a below high in
          let rest = below_from_powers k n f linear fewer (a - 2 ^ n) (omega arith) in
          let fa = ap f (sym e) ∙ linear (2 ^ n) (a - 2 ^ n) in
          let both = xor_lt k (f (2 ^ n)) (f (a - 2 ^ n)) (small n (omega arith)) rest in
          omega arith
    ]
