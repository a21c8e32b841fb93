-- Inverses: those that the table of powers shows, and what follows from them.
use Rattle.std.proofs.Common.{◌≡◌, ◌≢◌, ℕ, zero, suc, ◌+◌, ◌-◌, ◌<◌, lit<, sym, ap, ◌∙◌, subst, arith, inl, inr}
use Rattle.std.proofs.lemmas.Bool.{cases_eq, eq-eqb, ne_eqb}
use Rattle.gs_gf256.specs.Field.{IsByte, product, IsInverse, inverse, inverse_below, quotient}
use Rattle.gs_gf256.proofs.FieldLemmas.{product_assoc, product_comm, product-one_r, product-one_l, product-zero_r, product-zero_l}
use Rattle.gs_gf256.proofs.Powers.{power_of_two, logarithm, power-add, power-whole, IsByte-power, logarithm_is}

-- the inverse by logarithms
pub inverse_by_powers : (a : ℕ) → IsByte a → a ≢ 0 → IsInverse a (power_of_two (255 - logarithm a))
inverse_by_powers a ha other =
    let l = logarithm_is a ha other in
    let k = logarithm a in
    let sum : k + (255 - k) ≡ 255 = omega (arith, l.0) in
    let inside : k + (255 - k) < 509 = omega arith in (
      IsByte-power (255 - k) (omega arith),
      ap (λ x. product x (power_of_two (255 - k))) (sym l.1) ∙ power-add k (255 - k) inside ∙ ap power_of_two sum ∙ power-whole,
    )

-- two inverses of one byte are equal
same_inverse : (a b c : ℕ) → IsByte a → IsByte b → IsByte c → product a b ≡ 1 → product a c ≡ 1 → b ≡ c
same_inverse a b c ha hb hc eb ec =
    sym (product-one_r b hb) ∙ ap (product b) (sym ec) ∙ sym (product_assoc b a c hb ha hc)
    ∙ ap (λ x. product x c) (product_comm b a hb ha ∙ eb) ∙ product-one_l c hc

-- the definition's search among the numbers below n finds an inverse that is there
found : (n a b : ℕ) → b < n → product a b ≡ 1 → (inverse_below n a < n) × (product a (inverse_below n a) ≡ 1)
unfolding inverse_below
found zero a b h e = absurd (omega arith)
found (suc n) a b h e =
    elim (cases_eq (product a n) 1) [
      | inl here ↦ let t = eq-eqb (product a n) 1 here in rw t (omega arith, here)
      | inr there ↦
          let t = ne_eqb (product a n) 1 there in
          let other : b ≢ n = λ same. there (subst (λ x. product a x ≡ 1) same e) in
          let r = found n a b (omega arith) e in
          rw t (omega (arith, r.0), r.1)
    ]

pub inverse_is : (a : ℕ) → IsByte a → a ≢ 0 → IsInverse a (inverse a)
unfolding inverse
inverse_is a ha other =
    let i = inverse_by_powers a ha other in
    found 256 a (power_of_two (255 - logarithm a)) i.0 i.1

not_zero : (a b : ℕ) → product a b ≡ 1 → a ≢ 0
not_zero a b e z =
    let w : product 0 b ≡ 1 = subst (λ x. product x b ≡ 1) z e in
    let v = product-zero_l b in
    omega arith

pub inverse_unique : (a b : ℕ) → IsByte a → IsInverse a b → b ≡ inverse a
inverse_unique a b ha h =
    let i = inverse_is a ha (not_zero a b h.1) in
    same_inverse a b (inverse a) ha h.0 i.0 h.1 i.1

below_search : (n a : ℕ) → inverse_below (suc n) a < suc n
unfolding inverse_below
below_search zero a =
    elim (cases_eq (product a 0) 1) [
      | inl here ↦ let t = eq-eqb (product a 0) 1 here in rw t (omega arith)
      | inr there ↦ let t = ne_eqb (product a 0) 1 there in rw t (omega arith)
    ]
below_search (suc n) a =
    elim (cases_eq (product a (suc n)) 1) [
      | inl here ↦ let t = eq-eqb (product a (suc n)) 1 here in rw t (omega arith)
      | inr there ↦ let t = ne_eqb (product a (suc n)) 1 there in let r = below_search n a in rw t (omega arith)
    ]

pub IsByte-inverse : (a : ℕ) → IsByte (inverse a)
unfolding inverse
IsByte-inverse a = below_search 255 a

pub product-inverse : (a : ℕ) → IsByte a → a ≢ 0 → product a (inverse a) ≡ 1
product-inverse a ha other = (inverse_is a ha other).1

-- a factor that is not 0 can be divided out
pub product-inverse_l : (a b : ℕ) → IsByte a → IsByte b → a ≢ 0 → product (inverse a) (product a b) ≡ b
product-inverse_l a b ha hb other =
    sym (product_assoc (inverse a) a b (IsByte-inverse a) ha hb)
    ∙ ap (λ x. product x b) (product_comm (inverse a) a (IsByte-inverse a) ha ∙ product-inverse a ha other)
    ∙ product-one_l b hb

pub product_cancel : (a b c : ℕ) → IsByte a → IsByte b → IsByte c → a ≢ 0 → product a b ≡ product a c → b ≡ c
product_cancel a b c ha hb hc other e =
    sym (product-inverse_l a b ha hb other) ∙ ap (product (inverse a)) e ∙ product-inverse_l a c ha hc other

pub zero_from_product : (a b : ℕ) → IsByte a → IsByte b → a ≢ 0 → product a b ≡ 0 → b ≡ 0
zero_from_product a b ha hb other e = product_cancel a b 0 ha hb (lit< tt) other (e ∙ sym (product-zero_r a))

pub product-ne-zero : (a b : ℕ) → IsByte a → IsByte b → a ≢ 0 → b ≢ 0 → product a b ≢ 0
product-ne-zero a b ha hb other another e = another (zero_from_product a b ha hb other e)

pub quotient-product : (a b : ℕ) → IsByte a → IsByte b → b ≢ 0 → product (quotient a b) b ≡ a
quotient-product a b ha hb other =
    product_assoc a (inverse b) b ha (IsByte-inverse b) hb
    ∙ ap (product a) (product_comm (inverse b) b (IsByte-inverse b) hb ∙ product-inverse b hb other)
    ∙ product-one_r a ha
