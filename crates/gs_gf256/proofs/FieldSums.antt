-- Sums of several bytes.
use Rattle.std.proofs.Common.{◌≡◌, ◌≢◌, ℕ, zero, suc, ◌+◌, ◌<◌, bit_xor, lit<, refl, sym, ap, ◌∙◌, arith, inl, inr}
use Rattle.std.proofs.Math.Numerals.{add-one}
use Rattle.std.proofs.lemmas.Bool.{cases_eq}
use Rattle.std.specs.Int.Bits.{xor_zero_r}
use Rattle.gs_gf256.specs.Field.{IsByte, product, field_sum}
use Rattle.gs_gf256.proofs.Linear.{xor-exchange}
use Rattle.gs_gf256.proofs.FieldLemmas.{IsByte-xor, product-xor_l, product-xor_r, product-zero_l, product-zero_r}

pub field_sum-zero : (f : ℕ → ℕ) → field_sum f 0 ≡ 0
unfolding field_sum
field_sum-zero f = refl

pub field_sum-suc : (f : ℕ → ℕ) (n : ℕ) → field_sum f (suc n) ≡ bit_xor (field_sum f n) (f n)
unfolding field_sum
field_sum-suc f n = refl

pub field_sum-more : (f : ℕ → ℕ) (n : ℕ) → field_sum f (n + 1) ≡ bit_xor (field_sum f n) (f n)
field_sum-more f n = ap (field_sum f) (add-one n) ∙ field_sum-suc f n

pub field_sum-same : (f g : ℕ → ℕ) (n : ℕ) → ((i : ℕ) → i < n → f i ≡ g i) → field_sum f n ≡ field_sum g n
unfolding field_sum
field_sum-same f g zero h = refl
field_sum-same f g (suc n) h =
    ap (λ x. bit_xor x (f n)) (field_sum-same f g n (λ i l. h i (omega arith))) ∙ ap (bit_xor (field_sum g n)) (h n (omega arith))

pub IsByte-field_sum : (f : ℕ → ℕ) (n : ℕ) → ((i : ℕ) → i < n → IsByte (f i)) → IsByte (field_sum f n)
unfolding field_sum
IsByte-field_sum f zero h = lit< tt
IsByte-field_sum f (suc n) h = IsByte-xor (field_sum f n) (f n) (IsByte-field_sum f n (λ i l. h i (omega arith))) (h n (omega arith))

pub field_sum-xor : (f g : ℕ → ℕ) (n : ℕ) → field_sum (λ i. bit_xor (f i) (g i)) n ≡ bit_xor (field_sum f n) (field_sum g n)
unfolding field_sum
field_sum-xor f g zero = refl
field_sum-xor f g (suc n) =
    ap (λ x. bit_xor x (bit_xor (f n) (g n))) (field_sum-xor f g n) ∙ xor-exchange (field_sum f n) (field_sum g n) (f n) (g n)

pub product-field_sum : (a : ℕ) (f : ℕ → ℕ) (n : ℕ) → product a (field_sum f n) ≡ field_sum (λ i. product a (f i)) n
unfolding field_sum
product-field_sum a f zero = product-zero_r a
product-field_sum a f (suc n) =
    product-xor_r a (field_sum f n) (f n) ∙ ap (λ x. bit_xor x (product a (f n))) (product-field_sum a f n)

pub field_sum-product : (f : ℕ → ℕ) (n b : ℕ) → product (field_sum f n) b ≡ field_sum (λ i. product (f i) b) n
unfolding field_sum
field_sum-product f zero b = product-zero_l b
field_sum-product f (suc n) b =
    product-xor_l (field_sum f n) (f n) b ∙ ap (λ x. bit_xor x (product (f n) b)) (field_sum-product f n b)

-- terms that are all 0
pub field_sum_none : (f : ℕ → ℕ) (n : ℕ) → ((i : ℕ) → i < n → f i ≡ 0) → field_sum f n ≡ 0
unfolding field_sum
field_sum_none f zero h = refl
field_sum_none f (suc n) h =
    ap (λ x. bit_xor x (f n)) (field_sum_none f n (λ i l. h i (omega arith))) ∙ h n (omega arith)

-- terms that are 0 but for one
pub field_sum_one : (f : ℕ → ℕ) (n k : ℕ) → k < n → ((i : ℕ) → i < n → i ≢ k → f i ≡ 0) → field_sum f n ≡ f k
unfolding field_sum
field_sum_one f zero k inside h = absurd (omega arith)
field_sum_one f (suc n) k inside h =
    elim (cases_eq k n) [
      | inl last ↦
          ap (λ x. bit_xor x (f n)) (field_sum_none f n (λ i l. h i (omega arith) (omega arith))) ∙ ap f (sym last)
      | inr before ↦
          ap (bit_xor (field_sum f n)) (h n (omega arith) (omega arith)) ∙ xor_zero_r (field_sum f n)
          ∙ field_sum_one f n k (omega arith) (λ i l. h i (omega arith))
    ]

-- a sum over rows is the sum over columns
pub field_sum_swap : (f : ℕ → ℕ → ℕ) (m n : ℕ) → field_sum (λ i. field_sum (f i) n) m ≡ field_sum (λ j. field_sum (λ i. f i j) m) n
unfolding field_sum
field_sum_swap f zero n = sym (field_sum_none (λ j. 0) n (λ i l. refl))
field_sum_swap f (suc m) n =
    ap (λ x. bit_xor x (field_sum (f m) n)) (field_sum_swap f m n)
    ∙ sym (field_sum-xor (λ j. field_sum (λ i. f i j) m) (f m) n)
