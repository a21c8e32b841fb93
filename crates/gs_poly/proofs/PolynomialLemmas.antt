-- Values of polynomials, and the polynomials that are their sum, a multiple, and the product with x - q.
use Rattle.std.proofs.Common.{◌≡◌, ℕ, zero, suc, ◌≤◌, List, [], ◌∷◌, length, replicate, All, bit_xor, lit<, refl, sym, ap, ◌∙◌, arith}
use Rattle.std.specs.Int.Bits.{xor_zero_r}
use Rattle.std.proofs.lemmas.List.Elements.{All-cons, All-head, All-tail}
use Rattle.gs_gf256.specs.Field.{IsByte, product}
use Rattle.gs_gf256.proofs.Linear.{xor-exchange}
use Rattle.gs_gf256.proofs.FieldLemmas.{IsByte-xor, same_from_xor, IsByte-product, product-xor_l, product-xor_r, product-zero_r, product_comm, product_assoc}
use Rattle.gs_poly.specs.Polynomial.{value}

pub value-nil : (x : ℕ) → value [] x ≡ 0
unfolding value
value-nil x = refl

pub value-cons : (c : ℕ) (cs : List ℕ) (x : ℕ) → value (c ∷ cs) x ≡ bit_xor c (product x (value cs x))
unfolding value
value-cons c cs x = refl

pub IsByte-value : (cs : List ℕ) (x : ℕ) → All IsByte cs → IsByte x → IsByte (value cs x)
unfolding value
IsByte-value [] x hs hx = lit< tt
IsByte-value (c ∷ cs) x hs hx =
    IsByte-xor c (product x (value cs x)) (All-head IsByte c cs hs)
    (IsByte-product x (value cs x) hx (IsByte-value cs x (All-tail IsByte c cs hs) hx))

-- ---- the sum

abbrev pub plus : List ℕ → List ℕ → List ℕ
plus [] ds = ds
plus (c ∷ cs) [] = c ∷ cs
plus (c ∷ cs) (d ∷ ds) = bit_xor c d ∷ plus cs ds

pub value-plus : (cs ds : List ℕ) (x : ℕ) → value (plus cs ds) x ≡ bit_xor (value cs x) (value ds x)
unfolding value
value-plus [] ds x = refl
value-plus (c ∷ cs) [] x = sym (xor_zero_r (bit_xor c (product x (value cs x))))
value-plus (c ∷ cs) (d ∷ ds) x =
    ap (λ v. bit_xor (bit_xor c d) (product x v)) (value-plus cs ds x)
    ∙ ap (bit_xor (bit_xor c d)) (product-xor_r x (value cs x) (value ds x))
    ∙ xor-exchange c d (product x (value cs x)) (product x (value ds x))

pub length-plus : (cs ds : List ℕ) → length ds ≤ length cs → length (plus cs ds) ≡ length cs
length-plus [] [] h = refl
length-plus [] (d ∷ ds) h = absurd (omega arith)
length-plus (c ∷ cs) [] h = refl
length-plus (c ∷ cs) (d ∷ ds) h = ap suc (length-plus cs ds (omega arith))

pub bytes-plus : (cs ds : List ℕ) → All IsByte cs → All IsByte ds → All IsByte (plus cs ds)
bytes-plus [] ds hs ts = ts
bytes-plus (c ∷ cs) [] hs ts = hs
bytes-plus (c ∷ cs) (d ∷ ds) hs ts =
    All-cons IsByte (bit_xor c d) (plus cs ds) (IsByte-xor c d (All-head IsByte c cs hs) (All-head IsByte d ds ts))
    (bytes-plus cs ds (All-tail IsByte c cs hs) (All-tail IsByte d ds ts))

-- ---- a multiple

abbrev pub times : ℕ → List ℕ → List ℕ
times k [] = []
times k (c ∷ cs) = product k c ∷ times k cs

pub value-times : (k : ℕ) (cs : List ℕ) (x : ℕ) → IsByte k → All IsByte cs → IsByte x → value (times k cs) x ≡ product k (value cs x)
unfolding value
value-times k [] x hk hs hx = sym (product-zero_r k)
value-times k (c ∷ cs) x hk hs hx =
    let rest = All-tail IsByte c cs hs in
    let v = value cs x in
    let hv = IsByte-value cs x rest hx in
    ap (λ w. bit_xor (product k c) (product x w)) (value-times k cs x hk rest hx)
    ∙ ap (bit_xor (product k c)) (sym (product_assoc x k v hx hk hv) ∙ ap (λ w. product w v) (product_comm x k hx hk) ∙ product_assoc k x v hk hx hv)
    ∙ sym (product-xor_r k c (product x v))

pub length-times : (k : ℕ) (cs : List ℕ) → length (times k cs) ≡ length cs
length-times k [] = refl
length-times k (c ∷ cs) = ap suc (length-times k cs)

pub bytes-times : (k : ℕ) (cs : List ℕ) → IsByte k → All IsByte cs → All IsByte (times k cs)
bytes-times k [] hk hs = hs
bytes-times k (c ∷ cs) hk hs =
    All-cons IsByte (product k c) (times k cs) (IsByte-product k c hk (All-head IsByte c cs hs)) (bytes-times k cs hk (All-tail IsByte c cs hs))

-- ---- the product with x - q

abbrev pub times_difference : ℕ → List ℕ → List ℕ
times_difference q cs = plus (0 ∷ cs) (times q cs)

pub value-times_difference : (q : ℕ) (cs : List ℕ) (x : ℕ) → IsByte q → All IsByte cs → IsByte x
    → value (times_difference q cs) x ≡ product (bit_xor x q) (value cs x)
value-times_difference q cs x hq hs hx =
    value-plus (0 ∷ cs) (times q cs) x
    ∙ ap (λ w. bit_xor w (value (times q cs) x)) (value-cons 0 cs x)
    ∙ ap (bit_xor (product x (value cs x))) (value-times q cs x hq hs hx)
    ∙ sym (product-xor_l x q (value cs x))

pub length-times_difference : (q : ℕ) (cs : List ℕ) → length (times_difference q cs) ≡ suc (length cs)
length-times_difference q cs = length-plus (0 ∷ cs) (times q cs) (omega (arith, length-times q cs))

pub bytes-times_difference : (q : ℕ) (cs : List ℕ) → IsByte q → All IsByte cs → All IsByte (times_difference q cs)
bytes-times_difference q cs hq hs = bytes-plus (0 ∷ cs) (times q cs) (All-cons IsByte 0 cs (lit< tt) hs) (bytes-times q cs hq hs)

-- ---- coefficients that are all 0

pub value-zeros : (n x : ℕ) → value (replicate n 0) x ≡ 0
unfolding value
value-zeros zero x = refl
value-zeros (suc n) x = ap (product x) (value-zeros n x) ∙ product-zero_r x

-- two polynomials with one number of coefficients are equal if their sum is 0
pub same_from_plus : (cs ds : List ℕ) → length cs ≡ length ds → All (λ c. c ≡ 0) (plus cs ds) → cs ≡ ds
same_from_plus [] [] e h = refl
same_from_plus [] (d ∷ ds) e h = absurd (omega arith)
same_from_plus (c ∷ cs) [] e h = absurd (omega arith)
same_from_plus (c ∷ cs) (d ∷ ds) e h =
    let first = same_from_xor c d (All-head (λ c. c ≡ 0) (bit_xor c d) (plus cs ds) h) in
    let rest = same_from_plus cs ds (omega arith) (All-tail (λ c. c ≡ 0) (bit_xor c d) (plus cs ds) h) in
    cc
