-- A polynomial of degree below d has fewer than d roots, unless it is 0: a root is divided out, and its quotient has the
-- other roots.
use Rattle.std.proofs.Common.{◌≡◌, ◌≢◌, ℕ, suc, ◌≤◌, List, [], ◌∷◌, length, get_or, All, AllPairs, bit_xor, refl, sym, ap, ◌∙◌, arith}
use Rattle.std.specs.Int.Bits.{xor_assoc, xor_comm, xor_self, xor_zero_r}
use Rattle.std.proofs.lemmas.List.Elements.{All-nil, All-cons, All-head, All-tail}
use Rattle.gs_gf256.specs.Field.{IsByte, product}
use Rattle.gs_gf256.proofs.Linear.{xor-exchange}
use Rattle.gs_gf256.proofs.FieldLemmas.{IsByte-xor, xor-cancel, xor-ne-zero, product-xor_l, product-xor_r, product-zero_r, product_comm, product_assoc}
use Rattle.gs_gf256.proofs.Inverses.{zero_from_product}
use Rattle.gs_poly.specs.Polynomial.{value}
use Rattle.gs_poly.specs.PolynomialLaws.{RootsAreFew}
use Rattle.gs_poly.proofs.PolynomialLemmas.{value-nil, value-cons, IsByte-value}

-- the values at p of the polynomial, of its coefficients from the second on, from the third on, ..: the quotient of
-- c + x * polynomial by x - p
abbrev quotient_at : List ℕ → ℕ → List ℕ
quotient_at [] p = []
quotient_at (c ∷ cs) p = value (c ∷ cs) p ∷ quotient_at cs p

length-quotient_at : (cs : List ℕ) (p : ℕ) → length (quotient_at cs p) ≡ length cs
length-quotient_at [] p = refl
length-quotient_at (c ∷ cs) p = ap suc (length-quotient_at cs p)

bytes-quotient_at : (cs : List ℕ) (p : ℕ) → All IsByte cs → IsByte p → All IsByte (quotient_at cs p)
bytes-quotient_at [] p hs hp = All-nil IsByte
bytes-quotient_at (c ∷ cs) p hs hp =
    All-cons IsByte (value (c ∷ cs) p) (quotient_at cs p) (IsByte-value (c ∷ cs) p hs hp) (bytes-quotient_at cs p (All-tail IsByte c cs hs) hp)

-- the difference of the values at x and at p of c + x * polynomial
divided : (c : ℕ) (cs : List ℕ) (x p : ℕ) → All IsByte cs → IsByte x → IsByte p
    → bit_xor (value (c ∷ cs) x) (value (c ∷ cs) p) ≡ product (bit_xor x p) (value (quotient_at cs p) x)
divided c [] x p hs hx hp =
    ap (λ z. bit_xor z (value (c ∷ []) p)) (value-cons c [] x ∙ ap (bit_xor c) (ap (product x) (value-nil x) ∙ product-zero_r x))
    ∙ ap (bit_xor (bit_xor c 0)) (value-cons c [] p ∙ ap (bit_xor c) (ap (product p) (value-nil p) ∙ product-zero_r p))
    ∙ xor_self (bit_xor c 0)
    ∙ sym (ap (product (bit_xor x p)) (value-nil x) ∙ product-zero_r (bit_xor x p))
divided c (d ∷ ds) x p hs hx hp =
    let cs = d ∷ ds in
    let v = value cs x in
    let w = value cs p in
    let q = value (quotient_at ds p) x in
    let rest = All-tail IsByte d ds hs in
    let hv = IsByte-value cs x hs hx in
    let hw = IsByte-value cs p hs hp in
    let hq = IsByte-value (quotient_at ds p) x (bytes-quotient_at ds p rest hp) hx in
    let hxp = IsByte-xor x p hx hp in
    -- v = w + (x - p) * q
    let e : bit_xor v w ≡ product (bit_xor x p) q = divided d ds x p rest hx hp in
    let v_is : v ≡ bit_xor w (product (bit_xor x p) q) =
    sym (xor-cancel w v) ∙ ap (bit_xor w) (xor_comm w v ∙ e) in
    -- x * v + p * w = (x - p) * w + x * (x - p) * q
    let a : product x v ≡ bit_xor (product x w) (product (bit_xor x p) (product x q)) =
    ap (product x) v_is ∙ product-xor_r x w (product (bit_xor x p) q)
    ∙ ap (bit_xor (product x w)) (sym (product_assoc x (bit_xor x p) q hx hxp hq) ∙ ap (λ z. product z q) (product_comm x (bit_xor x p) hx hxp)
    ∙ product_assoc (bit_xor x p) x q hxp hx hq) in
    let xw = product x w in
    let pw = product p w in
    let r = product (bit_xor x p) (product x q) in
    let b : bit_xor (bit_xor xw r) pw ≡ bit_xor (bit_xor xw pw) r =
    xor_assoc xw r pw ∙ ap (bit_xor xw) (xor_comm r pw) ∙ sym (xor_assoc xw pw r) in
    let left : bit_xor (value (c ∷ cs) x) (value (c ∷ cs) p) ≡ bit_xor (product x v) pw =
    ap (λ z. bit_xor z (value (c ∷ cs) p)) (value-cons c cs x) ∙ ap (bit_xor (bit_xor c (product x v))) (value-cons c cs p)
    ∙ xor-exchange c (product x v) c pw ∙ ap (λ z. bit_xor z (bit_xor (product x v) pw)) (xor_self c) in
    let right : product (bit_xor x p) (value (quotient_at cs p) x) ≡ bit_xor (product (bit_xor x p) w) r =
    ap (product (bit_xor x p)) (value-cons w (quotient_at ds p) x) ∙ product-xor_r (bit_xor x p) w (product x q) in
    left ∙ ap (λ z. bit_xor z pw) a ∙ b ∙ ap (λ z. bit_xor z r) (sym (product-xor_l x p w)) ∙ sym right

-- where the values at p of the coefficients from each place on are all 0, so are the coefficients
zeros_from_quotient : (cs : List ℕ) (p : ℕ) → All (λ c. c ≡ 0) (quotient_at cs p) → (value cs p ≡ 0) × All (λ c. c ≡ 0) cs
zeros_from_quotient [] p h = (value-nil p, All-nil (λ c. c ≡ 0))
zeros_from_quotient (c ∷ cs) p h =
    let first : value (c ∷ cs) p ≡ 0 = All-head (λ c. c ≡ 0) (value (c ∷ cs) p) (quotient_at cs p) h in
    let rest = zeros_from_quotient cs p (All-tail (λ c. c ≡ 0) (value (c ∷ cs) p) (quotient_at cs p) h) in
    (first, All-cons (λ c. c ≡ 0) c cs (first_zero c cs p rest.0 first) rest.1)
  where
    first_zero : (c : ℕ) (cs : List ℕ) (p : ℕ) → value cs p ≡ 0 → value (c ∷ cs) p ≡ 0 → c ≡ 0
    first_zero c cs p rest whole =
        sym (xor_zero_r c) ∙ ap (bit_xor c) (sym (ap (product p) rest ∙ product-zero_r p)) ∙ sym (value-cons c cs p) ∙ whole

few : (cs points : List ℕ) → All IsByte cs → All IsByte points → AllPairs (λ p q. p ≢ q) points → length cs ≤ length points
    → All (λ x. value cs x ≡ 0) points → All (λ c. c ≡ 0) cs
few [] points hs hps apart room roots = All-nil (λ c. c ≡ 0)
few (c ∷ cs) [] hs hps apart room roots = absurd (omega arith)
few (c ∷ cs) (p ∷ points) hs hps apart room roots =
    let hp = All-head IsByte p points hps in
    let others = All-tail IsByte p points hps in
    let rest = All-tail IsByte c cs hs in
    let root : value (c ∷ cs) p ≡ 0 = All-head (λ x. value (c ∷ cs) x ≡ 0) p points roots in
    let more = All-tail (λ x. value (c ∷ cs) x ≡ 0) p points roots in
    let q = quotient_at cs p in
    let hq = bytes-quotient_at cs p rest hp in
    let q_roots : All (λ x. value q x ≡ 0) points = λ k d l.
    let x = get_or points k d in
    let hx : IsByte x = others k d l in
    let e : product (bit_xor x p) (value q x) ≡ 0 =
    sym (divided c cs x p rest hx hp) ∙ ap (λ z. bit_xor z (value (c ∷ cs) p)) (more k d l) ∙ root in
    zero_from_product (bit_xor x p) (value q x) (IsByte-xor x p hx hp) (IsByte-value q x hq hx)
    (xor-ne-zero x p (λ same. apart 0 (suc k) d (omega arith) (omega arith) (sym same))) e in
    let zeros = few q points hq others (λ i j d l m. apart (suc i) (suc j) d (omega arith) (omega arith)) (omega (arith, length-quotient_at cs p)) q_roots in
    let r = zeros_from_quotient cs p zeros in
    let first : c ≡ 0 =
    sym (xor_zero_r c) ∙ ap (bit_xor c) (sym (ap (product p) r.0 ∙ product-zero_r p)) ∙ sym (value-cons c cs p) ∙ root in
    All-cons (λ c. c ≡ 0) c cs first r.1

pub roots_are_few : RootsAreFew
roots_are_few d cs points polynomial given room roots =
    few cs points polynomial.bytes given.bytes given.distinct (omega (arith, polynomial.degree_below)) roots
