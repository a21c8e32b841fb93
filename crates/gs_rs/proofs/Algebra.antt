-- Products in another order, and quotients undone.
use Rattle.std.proofs.Common.{◌≡◌, ◌≢◌, ℕ, sym, ap, ◌∙◌}
use Rattle.gs_gf256.specs.Field.{IsByte, product, inverse, quotient}
use Rattle.gs_gf256.proofs.FieldLemmas.{IsByte-product, product_comm, product_assoc}
use Rattle.gs_gf256.proofs.Inverses.{IsByte-inverse, product_cancel, quotient-product}

-- a b c is a c b
pub product_swap : (a b c : ℕ) → IsByte a → IsByte b → IsByte c → product (product a b) c ≡ product (product a c) b
product_swap a b c ha hb hc =
    product_assoc a b c ha hb hc ∙ ap (product a) (product_comm b c hb hc) ∙ sym (product_assoc a c b ha hc hb)

-- a (b c) is b (a c)
pub product_swap_r : (a b c : ℕ) → IsByte a → IsByte b → IsByte c → product a (product b c) ≡ product b (product a c)
product_swap_r a b c ha hb hc =
    sym (product_assoc a b c ha hb hc) ∙ ap (λ x. product x c) (product_comm a b ha hb) ∙ product_assoc b a c hb ha hc

pub product_cancel_r : (a b c : ℕ) → IsByte a → IsByte b → IsByte c → c ≢ 0 → product a c ≡ product b c → a ≡ b
product_cancel_r a b c ha hb hc ne e =
    product_cancel c a b hc ha hb ne (product_comm c a hc ha ∙ e ∙ product_comm b c hb hc)

pub IsByte-quotient : (a b : ℕ) → IsByte a → IsByte (quotient a b)
IsByte-quotient a b ha = IsByte-product a (inverse b) ha (IsByte-inverse b)

-- the weight that is found from its factors: it is f / w times k / b, divided by e
pub weight_from_factors : (f w k b e t : ℕ) → IsByte f → IsByte w → IsByte k → IsByte b → IsByte e → IsByte t
    → w ≢ 0 → b ≢ 0 → e ≢ 0 → product (product t b) e ≡ f
    → product (quotient (product (quotient f w) (quotient k b)) e) w ≡ product k t
weight_from_factors f w k b e t hf hw hk hb he ht w0 b0 e0 is =
    let fw = quotient f w in
    let kb = quotient k b in
    let hfw : IsByte fw = IsByte-quotient f w hf in
    let hkb : IsByte kb = IsByte-quotient k b hk in
    let both = product fw kb in
    let hboth : IsByte both = IsByte-product fw kb hfw hkb in
    let r = quotient both e in
    let hr : IsByte r = IsByte-quotient both e hboth in
    let kt = product k t in
    let hkt : IsByte kt = IsByte-product k t hk ht in
    -- each side times b, times e
    let left : product (product (product r w) b) e ≡ product k f =
    ap (λ x. product x e) (product_swap r w b hr hw hb)
    ∙ product_swap (product r b) w e (IsByte-product r b hr hb) hw he
    ∙ ap (λ x. product x w) (product_swap r b e hr hb he ∙ ap (λ x. product x b) (quotient-product both e hboth he e0))
    ∙ ap (λ x. product x w) (product_assoc fw kb b hfw hkb hb ∙ ap (product fw) (quotient-product k b hk hb b0))
    ∙ product_swap fw k w hfw hk hw
    ∙ ap (λ x. product x k) (quotient-product f w hf hw w0)
    ∙ product_comm f k hf hk in
    let right : product (product kt b) e ≡ product k f =
    ap (λ x. product x e) (product_assoc k t b hk ht hb)
    ∙ product_assoc k (product t b) e hk (IsByte-product t b ht hb) he
    ∙ ap (product k) is in
    let hrw : IsByte (product r w) = IsByte-product r w hr hw in
    product_cancel_r (product r w) kt b hrw hkt hb b0
    (product_cancel_r (product (product r w) b) (product kt b) e (IsByte-product (product r w) b hrw hb) (IsByte-product kt b hkt hb) he e0
    (left ∙ sym right))
