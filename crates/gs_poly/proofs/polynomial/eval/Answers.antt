use Rattle.std.proofs.Common.{◌≡◌, ℕ, List, [], ◌∷◌, ◌++◌, map, reverse, bit_xor, sym, ap, ◌∙◌}
use Rattle.std.proofs.lemmas.List.{map_push, reverse-append}
use Rattle.gs_gf256.specs.Field.{product}
use Rattle.gs_poly.specs.Polynomial.{value}
use Rattle.gs_poly.proofs.PolynomialLemmas.{value-nil, value-cons}
use Rattle.gs_poly.proofs.polynomial.eval.Goals as goal

one_more : (read : List ℕ) (c x : ℕ) → value (reverse (read ++ c ∷ [])) x ≡ bit_xor c (product x (value (reverse read) x))
one_more read c x = ap (λ cs. value cs x) (reverse-append read (c ∷ [])) ∙ value-cons c (reverse read) x

pub loop-coefficient-init : goal.loop-coefficient-init
loop-coefficient-init c = sym (value-nil c.args.x)

pub loop-coefficient-preserved : goal.loop-coefficient-preserved
loop-coefficient-preserved c =
    let read = c.loop-coefficient.yielded in
    let coefficient = c.in-Some.coefficient in
    ap (bit_xor coefficient.now) (c.mul.ensures ∙ ap (product c.args.x) c.loop-coefficient.invariant)
    ∙ sym (one_more (map (λ r. r.now) read) coefficient.now c.args.x)
    ∙ ap (λ cs. value (reverse cs) c.args.x) (sym (map_push (λ r. r.now) read coefficient))
