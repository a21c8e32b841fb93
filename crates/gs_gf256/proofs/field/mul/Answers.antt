-- Logarithms add up where the factors are multiplied.
use Rattle.std.proofs.Common.{◌≡◌, ◌≢◌, ℕ, ◌+◌, ◌<◌, sym, ap, ◌∙◌, arith}
use Rattle.gs_gf256.specs.Field.{IsByte, product}
use Rattle.gs_gf256.proofs.FieldLemmas.{product-zero_l, product-zero_r}
use Rattle.gs_gf256.proofs.Powers.{power_of_two, logarithm, logarithm_is, power-add}
use Rattle.gs_gf256.proofs.field.mul.Goals as goal
use Rattle.gs_gf256.proofs.field.mul.Goals.{then-a-eq0-via-then-a-eq0, then-a-eq0-via-else-a-eq0+then-b-eq0}

inside : (a b : ℕ) → IsByte a → IsByte b → a ≢ 0 → b ≢ 0 → logarithm a + logarithm b < 509
inside a b ha hb za zb =
    let la = (logarithm_is a ha za).0 in
    let lb = (logarithm_is b hb zb).0 in
    omega arith

by_logarithms : (a b : ℕ) → IsByte a → IsByte b → a ≢ 0 → b ≢ 0 → power_of_two (logarithm a + logarithm b) ≡ product a b
by_logarithms a b ha hb za zb =
    sym (power-add (logarithm a) (logarithm b) (inside a b ha hb za zb))
    ∙ ap (λ x. product x (power_of_two (logarithm b))) (logarithm_is a ha za).1
    ∙ ap (product a) (logarithm_is b hb zb).1

pub returns-then-a-eq0 : goal.returns-then-a-eq0
returns-then-a-eq0 c =
    elim c.then-a-eq0.branch [
      | then-a-eq0-via-then-a-eq0 w ↦ sym (ap (λ x. product x c.args.b) w.if-a-eq0.true ∙ product-zero_l c.args.b)
      | then-a-eq0-via-else-a-eq0+then-b-eq0 w ↦ sym (ap (product c.args.a) w.if-b-eq0.true ∙ product-zero_r c.args.a)
    ]

pub bounds-logarithm : goal.bounds-logarithm
unfolding logarithm
bounds-logarithm c = inside c.args.a c.args.b (omega arith) (omega arith) c.if-a-eq0.false c.if-b-eq0.false

pub returns : goal.returns
unfolding logarithm power_of_two
returns c = by_logarithms c.args.a c.args.b (omega arith) (omega arith) c.if-a-eq0.false c.if-b-eq0.false
