use Rattle.std.proofs.Common.{◌≡◌, ◌+◌, get_or, arith, sym, ap, ◌∙◌}
use Rattle.gs_gf256.specs.Field.{product, power, IsByte}
use Rattle.gs_gf256.proofs.FieldLemmas.{product-one_l}
use Rattle.gs_gf256.proofs.Logarithms.{powers_add, IsByte-power_of}
use Rattle.gs_rs.specs.Shape.{differences}
use Rattle.gs_rs.proofs.Differences.{IsByte-differences, factor_by_difference, differences_more, differences_all, bytes_from_fits, factor}
use Rattle.gs_rs.proofs.shape.differences.Goals as goal

pub loop-y-init : goal.loop-y-init
unfolding power
loop-y-init c =
    let points = c.args.points.now in
    let d = differences points c.args.x in
    let byte : IsByte d = IsByte-differences points c.args.x (bytes_from_fits points c.type_inv.points) (omega arith) in
    (omega arith, product-one_l d byte)

pub overflow_add-exponent : goal.overflow_add-exponent
overflow_add-exponent c =
    let most = c.loop-y.invariant.0 in
    let below = c.log.ensures.below in
    let same = c.from-exponent.ensures in
    omega arith

pub loop-y-preserved : goal.loop-y-preserved
loop-y-preserved c =
    let points = c.args.points.now in
    let x = c.args.x in
    let at = c.loop-y.y-index in
    let sum = c.loop-y.exponent in
    let one = c.from-exponent.result in
    let f = factor (get_or points at 0) x in
    let most = c.loop-y.invariant.0 in
    let below = c.log.ensures.below in
    let same = c.from-exponent.ensures in
    let here : power one ≡ f = ap power same ∙ c.log.ensures.power ∙ factor_by_difference (get_or points at 0) x in
    let step : power (sum + one) ≡ product (power sum) f = sym (powers_add sum one) ∙ ap (product (power sum)) here in
    let more = differences_more points at x (power sum) (power (sum + one)) (differences points x)
    (bytes_from_fits points c.type_inv.points) (omega arith) (IsByte-power_of sum) c.loop-y-test.true step c.loop-y.invariant.1 in
    (omega arith, more.1)

pub returns : goal.returns
returns c =
    let points = c.args.points.now in
    let sum = c.loop-y.exponent in
    c.exp.ensures
    ∙ differences_all points c.loop-y.y-index c.args.x (power sum) (differences points c.args.x)
    (IsByte-power_of sum) (omega arith) c.loop-y.invariant.1
