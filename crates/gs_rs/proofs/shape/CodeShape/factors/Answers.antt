use Rattle.std.proofs.Common.{◌≡◌, length, get_or, take, subst, sym, ap, ◌∙◌, arith}
use Rattle.std.proofs.lemmas.List.{length-map}
use Rattle.gs_gf256.specs.Field.{quotient}
use Rattle.gs_rs.specs.Shape.{point, denominator, differences}
use Rattle.gs_rs.proofs.Differences.{differences-ne-zero}
use Rattle.gs_rs.proofs.Restoring.{point_bytes}
use Rattle.gs_rs.proofs.shape.CodeShape.factors.Goals as goal

pub inv-requires : goal.inv-requires
inv-requires c = λ zero.
    let points = take c.args.self.now.data c.points_of-points.result in
    let bytes = point_bytes c.args.self.now c.args.chosen.now points c.points_of-points.ensures c.requires.code c.requires.enough in
    differences-ne-zero points (get_or points c.loop-i.i 0) bytes (bytes c.loop-i.i 0 c.loop-i-test.true) (sym c.differences.ensures ∙ zero)

pub returns : goal.returns
returns c = λ i h.
    let code = c.args.self.now in
    let points_are = c.points_of-points.ensures in
    let size = ap length points_are ∙ length-map c.args.chosen.now (point code) ∙ c.requires.enough.count in
    subst (λ ps. get_or c.loop-i.factors i 0 ≡ quotient (denominator code (get_or ps i 0)) (differences ps (get_or ps i 0))) points_are
    (c.loop-i.invariant.1 i (omega (arith, size, c.loop-i-test.false)))
