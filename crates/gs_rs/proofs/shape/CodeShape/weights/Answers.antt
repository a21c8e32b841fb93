use Rattle.std.proofs.Common.{◌≡◌, ◌≢◌, length, get_or, take, map, subst, sym, ap, ◌∙◌, bit_xor, arith}
use Rattle.std.specs.List.{All}
use Rattle.std.proofs.lemmas.List.{length-map}
use Rattle.gs_gf256.specs.Field.{product, inverse, quotient}
use Rattle.gs_gf256.proofs.FieldLemmas.{xor-ne-zero}
use Rattle.gs_rs.specs.Shape.{point, denominator, differences}
use Rattle.gs_rs.specs.AbsentRows.{weight_factor}
use Rattle.gs_rs.proofs.Points.{denominator-ne-zero}
use Rattle.gs_rs.proofs.Rows.{not_among}
use Rattle.gs_rs.proofs.shape.CodeShape.weights.Goals as goal

pub inv-requires : goal.inv-requires
inv-requires c = λ zero. denominator-ne-zero c.args.self.now c.requires.code c.point-x.result (omega arith) (sym c.denominator.ensures ∙ zero)

pub inv-requires-in-loop-i : goal.inv-requires-in-loop-i
inv-requires-in-loop-i c = λ zero.
    let code = c.args.self.now in
    let chosen = c.args.chosen.now in
    let to = c.args.to in
    let points = take code.data c.points_of-points.result in
    let apart : All (λ q. q ≢ point code to) points =
    subst (All (λ q. q ≢ point code to)) (sym c.points_of-points.ensures)
    (not_among code chosen to c.requires.code c.requires.enough c.requires.to_in c.requires.apart) in
    xor-ne-zero c.point-x.result (get_or points c.loop-i.i 0)
    (λ same. apart c.loop-i.i 0 c.loop-i-test.true (sym same ∙ c.point-x.ensures)) zero

pub returns : goal.returns
returns c = λ i h.
    let code = c.args.self.now in
    let chosen = c.args.chosen.now in
    let x = c.point-x.result in
    let found = take code.data c.points_of-points.result in
    let points = map (point code) chosen in
    let same = c.points_of-points.ensures in
    let size = ap length same ∙ length-map chosen (point code) ∙ c.requires.enough.count in
    let factor = weight_factor code chosen i in
    let common : c.mul-common.result ≡ quotient (differences found x) (denominator code x) =
    c.mul-common.ensures
    ∙ ap (λ d. product d c.inv.result) c.differences.ensures
    ∙ ap (product (differences found x)) (c.inv.ensures.value ∙ ap inverse c.denominator.ensures) in
    c.loop-i.invariant.1 i (omega (arith, size, c.loop-i-test.false))
    ∙ ap (λ m. quotient (product m (get_or c.args.factors.now i 0)) (bit_xor x (get_or found i 0))) common
    ∙ ap (λ f. quotient (product (quotient (differences found x) (denominator code x)) f) (bit_xor x (get_or found i 0))) (c.requires.factors i h)
    ∙ ap (λ ps. quotient (product (quotient (differences ps x) (denominator code x)) factor) (bit_xor x (get_or ps i 0))) same
    ∙ ap (λ y. quotient (product (quotient (differences points y) (denominator code y)) factor) (bit_xor y (get_or points i 0))) c.point-x.ensures
