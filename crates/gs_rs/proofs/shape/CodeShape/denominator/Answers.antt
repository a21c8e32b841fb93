use Rattle.std.proofs.Common.{length, ap, arith}
use Rattle.std.proofs.lemmas.List.FromFn.{length-map-range_with_len}
use Rattle.gs_rs.specs.Shape.{point}
use Rattle.gs_rs.proofs.shape.CodeShape.denominator.Goals as goal

pub differences-requires : goal.differences-requires
differences-requires c =
    let code = c.args.self.now in
    let size = ap length c.requires.own in
    let all = length-map-range_with_len (point code) 0 code.data in
    let fit = c.requires.code.points_fit in
    omega arith
