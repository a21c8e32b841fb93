use Rattle.std.proofs.Common.{◌≡◌, ◌+◌, ◌*◌, ◌/◌, ◌%◌, ◌<◌, get_or, w8, refl, ap, ◌∙◌, arith}
use Rattle.std.proofs.lemmas.Simd.{SwzOk-from_below, Each1-from_get_or, length-swz_l, get_or-swz_l_below, get_or-chunk}
use Rattle.gs_gf256.proofs.lanes.look_up.Goals as goal

pub swizzle : goal.swizzle
swizzle c =
    SwzOk-from_below w8 16 2 32 0 c.args.halves refl (omega (arith, c.fits-halves.0))
    (Each1-from_get_or (λ j. j < 16) c.args.halves 0 (λ j h. c.requires.halves j (omega (arith, c.fits-halves.0))))

pub returns-clause-size : goal.returns-clause-size
returns-clause-size c = length-swz_l w8 16 c.twice.result 0 c.args.halves ∙ c.fits-halves.0

-- lane j looks into its own copy of the sixteen products
pub returns-clause-lanes : goal.returns-clause-lanes
returns-clause-lanes c = λ j h.
    let half = get_or c.args.halves j 0 in
    let below : half < 16 = c.requires.halves j h in
    let inside : 16 * ((0 + j) / 16) + half < 32 = omega arith in
    let copy : (16 * ((0 + j) / 16) + half) % 16 ≡ half = omega arith in
    get_or-swz_l_below w8 16 c.twice.result 0 c.args.halves j (omega (arith, c.fits-halves.0)) below
    ∙ c.twice.ensures.lanes (16 * ((0 + j) / 16) + half) inside
    ∙ get_or-chunk c.args.at 16 c.args.tables.now ((16 * ((0 + j) / 16) + half) % 16) 0 (omega arith)
    ∙ ap (λ m. get_or c.args.tables.now (c.args.at + m) 0) copy
