use Rattle.std.proofs.Common.{◌≡◌, ℕ, ◌%◌, ◌++◌, List, [], ◌∷◌, true, eqb, eqb-true, get_or, refl, ap, ◌∙◌, arith}
use Rattle.std.proofs.lemmas.List.{get_or_append_left, get_or-map}
use Rattle.gs_gf256.proofs.AllBelow.{all_below, at_below}
use Rattle.gs_gf256.proofs.lanes.twice.Goals as goal

places : List ℕ
places = 0 ∷ 1 ∷ 2 ∷ 3 ∷ 4 ∷ 5 ∷ 6 ∷ 7 ∷ 8 ∷ 9 ∷ 10 ∷ 11 ∷ 12 ∷ 13 ∷ 14 ∷ 15 ∷ 0 ∷ 1 ∷ 2 ∷ 3 ∷ 4 ∷ 5 ∷ 6 ∷ 7 ∷ 8 ∷ 9 ∷ 10 ∷ 11 ∷ 12 ∷ 13 ∷ 14 ∷ 15 ∷ []

places_test : all_below 32 (λ j. eqb (get_or places j 0) (j % 16)) ≡ true
unfolding all_below places
places_test = refl

pub returns-clause-lanes : goal.returns-clause-lanes
unfolding places
returns-clause-lanes c = λ j h.
    let both = c.args.row ++ c.args.row in
    let place : get_or places j 0 ≡ j % 16 = eqb-true _ _ (at_below 32 (λ i. eqb (get_or places i 0) (i % 16)) places_test j h) in
    get_or-map (λ k. get_or both k 0) places j 0 0 h
    ∙ ap (λ k. get_or both k 0) place
    ∙ get_or_append_left c.args.row c.args.row 0 (j % 16) (omega (arith, c.fits-row.0))
