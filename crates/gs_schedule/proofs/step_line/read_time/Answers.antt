use Rattle.std.proofs.Common.{◌≡◌, ◌∷◌, [], arith}
use Rattle.std.proofs.lemmas.Bool.{leb-false}
use Rattle.gs_schedule.specs.declared.keyword.Keyword.TheVariants as keyword
use Rattle.gs_schedule.proofs.Keywords.{says, same_numbers, kept_back}
use Rattle.gs_schedule.proofs.step_line.read_time.Goals as goal

pub returns-clause-none : goal.returns-clause-none
returns-clause-none c =
    kept_back _ _ _ _ c.then_some.ensures (λ beyond step h.
    let s = says keyword.Time c.args.words step h in
    let same : s.0 ∷ [] ≡ c.in_ok-by.by ∷ [] = same_numbers c.args.words _ _ s.2 c.in_ok-by.ensures.found in
    let n : s.0 ≡ c.in_ok-by.by = cc in
    absurd (omega (arith, leb-false _ _ beyond, s.3)))
