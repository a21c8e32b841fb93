use Rattle.std.proofs.Common.{◌≡◌, ◌∷◌, [], arith}
use Rattle.std.proofs.lemmas.Bool.{leb-false}
use Rattle.gs_schedule.specs.declared.keyword.Keyword.TheVariants as keyword
use Rattle.gs_schedule.proofs.Keywords.{says, same_numbers, kept_back}
use Rattle.gs_schedule.proofs.step_line.read_videos.Goals as goal

pub returns-clause-none : goal.returns-clause-none
returns-clause-none c =
    kept_back _ _ _ _ c.then_some.ensures (λ beyond step h.
    let s = says keyword.Videos c.args.words step h in
    let same : s.0 ∷ s.1 ∷ s.2 ∷ [] ≡ c.in_ok-session.session ∷ c.in_ok-session.first ∷ c.in_ok-session.last ∷ [] =
    same_numbers c.args.words _ _ s.4 c.in_ok-session.ensures.found in
    let first : s.1 ≡ c.in_ok-session.first = cc in
    let last : s.2 ≡ c.in_ok-session.last = cc in
    absurd (omega (arith, leb-false _ _ beyond, s.5)))
