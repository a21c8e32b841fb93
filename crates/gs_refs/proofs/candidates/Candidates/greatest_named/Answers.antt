use Rattle.std.proofs.Common.{◌≡◌, ◌+◌, ◌-◌, ◌∙◌, ℕ, drop, sym, ap, subst, arith}
use Rattle.std.specs.Option.{option_copied}
use Rattle.gs_refs.specs.Candidates.{KeptCandidates, KeepsValid}
use Rattle.gs_refs.proofs.ValidAbove.{NoneNamed, found-greatest, found-none, none-more}
use Rattle.gs_refs.proofs.candidates.Candidates.greatest_named.Goals as goal

pub returns-then-names-clause-some : goal.returns-then-names-clause-some
returns-then-names-clause-some c h keeps =
    let it = c.self.inside in
    let t = c.args.tick.now in
    let place = c.loop-place.place in
    let next : place ≡ (place - 1) + 1 = omega arith in
    let at = sym c.get.ensures ∙ ap option_copied c.in-Some.is in
    let after = subst (λ (n : ℕ). NoneNamed t (drop n it.ring.items)) next c.loop-place.invariant in
    found-greatest h t (record { frames = it.ring.items; watermark = it.watermark }) (place - 1) c.in-Some.candidate.now
    (subst (λ (k : KeptCandidates). KeepsValid h k) (sym c.self.view_is) keeps) at (sym c.names.ensures ∙ c.if-names.true) after

pub loop-place-preserved : goal.loop-place-preserved
loop-place-preserved c =
    let it = c.self.inside in
    let t = c.args.tick.now in
    let place = c.loop-place.place in
    let next : place ≡ (place - 1) + 1 = omega arith in
    let at = sym c.get.ensures ∙ ap option_copied c.in-Some.is in
    let after = subst (λ (n : ℕ). NoneNamed t (drop n it.ring.items)) next c.loop-place.invariant in
    none-more t it.ring.items (place - 1) c.in-Some.candidate.now at (sym c.names.ensures ∙ c.if-names.false) after

pub returns-clause-none : goal.returns-clause-none
returns-clause-none c h keeps none_below =
    let it = c.self.inside in
    let t = c.args.tick.now in
    let done : c.loop-place.place ≡ 0 = omega arith in
    found-none h t (record { frames = it.ring.items; watermark = it.watermark }) (subst (λ (k : KeptCandidates). KeepsValid h k) (sym c.self.view_is) keeps)
    (ap (λ (k : KeptCandidates). k.watermark) c.self.view_is ∙ none_below) (subst (λ (n : ℕ). NoneNamed t (drop n it.ring.items)) done c.loop-place.invariant)
