use Rattle.std.proofs.Common.{ℕ, List, ◌∷◌, refl, sym, ap, subst, ◌∙◌}
use Rattle.std.specs.Prelude.{min}
use Rattle.circular_buffer.specs.Buffer.{Buffer}
use Rattle.gs_refs.specs.declared.entry.Entry.TheVariants as entry
use Rattle.gs_refs.specs.declared.candidate.Candidate.{Candidate}
use Rattle.gs_refs.specs.Candidates.{KeptCandidates, KeepsValid, reaches}
use Rattle.gs_refs.proofs.ValidAbove.{AreValidBelow, below-all, below-pop, dropped}
use Rattle.gs_refs.proofs.candidates.Candidates.drop_from.Goals as goal

pub loop-self-init : goal.loop-self-init
loop-self-init c = record { watermark = refl; below = λ h above. below-all h c.args.self.now.watermark c.args.first c.args.self.now.frames above }

pub loop-self-preserved : goal.loop-self-preserved
loop-self-preserved c =
    let first = c.args.first in
    let items = ap (λ (b : Buffer Candidate). b.items) c.pop_back.ensures.items in
    let is = ap (λ (k : KeptCandidates). reaches first k.frames) c.self.view_is ∙ sym c.reaches.ensures ∙ c.loop-self-test.true in
    record {
      watermark = ap (λ (k : KeptCandidates). k.watermark) c.self.view_is ∙ c.loop-self.invariant.watermark;
      below = λ h above.
          let all = subst (λ (k : KeptCandidates). AreValidBelow h k.watermark first k.frames) (sym c.self.view_is) (c.loop-self.invariant.below h above) in
          subst (λ (cs : List Candidate). AreValidBelow h c.self.inside.watermark first cs) (sym items)
          (below-pop h c.self.inside.watermark first c.self.inside.ring.items is all);
    }

pub returns : goal.returns
returns c h last keeps =
    let first = c.args.first in
    let it = c.self-2.inside in
    let same = ap (λ (k : KeptCandidates). k.watermark) c.self-2.view_is ∙ c.loop-self.invariant.watermark in
    let all = subst (λ (k : KeptCandidates). AreValidBelow h k.watermark first k.frames) (sym c.self-2.view_is) (c.loop-self.invariant.below h keeps.above) in
    let short = ap (λ (k : KeptCandidates). reaches first k.frames) c.self-2.view_is ∙ sym c.reaches.ensures ∙ c.loop-self-test.false in
    let watermark = c.min-self-inside.ensures ∙ ap (min it.watermark) c.saturating_sub.ensures in
    subst (λ (w : ℕ). KeepsValid (entry.Invalid first last ∷ h) (record { frames = it.ring.items; watermark = w })) (sym watermark)
    (dropped h first last it.watermark it.ring.items c.args.self.now keeps same all short)
