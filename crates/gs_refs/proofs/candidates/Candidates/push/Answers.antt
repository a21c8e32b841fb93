use Rattle.std.proofs.Common.{ℕ, List, ◌∷◌, ◌++◌, [], Option, sym, ap, subst, ◌∙◌}
use Rattle.circular_buffer.specs.Buffer.{Buffer, keep_last}
use Rattle.gs_refs.specs.declared.entry.Entry.TheVariants as entry
use Rattle.gs_refs.specs.declared.candidate.Candidate.{Candidate}
use Rattle.gs_refs.specs.Candidates.{KeptCandidates, KeepsValid, frame_or}
use Rattle.gs_refs.proofs.ValidAbove.{pushed}
use Rattle.gs_refs.proofs.candidates.Candidates.push.Goals as goal

pub returns : goal.returns
returns c h kind reference other e keeps =
    let ring = c.self.inside.ring in
    let newest = c.args.newest in
    let old = subst (λ (k : KeptCandidates). KeepsValid h k) (sym c.self.view_is) keeps in
    let now = pushed h kind reference c.self.inside.watermark ring.capacity ring.items newest other e c.self.invariant.0 c.self.invariant.1 old in
    let items = ap (λ (b : Buffer Candidate). b.items) c.push_back-fallen.ensures.items in
    let watermark = c.frame_or-self-inside.ensures ∙ ap (λ (o : Option Candidate). frame_or o c.self.inside.watermark) c.push_back-fallen.ensures.value in
    subst (λ (cs : List Candidate). KeepsValid (entry.Sent newest.tick kind reference ∷ h) (record { frames = cs; watermark = c.frame_or-self-inside.result }))
    (sym items)
    (subst
    (λ (w : ℕ). KeepsValid (entry.Sent newest.tick kind reference ∷ h) (record { frames = keep_last ring.capacity (ring.items ++ newest ∷ []); watermark = w }))
    (sym watermark) now)
