use Rattle.std.proofs.Common.{◌≡◌, ◌≤◌, ◌∙◌, List, Option, reverse, ap, subst, arith}
use Rattle.gs_refs.specs.declared.entry.Entry.{Entry}
use Rattle.gs_refs.specs.Answers.{References}
use Rattle.gs_refs.specs.Candidates.{KeptCandidates}
use Rattle.gs_refs.specs.History.{frames, is_valid}
use Rattle.gs_refs.specs.Standing.{KeepsCandidates}
use Rattle.gs_refs.proofs.ValidAbove.{last-valid}
use Rattle.gs_refs.proofs.refs.Refs.last_is_valid.Goals as goal

pub returns-in-Some : goal.returns-in-Some
returns-in-Some c =
    let it = c.self.inside in
    let h : List Entry = reverse it.entries.items in
    let count = c.self.invariant.count in
    let seen = ap (λ (r : References). frames r.history) c.self.view_is in
    let least : 1 ≤ it.frames = omega (arith, seen, count, c.requires) in
    let keeps = subst (λ (o : Option KeptCandidates). KeepsCandidates h o) c.in-Some.is c.self.invariant.kept in
    subst (λ (r : References). c.reaches.result ≡ is_valid r.history (frames r.history)) c.self.view_is
    (c.reaches.ensures ∙ last-valid h c.in-Some.candidates it.frames keeps least count ∙ ap (is_valid h) count)
