use Rattle.std.proofs.Common.{◌≡◌, ℕ, ◌∷◌, Option, sym, subst, arith}
use Rattle.gs_refs.specs.declared.entry.Entry.TheVariants as entry
use Rattle.gs_refs.specs.Candidates.{KeptCandidates, KeepsValid}
use Rattle.gs_refs.specs.Standing.{KeepsCandidates}
use Rattle.gs_refs.proofs.refs.appending.keep_sent.Goals as goal

pub returns-then-sent-eq2-clause-keeps : goal.returns-then-sent-eq2-clause-keeps
returns-then-sent-eq2-clause-keeps c h e keeps =
    let is_idr : c.args.sent.kind ≡ 2 = omega arith in
    subst (λ (k : ℕ). KeepsValid (entry.Sent c.args.sent.tick k c.args.sent.reference ∷ h) c.restart.new.self) (sym is_idr)
    (c.restart.ensures h c.args.sent.reference e)

pub returns-else-sent-eq2-clause-keeps : goal.returns-else-sent-eq2-clause-keeps
returns-else-sent-eq2-clause-keeps c h e keeps =
    c.push.ensures h c.args.sent.kind c.args.sent.reference c.if-sent-eq2.false e
    (subst (λ (o : Option KeptCandidates). KeepsCandidates h o) c.in-Some.is keeps)
