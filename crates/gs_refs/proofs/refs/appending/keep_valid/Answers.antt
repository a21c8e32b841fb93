use Rattle.std.proofs.Common.{Option, subst}
use Rattle.gs_refs.specs.Candidates.{KeptCandidates}
use Rattle.gs_refs.specs.Standing.{KeepsCandidates}
use Rattle.gs_refs.proofs.refs.appending.keep_valid.Goals as goal

pub returns-in-Some-clause-keeps : goal.returns-in-Some-clause-keeps
returns-in-Some-clause-keeps c h last keeps = c.drop_from.ensures h last (subst (λ (o : Option KeptCandidates). KeepsCandidates h o) c.in-Some.is keeps)
