use Rattle.std.proofs.Common.{drop}
use Rattle.gs_refs.proofs.ValidAbove.{NoneNamed}
use Rattle.gs_refs.proofs.candidates.Candidates.greatest_named.Given as goal

-- the tick has no unit against those from this place on
abbrev pub invariant-loop-place : goal.invariant-loop-place
invariant-loop-place l = NoneNamed l.tick (drop l.place l.self-inside.ring.items)
