use Rattle.std.proofs.Common.{◌-◌}
use Rattle.gs_depack.specs.Steps.{IsSettling}
use Rattle.gs_depack.proofs.depack.Depack.settle.Given as goal

-- the frames settled so far were noted
abbrev pub invariant-settle : goal.invariant-settle
invariant-settle l = IsSettling l.initial.self l.self

abbrev pub decreases-settle : goal.decreases-settle
decreases-settle l = l.self.greatest - l.self.settled
