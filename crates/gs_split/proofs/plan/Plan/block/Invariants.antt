-- the block so far is one of the plan's, up to the one that is wanted
use Rattle.std.proofs.Common.{◌≤◌, ◌-◌}
use Rattle.gs_split.specs.Plans.{blocks_of}
use Rattle.gs_split.specs.Places.{IsPlaced}
use Rattle.gs_split.proofs.plan.Plan.block.Given as goal

abbrev pub invariant-walk : goal.invariant-walk
invariant-walk l = record { placed : IsPlaced (blocks_of l.self) l.block; up_to : l.block.number ≤ l.number }

abbrev pub decreases-walk : goal.decreases-walk
decreases-walk l = l.number - l.block.number
