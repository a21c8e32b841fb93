-- the block so far is one of the plan's, and doesn't begin behind the datagram
use Rattle.std.proofs.Common.{◌<◌, ◌≤◌, ◌-◌}
use Rattle.gs_split.specs.Plans.{blocks_of}
use Rattle.gs_split.specs.Places.{IsPlaced}
use Rattle.gs_split.proofs.plan.Plan.block_of.Given as goal

abbrev pub invariant-walk : goal.invariant-walk
invariant-walk l =
    record {
      placed : IsPlaced (blocks_of l.self) l.block;
      within : l.block.number < l.self.blocks;
      from : l.block.first_datagram ≤ l.k;
    }

abbrev pub decreases-walk : goal.decreases-walk
decreases-walk l = l.self.blocks - l.block.number
