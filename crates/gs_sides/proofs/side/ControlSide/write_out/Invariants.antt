use Rattle.std.proofs.Common.{◌≡◌}
use Rattle.gs_enet.specs.World.{Side}
use Rattle.gs_sides.specs.Standing.{IsSideOf}
use Rattle.gs_sides.specs.Steps.{items_due}
use Rattle.gs_enet.specs.Sides.{written_out}
use Rattle.gs_sides.proofs.side.ControlSide.write_out.Given as goal

abbrev pub invariant-datagrams : goal.invariant-datagrams
invariant-datagrams l = (x : Side) → IsSideOf l.fn.self x → (y : Side) × IsSideOf l.self y × (written_out l.now y ≡ written_out l.now x)

abbrev pub decreases-datagrams : goal.decreases-datagrams
decreases-datagrams l = items_due l.self.peer
