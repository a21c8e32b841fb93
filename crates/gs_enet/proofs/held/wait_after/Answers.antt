use Rattle.std.proofs.Common.{◌≡◌, ◌≤◌, ◌-◌, ◌^◌, ◌*◌, arith}
use Rattle.std.proofs.Math.Pow.{pow_mono}
use Rattle.gs_enet.proofs.held.wait_after.Goals as goal

pub returns-in_default : goal.returns-in_default
returns-in_default c =
    let many : 4 ≤ c.args.writes = omega arith in
    omega (arith, pow_mono {i = 3} {j = c.args.writes - 1} (omega arith))
