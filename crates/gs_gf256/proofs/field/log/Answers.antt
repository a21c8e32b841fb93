use Rattle.std.proofs.Common.{arith}
use Rattle.gs_gf256.proofs.Powers.{logarithm}
use Rattle.gs_gf256.proofs.Logarithms.{logarithm-below, power-logarithm}
use Rattle.gs_gf256.proofs.field.log.Goals as goal

pub returns-clause-below : goal.returns-clause-below
unfolding logarithm
returns-clause-below c = logarithm-below c.args.a (omega arith)

pub returns-clause-power : goal.returns-clause-power
unfolding logarithm
returns-clause-power c = power-logarithm c.args.a (omega arith)
