-- 2 to the power 255 is 1.
use Rattle.std.proofs.Common.{arith}
use Rattle.gs_gf256.proofs.Powers.{power_of_two, logarithm}
use Rattle.gs_gf256.proofs.Inverses.{inverse_by_powers, inverse_unique}
use Rattle.gs_gf256.proofs.field.inv.Goals as goal

pub returns-clause-inverse : goal.returns-clause-inverse
unfolding logarithm power_of_two
returns-clause-inverse c = inverse_by_powers c.args.a (omega arith) c.requires

pub returns-clause-value : goal.returns-clause-value
unfolding logarithm power_of_two
returns-clause-value c = inverse_unique c.args.a _ (omega arith) (inverse_by_powers c.args.a (omega arith) c.requires)
