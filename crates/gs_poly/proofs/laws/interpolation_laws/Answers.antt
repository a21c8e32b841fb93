use Rattle.gs_poly.proofs.Roots.{roots_are_few}
use Rattle.gs_poly.proofs.Interpolation.{interpolation_exists, interpolation_is_unique, interpolation_is_weighted_sum}
use Rattle.gs_poly.proofs.laws.interpolation_laws.Goals as goal

pub returns-clause-roots : goal.returns-clause-roots
returns-clause-roots c = roots_are_few

pub returns-clause-exists : goal.returns-clause-exists
returns-clause-exists c = interpolation_exists

pub returns-clause-unique : goal.returns-clause-unique
returns-clause-unique c = interpolation_is_unique

pub returns-clause-weighted_sum : goal.returns-clause-weighted_sum
returns-clause-weighted_sum c = interpolation_is_weighted_sum
