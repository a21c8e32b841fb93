use Rattle.std.specs.Int.Bits.{xor_comm}
use Rattle.std.proofs.Common.{inl, inr}
use Rattle.std.proofs.lemmas.Bool.{cases_eq}
use Rattle.gs_gf256.proofs.FieldLemmas.{IsByte-xor, IsByte-product, product_assoc, product_comm, product-xor_r, product-one_r}
use Rattle.gs_gf256.proofs.Inverses.{inverse_is, inverse_unique, zero_from_product}
use Rattle.gs_gf256.proofs.laws.field_laws.Goals as goal

pub returns-clause-sum_closed : goal.returns-clause-sum_closed
returns-clause-sum_closed c = IsByte-xor

pub returns-clause-sum_commutative : goal.returns-clause-sum_commutative
returns-clause-sum_commutative c = xor_comm

pub returns-clause-closed : goal.returns-clause-closed
returns-clause-closed c = IsByte-product

pub returns-clause-associative : goal.returns-clause-associative
returns-clause-associative c = product_assoc

pub returns-clause-commutative : goal.returns-clause-commutative
returns-clause-commutative c = product_comm

pub returns-clause-distributive : goal.returns-clause-distributive
returns-clause-distributive c = λ x y z hx hy hz. product-xor_r x y z

pub returns-clause-one : goal.returns-clause-one
returns-clause-one c = product-one_r

pub returns-clause-inverse_exists : goal.returns-clause-inverse_exists
returns-clause-inverse_exists c = inverse_is

pub returns-clause-inverse_unique : goal.returns-clause-inverse_unique
returns-clause-inverse_unique c = inverse_unique

pub returns-clause-no_zero_divisors : goal.returns-clause-no_zero_divisors
returns-clause-no_zero_divisors c =
    λ a b ha hb e. elim (cases_eq a 0) [ inl none ↦ inl none | inr other ↦ inr (zero_from_product a b ha hb other e) ]
