use Rattle.std.proofs.Common.{rules, arith}
use Rattle.std.specs.Prelude.{nat_le}
use Rattle.std.proofs.lemmas.List.Sorted.{IsPartitionedBy-leb, IsPartitionPoint-from_clause}
use Rattle.gs_pair.proofs.Cuts.{last_is_least, none_is_least}
use Rattle.gs_pair.proofs.places.least_together.Goals as goal

pub returns-in-Some : goal.returns-in-Some
returns-in-Some c =
    let parted = IsPartitionedBy-leb (λ y. y) _ c.args.place c.requires.rise in
    let point = IsPartitionPoint-from_clause (λ y. nat_le y c.args.place) _ _ c.partition_point-before.ensures.partitioned parted (λ a r q k. search rules) in
    let is = last_is_least c.args.cuts.now c.args.place _ c.in-Some.last c.requires.rise point (omega arith) (omega arith) in
    record { within = is.within; least = is.least }

pub returns-in-None : goal.returns-in-None
returns-in-None c =
    let parted = IsPartitionedBy-leb (λ y. y) _ c.args.place c.requires.rise in
    let point = IsPartitionPoint-from_clause (λ y. nat_le y c.args.place) _ _ c.partition_point-before.ensures.partitioned parted (λ a r q k. search rules) in
    let is = none_is_least c.args.cuts.now c.args.place _ point (omega arith) in
    record { within = is.within; least = is.least }
