use Rattle.std.proofs.Common.{◌≡◌, ℕ, ◌+◌, List, subst, sym}
use Rattle.gs_rs.proofs.Present.{FoundBelow, found_one, found_full, found_absent}
use Rattle.gs_rs.proofs.restore.lowest_present.Goals as goal
use Rattle.gs_rs.proofs.restore.lowest_present.Goals.{then-here+then-count-limit, else-here, else-here-via-then-here+else-count-limit, else-here-via-else-here}

pub loop-shard-preserved : goal.loop-shard-preserved
loop-shard-preserved c =
    let present = c.args.present.now in
    let limit = c.args.limit in
    let count = c.loop-shard.count in
    let numbers = c.loop-shard.numbers in
    let shard = c.loop-shard.shard in
    let so_far = c.loop-shard.invariant in
    let within = c.loop-shard-test.true in
    let moved = λ (k : ℕ) (ns : List ℕ) (k_is : c.if-here.count ≡ k) (ns_is : c.if-here.numbers ≡ ns) (found : FoundBelow present limit k ns (shard + 1)).
    subst (λ n. FoundBelow present limit n c.if-here.numbers (shard + 1)) (sym k_is)
    (subst (λ xs. FoundBelow present limit k xs (shard + 1)) (sym ns_is) found) in
    elim c.if-here.branch [
      | then-here+then-count-limit w ↦
          moved _ _ w.count-is w.numbers-is
          (found_one present limit count numbers shard so_far within c.requires w.if-here.true w.if-count-limit.true)
      | else-here w ↦
          moved count numbers w.count-is w.numbers-is (elim w.else-here.branch [
            | else-here-via-then-here+else-count-limit v ↦
                found_full present limit count numbers shard so_far within v.if-here.true v.if-count-limit.false
            | else-here-via-else-here v ↦ found_absent present limit count numbers shard so_far within v.if-here.false
          ])
    ]
