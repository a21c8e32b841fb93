use Rattle.std.proofs.Common.{◌≡◌, ◌≤◌, ◌+◌, ℕ, List, length, subst, sym, ◌∙◌, arith, refl}
use Rattle.std.proofs.lemmas.List.{length-set}
use Rattle.gs_rs.specs.AbsentRows.{AreAllAbsent}
use Rattle.gs_rs.proofs.AbsentRows.{none_absent, absent_one, absent_none}
use Rattle.gs_rs.proofs.restore.absent_data.Goals as goal
use Rattle.gs_rs.proofs.restore.absent_data.Goals.{then-not-present-shard, else-not-present-shard}

pub loop-shard-init : goal.loop-shard-init
loop-shard-init c = (refl, omega arith, none_absent c.args.present.now _)

pub loop-shard-preserved : goal.loop-shard-preserved
loop-shard-preserved c =
    let present = c.args.present.now in
    let shard = c.loop-shard.shard in
    let count = c.loop-shard.count in
    let numbers = c.loop-shard.numbers in
    let before = c.loop-shard.invariant in
    let moved = λ (k : ℕ) (ns : List ℕ) (k_is : c.if-not-present-shard.count ≡ k) (ns_is : c.if-not-present-shard.numbers ≡ ns)
    (after : (length ns ≡ 255) × (k ≤ shard + 1) × AreAllAbsent present (shard + 1) k ns).
    subst (λ n. (length c.if-not-present-shard.numbers ≡ 255) × (n ≤ shard + 1)
    × AreAllAbsent present (shard + 1) n c.if-not-present-shard.numbers) (sym k_is)
    (subst (λ xs. (length xs ≡ 255) × (k ≤ shard + 1) × AreAllAbsent present (shard + 1) k xs) (sym ns_is) after) in
    elim c.if-not-present-shard.branch [
      | then-not-present-shard w ↦
          moved _ _ w.count-is w.numbers-is (
            length-set numbers count _ ∙ before.0,
            omega (arith, before.1),
            absent_one present shard count numbers before.2
                (omega (arith, before.0, before.1, c.loop-shard-test.true, c.requires.few, c.requires.limit)) w.if-not-present-shard.true,
          )
      | else-not-present-shard w ↦
          moved _ _ w.count-is w.numbers-is
          (before.0, omega (arith, before.1), absent_none present shard count numbers before.2 w.if-not-present-shard.false)
    ]
