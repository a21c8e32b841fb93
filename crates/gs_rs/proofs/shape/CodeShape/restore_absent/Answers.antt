use Rattle.std.proofs.Common.{◌≡◌, ◌+◌, ◌*◌, length, take, get_or, subst, sym, ap, ◌∙◌, arith}
use Rattle.std.proofs.lemmas.List.{length-take-le}
use Rattle.gs_rs.specs.AbsentRows.{AreRestored, shard_weight}
use Rattle.gs_rs.proofs.AbsentRows.{absent_front}
use Rattle.gs_rs.proofs.Restoring.{numbers_fit, absent_are_others, restored_one, restores_absent, keeps_others}
use Rattle.gs_rs.proofs.shape.CodeShape.restore_absent.Goals as goal

pub add_weighted-requires-clause-chosen_in : goal.add_weighted-requires-clause-chosen_in
add_weighted-requires-clause-chosen_in c =
    numbers_fit c.args.self.now c.args.len c.args.chosen.now c.loop-row.shards c.requires.enough
    (c.loop-row.auto.shards ∙ c.restore_groups-made.auto.shards ∙ c.requires.shards_size)

pub loop-row-preserved : goal.loop-row-preserved
loop-row-preserved c =
    let code = c.args.self.now in
    let chosen = c.args.chosen.now in
    let found = c.absent_data-count in
    let numbers = take found.result.0 found.result.1 in
    let all = absent_front c.args.present.now code.data found.result.0 found.result.1 found.ensures.room found.ensures.numbers in
    let others = absent_are_others code.data c.args.present.now chosen numbers all c.requires.chosen_present in
    let size : length numbers ≡ found.result.0 = length-take-le found.result.0 found.result.1 found.ensures.room in
    let to = c.from-to.ensures in
    let after = c.add_weighted.new.shards in
    restored_one code c.args.len chosen numbers c.weights.result c.args.shards.now c.loop-row.shards after c.loop-row.row c.requires.enough others
    (omega (arith, size)) c.loop-row.invariant
    (λ i hi. c.weights.ensures i hi ∙ ap (λ n. shard_weight code chosen n i) to)
    (λ k hk. ap (λ n. get_or after (n * c.args.len + k) 0) (sym to) ∙ c.add_weighted.ensures.written k hk)
    (λ n k other hk. c.add_weighted.ensures.others n k (λ same. other (same ∙ to)) hk)

pub returns-clause-restored : goal.returns-clause-restored
returns-clause-restored c =
    let code = c.args.self.now in
    let found = c.absent_data-count in
    let numbers = take found.result.0 found.result.1 in
    let all = absent_front c.args.present.now code.data found.result.0 found.result.1 found.ensures.room found.ensures.numbers in
    let size : length numbers ≡ found.result.0 = length-take-le found.result.0 found.result.1 found.ensures.room in
    restores_absent code c.args.len c.args.present.now c.args.chosen.now numbers c.args.shards.now c.loop-row.shards c.requires.code c.requires.enough
    c.requires.chosen_present all (c.loop-row.auto.shards ∙ c.restore_groups-made.auto.shards ∙ c.requires.shards_size)
    (subst (λ n. AreRestored code c.args.len c.args.chosen.now numbers n c.args.shards.now c.loop-row.shards)
    (let e : c.loop-row.row ≡ length numbers = omega (arith, size) in e) c.loop-row.invariant)

pub returns-clause-others : goal.returns-clause-others
returns-clause-others c =
    let code = c.args.self.now in
    let found = c.absent_data-count in
    let numbers = take found.result.0 found.result.1 in
    let all = absent_front c.args.present.now code.data found.result.0 found.result.1 found.ensures.room found.ensures.numbers in
    let size : length numbers ≡ found.result.0 = length-take-le found.result.0 found.result.1 found.ensures.room in
    keeps_others code c.args.len c.args.present.now c.args.chosen.now numbers c.args.shards.now c.loop-row.shards all
    c.requires.shards_size (c.loop-row.auto.shards ∙ c.restore_groups-made.auto.shards ∙ c.requires.shards_size)
    (subst (λ n. AreRestored code c.args.len c.args.chosen.now numbers n c.args.shards.now c.loop-row.shards)
    (let e : c.loop-row.row ≡ length numbers = omega (arith, size) in e) c.loop-row.invariant)
