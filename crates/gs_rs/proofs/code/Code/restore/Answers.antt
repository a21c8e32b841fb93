use Rattle.std.proofs.Common.{◌≡◌, ℕ, ◌*◌, ◌<◌, length, take, subst, refl, sym, ap, ◌∙◌, arith}
use Rattle.gs_rs.specs.Shape.{shard_count}
use Rattle.gs_rs.specs.Restore.{IsPresent, RestoresEachBlock, RestoresSomeBlock}
use Rattle.gs_rs.proofs.Differences.{bytes_from_fits}
use Rattle.gs_rs.proofs.Restored.{restores_each_block, restores_some_block, chosen_enough, chosen_present, data_present, nothing_absent}
use Rattle.gs_rs.proofs.code.Code.restore.Goals as goal

pub returns-clause-each_block : goal.returns-clause-each_block
returns-clause-each_block c =
    let len = c.args.len in
    let present = c.args.present.now in
    let before = c.args.shards.now in
    let after = c.restore_absent.new.shards in
    let found = c.lowest_present-count in
    let counts = c.shape-shape.ensures.counts in
    let all = ap shard_count (sym counts) in
    subst (λ code. RestoresEachBlock code len present before after) counts
    (restores_each_block c.shape-shape.result len present found.result.0 found.result.1 before after
    found.ensures.numbers found.ensures.room (omega (arith, found.ensures.count)) (c.requires.present_size ∙ all)
    (c.restore_absent.auto.shards ∙ c.requires.shards_size ∙ ap (λ n. n * len) all)
    c.restore_absent.ensures.restored c.restore_absent.ensures.others)

pub returns-clause-some_block : goal.returns-clause-some_block
returns-clause-some_block c =
    let len = c.args.len in
    let present = c.args.present.now in
    let before = c.args.shards.now in
    let after = c.restore_absent.new.shards in
    let found = c.lowest_present-count in
    let counts = c.shape-shape.ensures.counts in
    let all = ap shard_count (sym counts) in
    subst (λ code. RestoresSomeBlock code len present before after) counts
    (restores_some_block c.shape-shape.result len present found.result.0 found.result.1 before after
    c.shape-shape.ensures.limits found.ensures.numbers found.ensures.room (omega (arith, found.ensures.count)) (c.requires.present_size ∙ all)
    (c.restore_absent.auto.shards ∙ c.requires.shards_size ∙ ap (λ n. n * len) all)
    (bytes_from_fits after c.type_inv.shards)
    c.restore_absent.ensures.restored c.restore_absent.ensures.others)

pub restore_absent-requires-clause-enough : goal.restore_absent-requires-clause-enough
restore_absent-requires-clause-enough c =
    let found = c.lowest_present-count in
    chosen_enough c.shape-shape.result c.args.present.now found.result.0 found.result.1 found.ensures.numbers found.ensures.room
    (omega (arith, found.ensures.count)) (c.requires.present_size ∙ ap shard_count (sym c.shape-shape.ensures.counts))

pub restore_absent-requires-clause-chosen_present : goal.restore_absent-requires-clause-chosen_present
restore_absent-requires-clause-chosen_present c =
    let found = c.lowest_present-count in
    chosen_present c.args.present.now found.result.0 found.result.1 found.ensures.numbers found.ensures.room

here : (c : goal.Then-not-contains) → (i : ℕ) → i < c.shape-shape.result.data → IsPresent c.args.present.now i
here c =
    let size : length c.args.present.now ≡ shard_count c.shape-shape.result = c.requires.present_size ∙ ap shard_count (sym c.shape-shape.ensures.counts) in
    data_present c.args.present.now c.shape-shape.result.data c.contains.result c.contains.ensures.cases c.if-not-contains.true (omega (arith, size))

pub returns-then-not-contains-clause-each_block : goal.returns-then-not-contains-clause-each_block
returns-then-not-contains-clause-each_block c =
    let len = c.args.len in
    let present = c.args.present.now in
    let shards = c.args.shards.now in
    let found = c.lowest_present-count in
    let counts = c.shape-shape.ensures.counts in
    let all = ap shard_count (sym counts) in
    let code = c.shape-shape.result in
    subst (λ s. RestoresEachBlock s len present shards shards) counts
    (restores_each_block code len present found.result.0 found.result.1 shards shards
    found.ensures.numbers found.ensures.room (omega (arith, found.ensures.count)) (c.requires.present_size ∙ all)
    (c.requires.shards_size ∙ ap (λ n. n * len) all)
    (nothing_absent code len present (take found.result.0 found.result.1) shards (here c)) (λ number within which. refl))

pub returns-then-not-contains-clause-some_block : goal.returns-then-not-contains-clause-some_block
returns-then-not-contains-clause-some_block c =
    let len = c.args.len in
    let present = c.args.present.now in
    let shards = c.args.shards.now in
    let found = c.lowest_present-count in
    let counts = c.shape-shape.ensures.counts in
    let all = ap shard_count (sym counts) in
    let code = c.shape-shape.result in
    subst (λ s. RestoresSomeBlock s len present shards shards) counts
    (restores_some_block code len present found.result.0 found.result.1 shards shards
    c.shape-shape.ensures.limits found.ensures.numbers found.ensures.room (omega (arith, found.ensures.count)) (c.requires.present_size ∙ all)
    (c.requires.shards_size ∙ ap (λ n. n * len) all)
    (bytes_from_fits shards c.type_inv.shards)
    (nothing_absent code len present (take found.result.0 found.result.1) shards (here c)) (λ number within which. refl))
