use Rattle.std.proofs.Common.{◌≡◌, ◌≢◌, ℕ, ◌+◌, ◌-◌, ◌*◌, ◌≤◌, length, get_or, take, drop, ◌++◌, ap, ◌∙◌, refl, arith}
use Rattle.std.proofs.lemmas.List.{length-take-le}
use Rattle.std.proofs.lemmas.Nat.{row_fits}
use Rattle.gs_rs.proofs.Writes.{put_shard_other, cut_length, front_is, front_written}
use Rattle.gs_rs.proofs.restore.add_shard.Goals as goal

to_before : (from to len : ℕ) → to ≤ from → from ≢ to → to * len + len ≤ from * len
to_before from to len h other = row_fits to len from len (omega arith) (omega arith)

pub returns-then-from-to-clause-others : goal.returns-then-from-to-clause-others
returns-then-from-to-clause-others c = λ number k other hk.
    let len = c.args.len in
    let to = c.args.to in
    let xs = c.args.shards.now in
    let ys = c.mul_add.new.dst in
    let parts = c.split_at_mut-front.ensures in
    let back = c.split_at_mut-front.result.1.now in
    let written : length ys ≡ len = c.mul_add.auto.dst ∙ length-take-le len back (omega (arith, parts.back_len, c.requires.to_in)) in
    ap (λ z. get_or (z ++ (ys ++ drop len back)) (number * len + k) 0) parts.front
    ∙ ap (λ z. get_or (take (to * len) xs ++ (ys ++ drop len z)) (number * len + k) 0) parts.back
    ∙ put_shard_other len to number k len xs ys refl c.requires.to_in written other hk

pub returns-else-from-to-clause-written : goal.returns-else-from-to-clause-written
returns-else-from-to-clause-written c = λ k hk.
    let len = c.args.len in
    let parts = c.split_at_mut-front-else-from-to.ensures in
    let to_first = to_before c.args.from c.args.to len c.if-from-to.false c.requires.apart in
    let written : length c.mul_add-else-from-to.new.dst ≡ len = c.mul_add-else-from-to.auto.dst
    ∙ cut_length (c.args.to * len) len _ (omega (arith, parts.front_len)) in
    front_written len c.args.from c.args.to k c.args.weight c.args.shards.now _ _ c.mul_add-else-from-to.new.dst to_first c.requires.from_in
    parts.value parts.front parts.back written hk (c.mul_add-else-from-to.ensures k (omega arith))

pub returns-else-from-to-clause-others : goal.returns-else-from-to-clause-others
returns-else-from-to-clause-others c = λ number k other hk.
    let len = c.args.len in
    let to = c.args.to in
    let xs = c.args.shards.now in
    let ys = c.mul_add-else-from-to.new.dst in
    let parts = c.split_at_mut-front-else-from-to.ensures in
    let to_first = to_before c.args.from to len c.if-from-to.false c.requires.apart in
    let written : length ys ≡ len = c.mul_add-else-from-to.auto.dst ∙ cut_length (to * len) len _ (omega (arith, parts.front_len)) in
    ap (λ z. get_or z (number * len + k) 0)
    (front_is len c.args.from to xs _ _ ys to_first (omega arith) parts.value parts.front_len)
    ∙ put_shard_other len to number k ((to * len + len) - to * len) xs ys (omega arith) c.requires.to_in written other hk
