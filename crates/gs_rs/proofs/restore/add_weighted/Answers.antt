use Rattle.std.proofs.Common.{◌≡◌, ◌≢◌, ◌+◌, ◌-◌, ◌*◌, length, get_or, take, drop, ap, ◌∙◌, arith}
use Rattle.gs_gf256.specs.Field.{product}
use Rattle.gs_rs.proofs.Writes.{put_shard_same, put_shard_other, cut_length, none_yet, one_more}
use Rattle.gs_rs.proofs.restore.add_weighted.Goals as goal

pub loop-i-init : goal.loop-i-init
loop-i-init c =
    let len = c.args.len in
    let to = c.args.to in
    let xs = c.args.shards.now in
    let part : length (take ((to * len + len) - to * len) (drop (to * len) xs)) ≡ len = cut_length (to * len) len xs c.requires.to_in in
    let size : length c.fill.new.self ≡ len = c.fill.ensures.len ∙ part in (
      λ k hk.
          put_shard_same len to k _ xs c.fill.new.self c.requires.to_in size hk
          ∙ none_yet _ _ k c.fill.new.self (c.fill.ensures.after (λ y e. e)) (omega arith),
      λ number k other hk. put_shard_other len to number k _ xs c.fill.new.self (omega arith) c.requires.to_in size other hk,
    )

pub loop-i-preserved : goal.loop-i-preserved
loop-i-preserved c =
    let len = c.args.len in
    let i = c.loop-i.i in
    let xs = c.args.shards.now in
    let number = get_or c.args.chosen.now i 0 in
    let apart : number ≢ c.args.to = c.requires.chosen_apart i 0 (omega arith) in (
      λ k hk.
          one_more _ i _ _ _
          (c.add_shard.ensures.written k hk)
          (c.loop-i.invariant.0 k hk)
          (ap (product (get_or c.args.weights.now i 0))
          (ap (λ n. get_or c.loop-i.shards (n * len + k) 0) c.from.ensures ∙ c.loop-i.invariant.1 number k apart hk)),
      λ j k other hk. c.add_shard.ensures.others j k other hk ∙ c.loop-i.invariant.1 j k other hk,
    )
