use Rattle.std.proofs.Common.{◌≡◌, length, get_or, ap, ◌∙◌, arith}
use Rattle.gs_gf256.specs.Field.{product}
use Rattle.gs_rs.specs.Shape.{coefficient}
use Rattle.gs_rs.proofs.Blocks.{shard_at}
use Rattle.gs_rs.proofs.Writes.{none_yet, one_more}
use Rattle.gs_rs.proofs.shape.CodeShape.encode_row.Goals as goal

pub loop-i-init : goal.loop-i-init
loop-i-init c = (
  c.fill.ensures.len ∙ c.requires.out_size,
  λ k h. none_yet _ (length c.args.out.now) k c.fill.new.self (c.fill.ensures.after (λ y e. e)) (omega arith),
)

pub loop-i-preserved : goal.loop-i-preserved
loop-i-preserved c =
    let i = c.loop-i.i in
    let size : length c.mul_add.new.dst ≡ c.args.len = c.mul_add.auto.dst ∙ c.loop-i.invariant.0 in (
      size,
      λ k h.
          one_more _ i _ _ _
          (c.mul_add.ensures k (omega arith))
          (c.loop-i.invariant.1 k h)
          (ap (λ w. product w (get_or c.shard.result.now k 0)) c.coefficient.ensures
          ∙ ap (λ s. product (coefficient c.args.self.now c.args.row i) (get_or s k 0)) c.shard.ensures.shard
          ∙ ap (product (coefficient c.args.self.now c.args.row i)) (shard_at c.args.len c.args.source.now i k 0 h)),
    )
