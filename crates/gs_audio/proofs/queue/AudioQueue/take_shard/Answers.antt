use Rattle.std.proofs.Common.{◌≡◌, ℕ, Some, None, sym, ap, ◌∙◌, arith}
use Rattle.gs_audio.specs.Played.{greatest_block}
use Rattle.gs_audio.specs.Steps.{shard_of_number}
use Rattle.gs_audio.proofs.Counting.{above-none, above-some, lower}
use Rattle.gs_audio.proofs.queue.AudioQueue.take_shard.Goals as goal

pub returns-in_default-clause-takes : goal.returns-in_default-clause-takes
returns-in_default-clause-takes c = λ s rs stands.
    let none : c.args.self.now.block ≡ None = c.in_default.is in
    c.advance.ensures.takes s rs stands (above-none c.args.block c.args.self.now.block (greatest_block rs) stands.greatest none)

pub returns-then-greatest-block-clause-takes : goal.returns-then-greatest-block-clause-takes
returns-then-greatest-block-clause-takes c = λ s rs stands.
    c.advance-then-greatest-block.ensures.takes s rs stands
    (above-some c.args.block c.in-Some.greatest c.args.self.now.block (greatest_block rs) stands.greatest c.in-Some.is c.if-greatest-block.true)

pub returns-then-greatest-block-2-clause-takes : goal.returns-then-greatest-block-2-clause-takes
returns-then-greatest-block-2-clause-takes c = λ s rs stands.
    c.join.ensures.takes s rs stands (sym stands.greatest ∙ c.in-Some.is ∙ ap (λ (n : ℕ). Some n) c.if-greatest-block-2.true)

pub returns-else-greatest-block-2-clause-takes : goal.returns-else-greatest-block-2-clause-takes
returns-else-greatest-block-2-clause-takes c = λ s rs stands.
    lower c.args.self.now s rs (shard_of_number c.args.block c.args.index c.args.shard.now) c.in-Some.greatest stands
    (sym stands.greatest ∙ c.in-Some.is) (omega arith)
