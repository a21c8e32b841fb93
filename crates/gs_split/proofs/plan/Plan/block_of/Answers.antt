use Rattle.std.proofs.Common.{◌≡◌, ◌<◌, ◌+◌, ◌∙◌, sym, ap, suc, arith}
use Rattle.gs_split.specs.Plans.{blocks_of}
use Rattle.gs_split.specs.Places.{datagrams_before, block_end}
use Rattle.gs_split.proofs.Places.{end-is, more-blocks}
use Rattle.gs_split.proofs.plan.Plan.block_of.Goals as goal

pub walk-preserved : goal.walk-preserved
walk-preserved c =
    let plans = blocks_of c.args.self.now in
    let end : block_end c.walk.block ≡ datagrams_before (suc c.walk.block.number) plans = end-is plans c.walk.block c.walk.invariant.placed in
    let number : c.next-block.result.number ≡ suc c.walk.block.number = omega (arith, c.next-block.ensures.number) in
    let next : c.next-block.result.first_datagram ≡ block_end c.walk.block =
    c.next-block.ensures.placed.datagrams ∙ ap (λ n. datagrams_before n plans) number ∙ sym end in
    let more : c.walk.block.number + 1 < c.args.self.now.blocks =
    more-blocks plans c.walk.block c.args.k c.args.self.now.blocks c.walk.invariant.placed c.walk.invariant.within
    (omega (arith, c.walk-test.true, c.end.ensures)) c.requires.number in
    record {
      placed = c.next-block.ensures.placed;
      within = omega (arith, number, more);
      from = omega (arith, next, c.walk-test.true, c.end.ensures);
    }

pub next-block-requires-clause-behind : goal.next-block-requires-clause-behind
next-block-requires-clause-behind c =
    more-blocks (blocks_of c.args.self.now) c.walk.block c.args.k c.args.self.now.blocks c.walk.invariant.placed c.walk.invariant.within
    (omega (arith, c.walk-test.true, c.end.ensures)) c.requires.number
