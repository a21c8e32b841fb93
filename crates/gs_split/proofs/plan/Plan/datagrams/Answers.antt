use Rattle.std.proofs.Common.{◌≡◌, ◌∙◌, ap, suc, arith}
use Rattle.gs_split.specs.Plans.{blocks_of}
use Rattle.gs_split.specs.Places.{datagrams_before}
use Rattle.gs_split.proofs.Places.{end-is}
use Rattle.gs_split.proofs.plan.Plan.datagrams.Goals as goal

pub returns : goal.returns
returns c =
    let plans = blocks_of c.args.self.now in
    let last : suc c.block.result.number ≡ c.args.self.now.blocks = omega (arith, c.block.ensures.number, c.requires.some) in
    c.end.ensures ∙ end-is plans c.block.result c.block.ensures.placed ∙ ap (λ n. datagrams_before n plans) last
