use Rattle.std.proofs.Common.{◌≤◌, arith, rules}
use Rattle.gs_depack.proofs.Passing.{next-none}
use Rattle.gs_depack.proofs.depack.Depack.next.Goals as goal

pub pass-preserved : goal.pass-preserved
pass-preserved c = λ s came unnoted given stands.
    c.if-pass.ensures.hands s came unnoted given (c.pass.invariant s came unnoted given stands)

pub returns : goal.returns
returns c = λ s came unnoted given stands.
    let all : c.pass.self.settled ≤ c.pass.self.passed = search rules in
    next-none c.pass.self s came unnoted given (c.pass.invariant s came unnoted given stands) all
