use Rattle.std.proofs.Common.{ap, arith}
use Rattle.gs_refs.specs.Answers.{References}
use Rattle.gs_refs.specs.History.{last_tick}
use Rattle.gs_refs.proofs.refs.Refs.sent_as.Goals as goal

pub overflow_add-result : goal.overflow_add-result
overflow_add-result c =
    let last = ap (λ (r : References). last_tick r.history) c.self.view_is in
    omega (arith, last, c.self.invariant.count, c.self.invariant.rise, c.requires, c.ranges.number.fits)
