use Rattle.std.proofs.Common.{◌≤◌, List, arith, subst, sym}
use Rattle.std.specs.List.{sum_by}
use Rattle.gs_tape.specs.Limits.{most_bytes}
use Rattle.gs_tape.specs.Tick.{Tick, unit_bytes}
use Rattle.gsbench.proofs.Captures.{generated_most, generated_some, product_fits, product_some}
use Rattle.gsbench.proofs.tape.read_often.Goals as goal

pub read_once-requires : goal.read_once-requires
read_once-requires c =
    let Most : List Tick → Type 0 = λ ticks. sum_by unit_bytes ticks ≤ most_bytes in
    subst Most (sym c.in_ok-file.ensures.ticks) (generated_most c.args.number c.args.ticks c.requires.ticks.1)

pub read_once-requires-in-turns : goal.read_once-requires-in-turns
read_once-requires-in-turns c =
    let Most : List Tick → Type 0 = λ ticks. sum_by unit_bytes ticks ≤ most_bytes in
    subst Most (sym c.in_ok-file.ensures.ticks) (generated_most c.args.number c.args.ticks c.requires.ticks.1)

pub overflow_mul-result : goal.overflow_mul-result
overflow_mul-result c =
    let most = generated_most c.args.number c.args.ticks c.requires.ticks.1 in
    let fits = product_fits c.turns.seen.units c.from.result (omega (arith, most, c.turns.invariant.units)) (omega (arith, c.from.ensures, c.ranges.count)) in
    omega (arith, fits)

pub returns-clause-some : goal.returns-clause-some
returns-clause-some c =
    let some = generated_some c.args.number c.args.ticks c.requires.ticks.0 in
    product_some c.turns.seen.units c.from.result (omega (arith, some, c.turns.invariant.units)) (omega (arith, c.from.ensures, c.requires.count))
