use Rattle.std.proofs.Common.{◌≡◌, ◌+◌, ◌*◌, ◌%◌, ◌^◌, ℕ, length, ap, ◌∙◌, arith}
use Rattle.gs_turn.specs.Cells.{own, opening_of}
use Rattle.gsbench.specs.declared.turns.Counter.{Counter}
use Rattle.gsbench.proofs.Passes.{all_counted, all_numbers, leaves_counted, none_wraps}
use Rattle.gsbench.proofs.turns.count_by.Goals as goal

-- what a call does to the counter
abbrev counts : Counter → Unit {0} → ℕ → Counter → Type 0
counts before call reply after = (after.calls ≡ (before.calls + 1) % 2 ^ 64) × (reply ≡ after.calls)

pub close-counter-requires-clause-all : goal.close-counter-requires-clause-all
close-counter-requires-clause-all g c =
    let called = c.call_by_all-pass.ensures.called in
    λ number low. all_numbers c.args.count number (own c.call_by_all-pass.result) called.0
    (omega (arith, low, called.1, c.in_ok-turn.ensures.cell.1, c.in_ok-turn.ensures.passes.0))

pub returns-clause-calls : goal.returns-clause-calls
returns-clause-calls g c =
    let called = c.call_by_all-pass.ensures.called in
    let closed = c.close-counter.ensures in
    let start : (opening_of c.in_ok-turn.turn).calls ≡ 0 = ap (λ (x : Counter). x.calls) c.in_ok-turn.ensures.cell.0 in
    let left = leaves_counted counts (λ (x : Counter). x.calls) (λ before call reply after step. step.0) (opening_of c.in_ok-turn.turn)
    c.close-counter.result closed.0 (omega (arith, start)) closed.1 in
    let threads : length (own c.call_by_all-pass.result) ≡ c.args.threads = called.1 ∙ c.in_ok-turn.ensures.passes.0 in
    let made : length closed.0 ≡ c.args.threads * c.args.count =
    all_counted 0 c.args.count (own c.call_by_all-pass.result) closed.0 called.0 closed.2.own_calls closed.3
    ∙ ap (λ (n : ℕ). n * c.args.count) threads in
    none_wraps c.close-counter.result.calls (opening_of c.in_ok-turn.turn).calls (length closed.0) c.args.threads c.args.count left start made
    c.requires.1 (omega (arith, c.ranges.count))
