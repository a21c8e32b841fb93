use Rattle.std.proofs.Common.{◌≡◌, ◌+◌, ◌*◌, ◌/◌, ◌%◌, ◌++◌, ℕ, List, take, arith, ap, sym, ◌∙◌, rules}
use Rattle.gs_tape.specs.Generated.{pattern}
use Rattle.gs_tape.proofs.Parts.{pattern_period, pattern_whole}
use Rattle.gs_tape.proofs.draws.pattern.Goals as goal

pub periods-preserved : goal.periods-preserved
periods-preserved c =
    let periods : List ℕ = pattern (c.periods.counter * 251) c.args.base in
    c.in_ok-extend_from_slice.ensures.items
    ∙ ap (λ (l : List ℕ). l ++ c.as_slice.result.now) c.periods.invariant
    ∙ ap (λ (l : List ℕ). periods ++ l) (search rules)
    ∙ sym (pattern_period c.periods.counter c.args.base)

pub returns : goal.returns
returns c =
    let rest = c.args.length % 251 in
    let part : c.from_bytes.result ≡ c.periods.bytes.items ++ take rest c.in_ok-period.period.items = search rules in
    let whole : c.periods.counter ≡ c.args.length / 251 = omega arith in
    part ∙ ap (λ (l : List ℕ). l ++ take rest c.in_ok-period.period.items) c.periods.invariant
    ∙ ap (λ (n : ℕ). pattern (n * 251) c.args.base ++ take rest c.in_ok-period.period.items) whole
    ∙ ap (λ (l : List ℕ). pattern (c.args.length / 251 * 251) c.args.base ++ take rest l) c.in_ok-period.ensures.bytes
    ∙ pattern_whole c.args.length c.args.base
