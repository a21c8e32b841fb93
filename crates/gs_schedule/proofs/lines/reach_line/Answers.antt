use Rattle.std.proofs.Common.{rules, ◌≡◌, ◌≤◌, ◌∙◌, length, subst, ap, sym, arith}
use Rattle.gs_bytes.proofs.Cases.{on_err}
use Rattle.gs_schedule.specs.Lines.{IsUnbroken, holds_line, most_line}
use Rattle.gs_schedule.proofs.LineText.{no_line_held}
use Rattle.gs_schedule.proofs.lines.reach_line.Goals as goal

pub returns-in_err-fill-clause-held : goal.returns-in_err-fill-clause-held
returns-in_err-fill-clause-held g c =
    let unbroken : IsUnbroken c.fills.held = subst IsUnbroken c.bytes.ensures c.in_default.ensures.none in
    let few : length c.fills.held ≤ most_line = omega (arith, ap length c.bytes-length.ensures, c.if-length-gt-MOST_LINE.false) in
    λ held. absurd (no_line_held c.fills.held unbroken few (c.fills.invariant.held held).0)

pub returns-in_err-fill-clause-unheld : goal.returns-in_err-fill-clause-unheld
returns-in_err-fill-clause-unheld g c =
    let unbroken : IsUnbroken c.fills.held = subst IsUnbroken c.bytes.ensures c.in_default.ensures.none in
    let few : length c.fills.held ≤ most_line = omega (arith, ap length c.bytes-length.ensures, c.if-length-gt-MOST_LINE.false) in
    on_err c.from_residual.result _ (λ held. no_line_held c.fills.held unbroken few (c.fills.invariant.held held).0)

pub returns-in_err-fill-clause-still_unheld : goal.returns-in_err-fill-clause-still_unheld
returns-in_err-fill-clause-still_unheld g c =
    let unbroken : IsUnbroken c.fills.held = subst IsUnbroken c.bytes.ensures c.in_default.ensures.none in
    let few : length c.fills.held ≤ most_line = omega (arith, ap length c.bytes-length.ensures, c.if-length-gt-MOST_LINE.false) in
    let same : c.fill.new.self ≡ c.fills.held = c.in_err-fill.ensures.err in
    on_err c.from_residual.result _ (λ held. no_line_held c.fills.held unbroken few (ap holds_line (sym same) ∙ held))

pub returns-then-not-branch-clause-held : goal.returns-then-not-branch-clause-held
returns-then-not-branch-clause-held g c =
    let unbroken : IsUnbroken c.fills.held = subst IsUnbroken c.bytes.ensures c.in_default.ensures.none in
    let few : length c.fills.held ≤ most_line = omega (arith, ap length c.bytes-length.ensures, c.if-length-gt-MOST_LINE.false) in
    λ held. absurd (no_line_held c.fills.held unbroken few (c.fills.invariant.held held).0)

pub fills-preserved : goal.fills-preserved
fills-preserved g c =
    let unbroken : IsUnbroken c.fills.held = subst IsUnbroken c.bytes.ensures c.in_default.ensures.none in
    let few : length c.fills.held ≤ most_line = omega (arith, ap length c.bytes-length.ensures, c.if-length-gt-MOST_LINE.false) in
    record {
      to_come = search rules;
      end = search rules;
      written = search rules;
      held = λ held. absurd (no_line_held c.fills.held unbroken few (c.fills.invariant.held held).0);
      counted = search rules;
    }
