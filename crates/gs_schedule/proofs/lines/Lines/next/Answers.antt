use Rattle.std.proofs.Common.{ℕ, ◌+◌, min, List, ◌++◌, length, take, drop, Ok, Some, Option, Result, ap, sym, ◌∙◌}
use Rattle.gs_schedule.specs.Lines.{LinesState, lines_of, next_line}
use Rattle.gs_schedule.specs.declared.line.Line.{Line}
use Rattle.gs_schedule.proofs.LineText.{told, none_to_come, refused_line, given_line, others}
use Rattle.gs_schedule.proofs.lines.Lines.next.Goals as goal

pub returns-in_default-clause-given : goal.returns-in_default-clause-given
returns-in_default-clause-given g c =
    let none = rw c.in_default.is at c.in_ok-length.ensures.none in
    let end = rw c.in_default.is at c.in_ok-length.ensures.end in
    told _ _ _ _ _ _ (ap (λ (s : LinesState). s.held) c.self.view_is) c.reach_line.ensures.to_come (λ more is. none_to_come _ _ more none (rw is at end))

pub returns-then-is_refused-clause-given : goal.returns-then-is_refused-clause-given
returns-then-is_refused-clause-given g c =
    let front = rw c.in-Some.is at c.in_ok-length.ensures.front in
    let held = c.reach_line.new.held in
    let given = sym (ap (λ (s : LinesState). s.given) c.self.view_is) in
    told _ _ _ _ _ _ (ap (λ (s : LinesState). s.held) c.self.view_is) c.reach_line.ensures.to_come (λ more is.
    ap (λ (n : ℕ). next_line n (lines_of (held ++ more))) given
    ∙ refused_line c.self.inside.given c.in-Some.length held more (rw is at front) (sym c.is_refused.ensures ∙ c.if-is_refused.true))

pub returns-clause-given : goal.returns-clause-given
returns-clause-given g c =
    let front = rw c.in-Some.is at c.in_ok-length.ensures.front in
    let held = c.reach_line.new.held in
    let count = c.in-Some.length in
    let given = sym (ap (λ (s : LinesState). s.given) c.self.view_is) in
    let line : List ℕ → Result (Option Line) ℕ = λ xs. Ok (Some (record { number = c.self.inside.given + 1; bytes = xs })) in
    let bytes = sym (c.in_ok-bytes.ensures ∙ ap (λ (xs : List ℕ). take count xs) c.bytes.ensures) in
    told _ _ _ _ _ _ (ap (λ (s : LinesState). s.held) c.self.view_is) c.reach_line.ensures.to_come (λ more is.
    ap (λ (n : ℕ). next_line n (lines_of (held ++ more))) given
    ∙ given_line c.self.inside.given count held more (rw is at front) (sym c.is_refused.ensures ∙ c.if-is_refused.false)
    ∙ ap line bytes)

pub returns-clause-others : goal.returns-clause-others
returns-clause-others g c =
    let front = rw c.in-Some.is at c.in_ok-length.ensures.front in
    let held = c.reach_line.new.held in
    let count = c.in-Some.length in
    let used = c.skip.ensures ∙ ap (λ (n : ℕ). drop n held) (c.min-used.ensures ∙ ap (λ (xs : List ℕ). min (length xs) (count + 1)) c.bytes-2.ensures) in
    let bytes = c.in_ok-bytes.ensures ∙ ap (λ (xs : List ℕ). take count xs) c.bytes.ensures in
    others _ _ _ _ _ _ _ count _ (ap (λ (s : LinesState). s.held) c.self.view_is) c.reach_line.ensures.to_come front
    (sym c.is_refused.ensures ∙ c.if-is_refused.false) used bytes
