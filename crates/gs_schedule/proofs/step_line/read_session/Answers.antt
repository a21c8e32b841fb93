use Rattle.std.proofs.Common.{◌≡◌}
use Rattle.gs_schedule.specs.declared.keyword.Keyword.TheVariants as keyword
use Rattle.gs_schedule.proofs.Keywords.{says}
use Rattle.gs_schedule.proofs.step_line.read_session.Goals as goal

pub returns-in_err-minimum-clause-none : goal.returns-in_err-minimum-clause-none
returns-in_err-minimum-clause-none c =
    rw c.from_residual-in_err-minimum.ensures (λ step h.
    let s = says keyword.Session c.args.words step h in
    let first = c.in_ok-packet.ensures.found.1 in
    let second = c.in_ok-percentage.ensures.found.1 in
    let words = s.9 in
    c.in_err-minimum.ensures.none s.2 s.4 (s.8, cc))

pub returns-in_err-window-clause-none : goal.returns-in_err-window-clause-none
returns-in_err-window-clause-none c =
    rw c.from_residual-in_err-window.ensures (λ step h.
    let s = says keyword.Session c.args.words step h in
    let first = c.in_ok-packet.ensures.found.1 in
    let second = c.in_ok-percentage.ensures.found.1 in
    let third = c.in_ok-minimum.ensures.found.1 in
    let words = s.9 in
    let rest : c.next_number-3.new.words ≡ s.4 = cc in
    c.in_err-window.ensures.none s.3 (rw rest s.10))
