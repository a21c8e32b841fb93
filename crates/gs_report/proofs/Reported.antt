-- The text of reports, one list behind another.
use Rattle.std.proofs.Common.{◌≡◌, ℕ, List, [], ◌++◌, sym, ap, ◌∙◌}
use Rattle.std.proofs.lemmas.List.{append-nil, append_assoc}
use Rattle.std.proofs.lemmas.Grind.{flat_map-append}
use Rattle.gs_run.specs.Report.{Report, report_text, text_of}
use Rattle.gs_report.specs.Reporting.{Reporting, with_reports}

-- nothing is added
pub with_none : (before : Reporting) → with_reports before [] ≡ before
with_none before = ap (λ (text : List ℕ). record before { text = text }) (append-nil before.text)

pub with_more : (before : Reporting) (first second : List Report)
    → with_reports (with_reports before first) second ≡ with_reports before (first ++ second)
with_more before first second =
    let one : List ℕ = text_of before.detail first in
    let two : List ℕ = text_of before.detail second in
    let e : before.text ++ one ++ two ≡ before.text ++ text_of before.detail (first ++ second) =
    append_assoc before.text one two
    ∙ ap (λ (l : List ℕ). before.text ++ l) (sym (flat_map-append (report_text before.detail) first second)) in
    ap (λ (text : List ℕ). record before { text = text }) e

-- what was reported, and then more
pub then_more : (before now after : Reporting) (first second : List Report) → now ≡ with_reports before first
    → after ≡ with_reports now second → after ≡ with_reports before (first ++ second)
then_more before now after first second a b =
    b ∙ ap (λ (r : Reporting). with_reports r second) a ∙ with_more before first second
