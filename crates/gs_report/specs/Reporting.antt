-- What a reporter collected, and what it adds.
use Rattle.std.specs.Prelude.{◌≡◌, ℕ, List, ◌++◌, Option, Some, None}
use Rattle.std.specs.Borrow.{Bor}
use Rattle.gs_command.specs.declared.command.Detail.{Detail}
use Rattle.gs_run.specs.Report.{Report, Acted, text_of}

-- how much is written, and the text so far
pub record Reporting : Type 0 where
  pub detail : Detail
  pub text : List ℕ

-- the text of these reports stands behind what was collected
abbrev pub with_reports : Reporting → List Report → Reporting
with_reports before reports = record before { text = before.text ++ text_of before.detail reports }

-- the unit that goes with a line, where there is one
abbrev pub unit_now : Option (Bor (List ℕ)) → Option (List ℕ)
unit_now None = None
unit_now (Some unit) = Some unit.now

-- Something was done in a run: a value stands for what it left, and its reports were added.
pub record Did {A : Type 0} (Stands : A → Type 0) (did : Acted A) (before now : Reporting) : Type 0 where
  pub stands : Stands did.value
  pub text : now ≡ with_reports before did.reports
