use Rattle.std.specs.Prelude.{List, String, Result, IfOk}
use Rattle.std.proofs.Common.{sym, subst}
use Rattle.std.specs.declared.alloc.Global.{Global}
use Rattle.gsbench.specs.declared.report.Report.{Report}
use Rattle.gsbench.specs.declared.report.Stop.{Stop}
use Rattle.gsbench.specs.declared.workload.Workload.{Workload}
use Rattle.gsbench.specs.Workloads.{AreWordsJudged, limits_of}
use Rattle.gsbench.specs.Amounts.{ReportsOf}
use Rattle.gsbench.proofs.bench.run.Goals as goal

-- the answer is judged by the words of a workload
abbrev IsJudgedAs : List (String Global) → Result Report Stop → Workload → Type 0
IsJudgedAs words result workload = AreWordsJudged (limits_of words workload) words result

-- what is reported is that of a workload
abbrev ReportsAs : List (String Global) → Result Report Stop → Workload → Type 0
ReportsAs words result workload = IfOk result (λ report. ReportsOf words workload report)

pub returns-in-MulAdd-clause-usage : goal.returns-in-MulAdd-clause-usage
returns-in-MulAdd-clause-usage g c =
    subst (IsJudgedAs c.args.words.now c.run.result) (sym c.in-MulAdd.is) c.run.ensures.usage

pub returns-in-Encode-clause-usage : goal.returns-in-Encode-clause-usage
returns-in-Encode-clause-usage g c =
    subst (IsJudgedAs c.args.words.now c.run_encode.result) (sym c.in-Encode.is) c.run_encode.ensures.usage

pub returns-in-Parity-clause-usage : goal.returns-in-Parity-clause-usage
returns-in-Parity-clause-usage g c =
    subst (IsJudgedAs c.args.words.now c.run_parity.result) (sym c.in-Parity.is) c.run_parity.ensures.usage

pub returns-in-Restore-clause-usage : goal.returns-in-Restore-clause-usage
returns-in-Restore-clause-usage g c =
    subst (IsJudgedAs c.args.words.now c.run_restore.result) (sym c.in-Restore.is) c.run_restore.ensures.usage

pub returns-in-Messages-clause-usage : goal.returns-in-Messages-clause-usage
returns-in-Messages-clause-usage g c =
    subst (IsJudgedAs c.args.words.now c.run-in-Messages.result) (sym c.in-Messages.is) c.run-in-Messages.ensures.usage

pub returns-in-Receive-clause-usage : goal.returns-in-Receive-clause-usage
returns-in-Receive-clause-usage g c =
    subst (IsJudgedAs c.args.words.now c.run-in-Receive.result) (sym c.in-Receive.is) c.run-in-Receive.ensures.usage

pub returns-in-Split-clause-usage : goal.returns-in-Split-clause-usage
returns-in-Split-clause-usage g c =
    subst (IsJudgedAs c.args.words.now c.run_split.result) (sym c.in-Split.is) c.run_split.ensures.usage

pub returns-in-Tape-clause-usage : goal.returns-in-Tape-clause-usage
returns-in-Tape-clause-usage g c =
    subst (IsJudgedAs c.args.words.now c.run-in-Tape.result) (sym c.in-Tape.is) c.run-in-Tape.ensures.usage

pub returns-in-TapeHeld-clause-usage : goal.returns-in-TapeHeld-clause-usage
returns-in-TapeHeld-clause-usage g c =
    subst (IsJudgedAs c.args.words.now c.run_held.result) (sym c.in-TapeHeld.is) c.run_held.ensures.usage

pub returns-in-Choose-clause-usage : goal.returns-in-Choose-clause-usage
returns-in-Choose-clause-usage g c =
    subst (IsJudgedAs c.args.words.now c.run-in-Choose.result) (sym c.in-Choose.is) c.run-in-Choose.ensures.usage

pub returns-in-Turns-clause-usage : goal.returns-in-Turns-clause-usage
returns-in-Turns-clause-usage g c =
    subst (IsJudgedAs c.args.words.now c.run-in-Turns.result) (sym c.in-Turns.is) c.run-in-Turns.ensures.usage

pub returns-in-Views-clause-usage : goal.returns-in-Views-clause-usage
returns-in-Views-clause-usage g c =
    subst (IsJudgedAs c.args.words.now c.run-in-Views.result) (sym c.in-Views.is) c.run-in-Views.ensures.usage

pub returns-in-Take-clause-usage : goal.returns-in-Take-clause-usage
returns-in-Take-clause-usage g c =
    subst (IsJudgedAs c.args.words.now c.run-in-Take.result) (sym c.in-Take.is) c.run-in-Take.ensures.usage

pub returns-in-New-clause-usage : goal.returns-in-New-clause-usage
returns-in-New-clause-usage g c =
    subst (IsJudgedAs c.args.words.now c.run-in-New.result) (sym c.in-New.is) c.run-in-New.ensures.usage

pub returns-in-MulAdd-clause-reports : goal.returns-in-MulAdd-clause-reports
returns-in-MulAdd-clause-reports g c =
    subst (ReportsAs c.args.words.now c.run.result) (sym c.in-MulAdd.is) c.run.ensures.reports

pub returns-in-Encode-clause-reports : goal.returns-in-Encode-clause-reports
returns-in-Encode-clause-reports g c =
    subst (ReportsAs c.args.words.now c.run_encode.result) (sym c.in-Encode.is) c.run_encode.ensures.reports

pub returns-in-Parity-clause-reports : goal.returns-in-Parity-clause-reports
returns-in-Parity-clause-reports g c =
    subst (ReportsAs c.args.words.now c.run_parity.result) (sym c.in-Parity.is) c.run_parity.ensures.reports

pub returns-in-Restore-clause-reports : goal.returns-in-Restore-clause-reports
returns-in-Restore-clause-reports g c =
    subst (ReportsAs c.args.words.now c.run_restore.result) (sym c.in-Restore.is) c.run_restore.ensures.reports

pub returns-in-Messages-clause-reports : goal.returns-in-Messages-clause-reports
returns-in-Messages-clause-reports g c =
    subst (ReportsAs c.args.words.now c.run-in-Messages.result) (sym c.in-Messages.is) c.run-in-Messages.ensures.reports

pub returns-in-Receive-clause-reports : goal.returns-in-Receive-clause-reports
returns-in-Receive-clause-reports g c =
    subst (ReportsAs c.args.words.now c.run-in-Receive.result) (sym c.in-Receive.is) c.run-in-Receive.ensures.reports

pub returns-in-Split-clause-reports : goal.returns-in-Split-clause-reports
returns-in-Split-clause-reports g c =
    subst (ReportsAs c.args.words.now c.run_split.result) (sym c.in-Split.is) c.run_split.ensures.reports

pub returns-in-Tape-clause-reports : goal.returns-in-Tape-clause-reports
returns-in-Tape-clause-reports g c =
    subst (ReportsAs c.args.words.now c.run-in-Tape.result) (sym c.in-Tape.is) c.run-in-Tape.ensures.reports

pub returns-in-TapeHeld-clause-reports : goal.returns-in-TapeHeld-clause-reports
returns-in-TapeHeld-clause-reports g c =
    subst (ReportsAs c.args.words.now c.run_held.result) (sym c.in-TapeHeld.is) c.run_held.ensures.reports

pub returns-in-Choose-clause-reports : goal.returns-in-Choose-clause-reports
returns-in-Choose-clause-reports g c =
    subst (ReportsAs c.args.words.now c.run-in-Choose.result) (sym c.in-Choose.is) c.run-in-Choose.ensures.reports

pub returns-in-Turns-clause-reports : goal.returns-in-Turns-clause-reports
returns-in-Turns-clause-reports g c =
    subst (ReportsAs c.args.words.now c.run-in-Turns.result) (sym c.in-Turns.is) c.run-in-Turns.ensures.reports

pub returns-in-Views-clause-reports : goal.returns-in-Views-clause-reports
returns-in-Views-clause-reports g c =
    subst (ReportsAs c.args.words.now c.run-in-Views.result) (sym c.in-Views.is) c.run-in-Views.ensures.reports

pub returns-in-Take-clause-reports : goal.returns-in-Take-clause-reports
returns-in-Take-clause-reports g c =
    subst (ReportsAs c.args.words.now c.run-in-Take.result) (sym c.in-Take.is) c.run-in-Take.ensures.reports

pub returns-in-New-clause-reports : goal.returns-in-New-clause-reports
returns-in-New-clause-reports g c =
    subst (ReportsAs c.args.words.now c.run-in-New.result) (sym c.in-New.is) c.run-in-New.ensures.reports
