use Rattle.std.specs.Prelude.{Option, IfOk, IfSome}
use Rattle.std.proofs.Common.{sym, subst}
use Rattle.gsbench.specs.declared.workload.Workload.{Workload}
use Rattle.gsbench.specs.Workloads.{IsJudgedBy, misfit_at}
use Rattle.gsbench.specs.Amounts.{ReportsOf}
use Rattle.gsbench.proofs.bench.run_named.Goals as goal

pub returns-in-Some-clause-usage : goal.returns-in-Some-clause-usage
returns-in-Some-clause-usage g c =
    let At : Option Workload → Type 0 = λ o. IsJudgedBy (misfit_at c.args.words.now o) c.run.result in
    subst At (sym c.in-Some.is) c.run.ensures.usage

pub returns-in-Some-clause-reports : goal.returns-in-Some-clause-reports
returns-in-Some-clause-reports g c =
    let At : Option Workload → Type 0 =
    λ o. IfOk c.run.result (λ report. IfSome o (λ named. ReportsOf c.args.words.now named report)) in
    subst At (sym c.in-Some.is) c.run.ensures.reports
