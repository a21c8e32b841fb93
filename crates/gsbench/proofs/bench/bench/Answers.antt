use Rattle.std.specs.Prelude.{IfOk, IfSome}
use Rattle.std.proofs.Common.{Option, ap, subst, ◌∙◌}
use Rattle.gsbench.specs.declared.workload.Workload.{Workload}
use Rattle.gsbench.specs.Workloads.{IsJudgedBy, misfit_at, workload_named}
use Rattle.gsbench.specs.Amounts.{ReportsOf}
use Rattle.gsbench.proofs.bench.bench.Goals as goal

pub returns-clause-usage : goal.returns-clause-usage
returns-clause-usage g c =
    let At : Option Workload → Type 0 = λ o. IsJudgedBy (misfit_at c.args.words.now o) c.run_named.result in
    subst At (c.workload_named.ensures ∙ ap workload_named c.first_word.ensures) c.run_named.ensures.usage

pub returns-clause-reports : goal.returns-clause-reports
returns-clause-reports g c =
    let At : Option Workload → Type 0 =
    λ o. IfOk c.run_named.result (λ report. IfSome o (λ named. ReportsOf c.args.words.now named report)) in
    subst At (c.workload_named.ensures ∙ ap workload_named c.first_word.ensures) c.run_named.ensures.reports
