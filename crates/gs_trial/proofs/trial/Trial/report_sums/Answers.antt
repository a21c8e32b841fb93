use Rattle.std.proofs.Common.{◌≡◌, ◌<◌, ◌≤◌, ◌∙◌, refl, length, sym, subst, arith}
use Rattle.std.proofs.lemmas.Result.{on_ok_weaker}
use Rattle.gs_trial.specs.Standing.{AreSessions}
use Rattle.gs_trial.proofs.Sums.{sums_all, sums_more}
use Rattle.gs_trial.proofs.trial.Trial.report_sums.Goals as goal

pub sessions-preserved : goal.sessions-preserved
sessions-preserved c =
    let inv = c.sessions.invariant in
    let items = c.sessions.self.sessions.items in
    let same : length items ≡ length c.args.self.now.sessions.items = rw inv.sessions refl in
    let within : c.sessions.place < length items = omega arith in
    record {
      sessions = inv.sessions;
      detail = c.in_ok-report.ensures.detail ∙ inv.detail;
      sums = λ ticks ss are.
          let here = subst (λ v. AreSessions ticks 1 v.items ss) (sym inv.sessions) are in
          sums_more ticks c.sessions.place items ss c.index.result.now c.sums-sums.result c.args.self.now.reporter c.sessions.self.reporter c.report.new.self
          here
          (inv.sums ticks ss are) within c.index.ensures c.sums-sums.ensures c.in_ok-report.ensures.ok;
    }

pub returns-clause-sums : goal.returns-clause-sums
returns-clause-sums c =
    let items = c.args.self.now.sessions.items in
    let past : length items ≤ c.sessions.place = omega arith in
    on_ok_weaker c.report-2.result
    (λ done. λ ticks ss are. sums_all ticks c.sessions.place items ss c.args.self.now.reporter c.sessions.self.reporter c.report-2.new.self are
    (c.sessions.invariant.sums ticks ss are) past done) c.report-2.ensures.ok
