use Rattle.std.proofs.Common.{◌≡◌, List, take}
use Rattle.gs_tape.specs.Tick.{Tick}
use Rattle.gs_run.specs.Session.{RunSession}
use Rattle.gs_run.specs.Totals.{totals_from}
use Rattle.gs_report.specs.Reporting.{with_reports}
use Rattle.gs_trial.specs.Standing.{AreSessions}
use Rattle.gs_trial.proofs.trial.Trial.report_sums.Given as goal

abbrev pub invariant-sessions : goal.invariant-sessions
invariant-sessions l = record {
  sessions : l.self.sessions ≡ l.fn.self.sessions;
  detail : l.self.reporter.detail ≡ l.fn.self.reporter.detail;
  sums : (ticks : List Tick) (sessions : List RunSession) → AreSessions ticks 1 l.fn.self.sessions.items sessions
      → l.self.reporter ≡ with_reports l.fn.self.reporter (totals_from 1 (take l.place sessions));
}
