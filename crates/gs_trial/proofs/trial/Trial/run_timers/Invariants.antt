use Rattle.std.proofs.Common.{◌≡◌, List, length}
use Rattle.gs_tape.specs.Tick.{Tick}
use Rattle.gs_run.specs.Session.{RunSession}
use Rattle.gs_report.specs.Reporting.{Did}
use Rattle.gs_trial.specs.Standing.{AreSessions, IsReady}
use Rattle.gs_trial.proofs.Timers.{timed_to}
use Rattle.gs_trial.proofs.trial.Trial.run_timers.Given as goal

abbrev pub invariant-sessions : goal.invariant-sessions
invariant-sessions l = record {
  ready : IsReady l.self;
  feed : (l.self.feed ≡ l.fn.self.feed) × (l.self.moment ≡ l.fn.self.moment);
  long : length l.self.sessions.items ≡ length l.fn.self.sessions.items;
  timed : (ticks : List Tick) (sessions : List RunSession) → AreSessions ticks 1 l.fn.self.sessions.items sessions
      → Did (AreSessions ticks 1 l.self.sessions.items) (timed_to 1 l.fn.moment l.place sessions) l.fn.self.reporter l.self.reporter;
}
