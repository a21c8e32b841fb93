use Rattle.std.proofs.Common.{◌≡◌, ◌-◌, ◌^◌, ℕ, List, Some}
use Rattle.gs_bytes.specs.Outside.{KeepsFlag}
use Rattle.gs_schedule.specs.Lines.{TellsFlag}
use Rattle.gs_run.specs.CaptureFile.{CaptureFile}
use Rattle.gs_run.specs.Session.{State}
use Rattle.gs_trial.specs.Standing.{FeedHasTaken, IsReady, IsTrialOf}
use Rattle.gs_trial.proofs.RunLines.{LedOn}
use Rattle.gs_trial.proofs.trial.Trial.run_lines.Given as goal

abbrev pub decreases-lines : goal.decreases-lines
decreases-lines g l = 2 ^ 32 - 1 - l.lines.given

abbrev pub invariant-lines : goal.invariant-lines
invariant-lines g l =
    let tape = g.S.Outside in
    let schedule = g.T.Outside in
    let out = g.K.Outside in
    record {
      ready : IsReady l.self;
      led : (file : CaptureFile) (state : State) (bytes : List ℕ) → IsTrialOf l.fn.self file (tape.left l.fn.tape) state
          → schedule.left l.fn.schedule ≡ Some bytes
          → LedOn l.fn.self.reporter file bytes state (out.written l.fn.out) (out.written l.out) l.lines (schedule.left l.schedule) l.self
          (tape.left l.tape);
      taken : (bytes : List ℕ) → FeedHasTaken bytes l.fn.self.feed (tape.left l.fn.tape) → FeedHasTaken bytes l.self.feed (tape.left l.tape);
      tells : TellsFlag (schedule.met_end l.fn.schedule) (schedule.met_end l.schedule);
      not_met : KeepsFlag (tape.met_end l.fn.tape) (tape.met_end l.tape);
      tape_faults : tape.faults l.tape ≡ tape.faults l.fn.tape;
      schedule_faults : schedule.faults l.schedule ≡ schedule.faults l.fn.schedule;
      write_faults : out.faults l.out ≡ out.faults l.fn.out;
    }
