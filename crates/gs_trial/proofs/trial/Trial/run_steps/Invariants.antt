use Rattle.std.proofs.Common.{◌≡◌, ◌+◌, drop}
use Rattle.gs_run.specs.CaptureFile.{CaptureFile}
use Rattle.gs_run.specs.Run.{IsStep}
use Rattle.gs_run.specs.Session.{State}
use Rattle.gs_trial.specs.Standing.{IsReady, IsTrialOf}
use Rattle.gs_trial.specs.Running.{LedTo}
use Rattle.gs_trial.proofs.trial.Trial.run_steps.Given as goal

abbrev pub invariant-steps : goal.invariant-steps
invariant-steps g l =
    let tape = g.S.Outside in
    let out = g.K.Outside in
    record {
      ready : IsReady l.self;
      led : (file : CaptureFile) (state : State) → IsTrialOf l.fn.self file (tape.left l.fn.tape) state
          → LedTo IsStep l.fn.self.reporter file 1 l.steps state (out.written l.fn.out) (out.written l.out) (l.place + 1) (drop l.place l.steps) l.self
          (tape.left l.tape);
      tape_faults : tape.faults l.tape ≡ tape.faults l.fn.tape;
      write_faults : out.faults l.out ≡ out.faults l.fn.out;
    }
