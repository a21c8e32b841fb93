use Rattle.std.proofs.Common.{◌∙◌}
use Rattle.std.proofs.lemmas.Result.{err_from_is_err_and}
use Rattle.gs_trial.proofs.OfSteps.{steps_end, steps_next}
use Rattle.gs_trial.proofs.trial.Trial.run_steps.Goals as goal

pub steps-preserved : goal.steps-preserved
steps-preserved g c =
    let inv = c.steps.invariant in
    let ran = c.in_ok-run_step.ensures in
    record {
      ready = ran.ready;
      led = λ file state stands.
          steps_next c.args.self.now.reporter file c.args.steps.now c.steps.place _ state _ _ _ c.steps.self c.run_step.new.self _ _ c.steps-test.true
          (inv.led file state stands) (λ t there. ran.ran file t there);
      tape_faults = ran.tape_faults ∙ inv.tape_faults;
      write_faults = ran.write_faults ∙ inv.write_faults;
    }

pub returns-in_err-run_step-clause-ends : goal.returns-in_err-run_step-clause-ends
returns-in_err-run_step-clause-ends g c =
    let p = err_from_is_err_and c.from_residual.result c.from_residual.ensures.1 in
    rw (p.1, p.2) (λ file state stands.
    steps_end c.args.self.now.reporter file c.args.steps.now c.steps.place _ state _ _ _ c.steps.self _ c.in_err-run_step.field-0.0
    c.steps-test.true (c.steps.invariant.led file state stands) (λ t there. c.in_err-run_step.ensures.ends file t there))
