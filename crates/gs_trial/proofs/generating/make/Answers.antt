use Rattle.std.proofs.Common.{◌∙◌, ◌<◌, ◌-◌, ◌^◌, List, length, subst, sym}
use Rattle.std.specs.List.{All}
use Rattle.std.proofs.lemmas.Result.{err_from_is_err_and}
use Rattle.gs_schedule.specs.declared.step.Step.{Step}
use Rattle.gs_trial.specs.Stepping.{IsStepAllowed}
use Rattle.gs_trial.proofs.GeneratedSteps.{few_steps, proper_steps}
use Rattle.gs_trial.proofs.Made.{make_ends, make_finishes, unmade}
use Rattle.gs_trial.proofs.generating.make.Goals as goal

pub returns-in_default-clause-answers : goal.returns-in_default-clause-answers
returns-in_default-clause-answers g c = unmade c.whole_runs_hold.ensures.generated c.args.generated.number c.args.generated.ticks c.requires.few _

pub returns-in_default-open-clause-answers : goal.returns-in_default-open-clause-answers
returns-in_default-open-clause-answers g c = unmade c.whole_runs_hold.ensures.generated c.args.generated.number c.args.generated.ticks c.requires.few _

pub returns-in_default-open-2-clause-answers : goal.returns-in_default-open-2-clause-answers
returns-in_default-open-2-clause-answers g c = unmade c.whole_runs_hold.ensures.generated c.args.generated.number c.args.generated.ticks c.requires.few _

pub run_steps-requires-clause-proper : goal.run_steps-requires-clause-proper
run_steps-requires-clause-proper g c =
    subst (λ (l : List Step). All IsStepAllowed l) (sym (c.deref.ensures.value ∙ c.in-Ok.ensures.steps)) (proper_steps c.args.generated.ticks)

pub run_steps-requires-clause-few : goal.run_steps-requires-clause-few
run_steps-requires-clause-few g c =
    subst (λ (l : List Step). length l < 2 ^ 32 - 1) (sym (c.deref.ensures.value ∙ c.in-Ok.ensures.steps)) (few_steps c.args.generated.ticks c.requires.few)

pub returns-in_err-run_steps-clause-answers : goal.returns-in_err-run_steps-clause-answers
returns-in_err-run_steps-clause-answers g c =
    let p = err_from_is_err_and c.from_residual.result c.from_residual.ensures.1 in
    let trial = c.new-trial.result in
    rw (p.1, p.2)
    (make_ends c.whole_runs_hold.ensures.generated c.args.generated.number c.args.generated.ticks trial.reporter c.in-Ok-open.file.left
    c.deref.result.now c.in-Ok-open-2.feed trial (g.K.Outside.written c.args.out.now) (g.K.Outside.written c.run_steps.new.out) _
    c.in_err-run_steps.field-0.0 c.requires.few c.in-Ok-open.ensures (c.deref.ensures.value ∙ c.in-Ok.ensures.steps) c.new-trial.ensures.text
    c.in-Ok-open-2.ensures.opens c.new-trial.ensures.stands c.in_err-run_steps.ensures.ends)

pub returns-clause-answers : goal.returns-clause-answers
returns-clause-answers g c =
    let trial = c.new-trial.result in
    make_finishes c.whole_runs_hold.ensures.generated c.args.generated.number c.args.generated.ticks trial.reporter c.in-Ok-open.file.left
    c.deref.result.now c.in-Ok-open-2.feed trial c.run_steps.new.self (g.K.Outside.written c.args.out.now)
    (g.K.Outside.written c.run_steps.new.out) (g.K.Outside.written c.finish.new.out) _ _ _ c.requires.few
    c.in-Ok-open.ensures (c.deref.ensures.value ∙ c.in-Ok.ensures.steps) c.new-trial.ensures.text c.in-Ok-open-2.ensures.opens c.new-trial.ensures.stands
    c.in_ok-run_steps.ensures.led c.finish.ensures.finishes
