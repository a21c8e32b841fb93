use Rattle.std.proofs.Common.{Some, subst}
use Rattle.std.proofs.lemmas.Result.{IfErr-weaker, on_ok_weaker}
use Rattle.gs_schedule.specs.declared.step.Step.{Step}
use Rattle.gs_run.specs.Line.{HasStep}
use Rattle.gs_trial.proofs.Leading.{ends_bad}
use Rattle.gs_trial.proofs.Proper.{proper}
use Rattle.gs_trial.proofs.RunLines.{ends_line, has_none, has_step, led_line}
use Rattle.gs_trial.proofs.trial.Trial.run_line.Goals as goal

pub run_step-requires-clause-proper : goal.run_step-requires-clause-proper
run_step-requires-clause-proper g c = proper c.as_bytes.result.now c.in-Some.step ((c.read_line.ensures c.in-Some.step).0 c.in-Some.is)

pub returns-in_default-clause-ends : goal.returns-in_default-clause-ends
returns-in_default-clause-ends g c = λ file state rest stands.
    ends_bad c.args.self.now.reporter file c.args.line.now.number c.args.line.now.bytes rest state _ _ _
    (has_none c.args.line.now.number c.args.line.now.bytes c.as_bytes.result.now c.read_line.result c.as_bytes.ensures c.in_default.is c.read_line.ensures)
    (c.end_at.ensures.ends state)

pub returns-clause-led : goal.returns-clause-led
returns-clause-led g c =
    on_ok_weaker c.run_step.result
    (λ ran. λ file state rest stands.
    led_line c.args.self.now.reporter file c.args.line.now.number c.args.line.now.bytes rest state c.in-Some.step _ _ _ c.run_step.new.self
    (has_step c.args.line.now.number c.args.line.now.bytes c.as_bytes.result.now c.read_line.result c.in-Some.step c.as_bytes.ensures c.in-Some.is
    c.read_line.ensures c.requires.short c.requires.numbered)
    (ran file state stands))
    c.run_step.ensures.ran

pub returns-clause-ends : goal.returns-clause-ends
returns-clause-ends g c =
    IfErr-weaker c.run_step.result _ _
    (λ answer ends. λ file state rest stands.
    ends_line c.args.self.now.reporter file c.args.line.now.number c.args.line.now.bytes rest state c.in-Some.step _ _ answer
    (has_step c.args.line.now.number c.args.line.now.bytes c.as_bytes.result.now c.read_line.result c.in-Some.step c.as_bytes.ensures c.in-Some.is
    c.read_line.ensures c.requires.short c.requires.numbered)
    (ends file state stands))
    c.run_step.ensures.ends

pub returns-in_default-clause-at_capture : goal.returns-in_default-clause-at_capture
returns-in_default-clause-at_capture g c = λ is. absurd (c.end_at.ensures.not_of_source.0 is)

pub returns-clause-at_capture : goal.returns-clause-at_capture
returns-clause-at_capture g c =
    let number = c.args.line.now.number in
    let bytes = c.args.line.now.bytes in
    IfErr-weaker c.run_step.result _ _
    (λ answer at. λ is. (
      subst (λ (s : Step). HasStep number bytes (Some s)) (at is).0
          (has_step number bytes c.as_bytes.result.now c.read_line.result c.in-Some.step c.as_bytes.ensures c.in-Some.is
          c.read_line.ensures c.requires.short c.requires.numbered),
      (at is).1,
    ))
    c.run_step.ensures.at_capture

pub returns-clause-taken : goal.returns-clause-taken
returns-clause-taken g c = c.run_step.ensures.taken

pub returns-in_default-clause-cut : goal.returns-in_default-clause-cut
returns-in_default-clause-cut g c = λ is. absurd (c.end_at.ensures.not_of_source.0 is)

pub returns-clause-cut : goal.returns-clause-cut
returns-clause-cut g c = c.run_step.ensures.cut
