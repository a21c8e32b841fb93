use Rattle.std.proofs.Common.{◌≡◌, ◌∙◌, ℕ, List, Option, true, false, [], Err, refl, sym, ap, subst}
use Rattle.std.specs.Prelude.{is_some}
use Rattle.std.proofs.lemmas.Result.{err_from_is_err_and, IfErr-weaker, on_ok_weaker}
use Rattle.gs_trial.specs.Stepping.{refusal_of}
use Rattle.gs_bytes.proofs.Cases.{on_ok}
use Rattle.gs_trial.proofs.Keeping.{ready_still}
use Rattle.gs_trial.proofs.Leading.{same_stands}
use Rattle.gs_trial.proofs.Results.{err_both, not_of_run}
use Rattle.gs_trial.proofs.StepTexts.{ends_after, ends_at, ends_behind_it, ends_part, ends_told, ends_unknown, ran_behind, ran_step}
use Rattle.gs_tape.specs.declared.error.TapeError.TheVariants as tape_error
use Rattle.gs_trial.specs.declared.error.StepError.{StepError}
use Rattle.gs_trial.specs.declared.error.StepError.TheVariants as step_error
use Rattle.gs_trial.proofs.RunLines.{waiting_part}
use Rattle.gs_trial.proofs.Stopped.{fault_of_step, never_tape, whole_of}
use Rattle.gs_trial.proofs.Taking.{cut_step, taken_same}
use Rattle.std.specs.Io.KnownBytes.{Appends}
use Rattle.gs_trial.proofs.trial.Trial.run_step.Goals.{then-is_told+in_ok-write_text-in-Err, else-is_told}
use Rattle.gs_trial.proofs.trial.Trial.run_step.Goals as goal

pub returns-in_err-write_before_step-clause-ends : goal.returns-in_err-write_before_step-clause-ends
returns-in_err-write_before_step-clause-ends g c =
    let p = err_from_is_err_and c.from_residual.result c.from_residual.ensures.1 in
    let wrote = c.in_err-write_before_step.ensures in
    let before = c.args.self.now.reporter in
    rw (p.1, p.2) (λ file state stands.
    ends_unknown before file c.args.number c.args.step.now state _ _ c.in_err-write_before_step.field-0.0 (not_of_run _ wrote.cause)
    (waiting_part before _ _ _ wrote.cause wrote.err))

pub step-requires-clause-ready : goal.step-requires-clause-ready
step-requires-clause-ready g c = ready_still c.args.self.now c.write_before_step.new.self c.in_ok-write_before_step.ensures.kept c.requires.ready

pub returns-in_err-write_text-in-Err-clause-ends : goal.returns-in_err-write_text-in-Err-clause-ends
returns-in_err-write_text-in-Err-clause-ends g c =
    let p = err_from_is_err_and c.from_residual-in_err-write_text-in-Err.result c.from_residual-in_err-write_text-in-Err.ensures.1 in
    let first = c.in_ok-write_before_step.ensures in
    let wrote = c.in_err-write_text-in-Err.ensures in
    let here = c.write_before_step.new.self in
    rw (p.1, p.2) (λ file state stands.
    ends_behind_it c.args.self.now.reporter here.reporter file c.args.number c.args.step.now state _ _ _ c.in_err-write_text-in-Err.field-0.0
    first.kept.detail first.up_to
    (ends_told c.step.new.self here.reporter file c.args.number c.args.step.now state _ _ _ c.in_err-write_text-in-Err.field-0.0 c.in-Err.error
    (c.in-Err.ensures.ran file state (same_stands c.args.self.now here file _ state first.kept stands))
    (sym c.is_told.ensures ∙ c.if-is_told.true) wrote.cause wrote.err))

pub returns-in-Ok-clause-ran : goal.returns-in-Ok-clause-ran
returns-in-Ok-clause-ran g c =
    let first = c.in_ok-write_before_step.ensures in
    let here = c.write_before_step.new.self in
    on_ok_weaker c.write_piece.result
    (λ wrote. λ file state stands.
    ran_behind c.args.self.now.reporter here.reporter file c.args.step.now state _ _ _ _ c.write_piece.new.self first.kept.detail first.up_to
    (ran_step c.step.new.self c.write_piece.new.self here.reporter file c.args.step.now state _ _ _
    (c.in-Ok.ensures.ran file state (same_stands c.args.self.now here file _ state first.kept stands))
    c.write_piece.ensures.kept wrote))
    c.write_piece.ensures.up_to

pub returns-in-Ok-clause-ends : goal.returns-in-Ok-clause-ends
returns-in-Ok-clause-ends g c =
    let first = c.in_ok-write_before_step.ensures in
    let here = c.write_before_step.new.self in
    err_both c.write_piece.result _ _ _
    (λ answer wrote cause. λ file state stands.
    ends_behind_it c.args.self.now.reporter here.reporter file c.args.number c.args.step.now state _ _ _ answer first.kept.detail first.up_to
    (ends_part c.step.new.self here.reporter file c.args.number c.args.step.now state _ _ _ answer
    (c.in-Ok.ensures.ran file state (same_stands c.args.self.now here file _ state first.kept stands))
    cause wrote))
    c.write_piece.ensures.err c.write_piece.ensures.cause

pub returns-after-is_told-clause-ends : goal.returns-after-is_told-clause-ends
returns-after-is_told-clause-ends g c = λ file state stands.
    let e = c.in-Err.error in
    let first = c.in_ok-write_before_step.ensures in
    let here = c.write_before_step.new.self in
    let ran = c.in-Err.ensures.ran file state (same_stands c.args.self.now here file _ state first.kept stands) in
    let empty : e ≡ step_error.Tape tape_error.TapeFault → here.reporter.text ≡ [] =
    λ is. first.first (c.in-Err.ensures.only_cap (ap (λ (x : StepError). Err x) is)) in
    ends_behind_it c.args.self.now.reporter here.reporter file c.args.number c.args.step.now state _ _ _ _ first.kept.detail first.up_to
    (elim c.if-is_told.branch [
      | then-is_told+in_ok-write_text-in-Err w ↦
          let told : is_some (refusal_of e) ≡ true = sym c.is_told.ensures ∙ w.if-is_told.true in
          ends_at here.reporter file c.args.number c.args.step.now state _ _ _ _ _ (ap g.K.Outside.written w.out-is) c.step_status.ensures
          (ends_after c.step.new.self here.reporter file c.args.number c.args.step.now state _ _
          (g.K.Outside.written w.write_text.new.out) e ran
          (λ _. w.in_ok-write_text-in-Err.ensures.ok) (λ not. absurd (cc (told, not))) empty)
      | else-is_told w ↦
          let not : is_some (refusal_of e) ≡ false = sym c.is_told.ensures ∙ w.if-is_told.false in
          ends_at here.reporter file c.args.number c.args.step.now state _ _ _ _ _ (ap g.K.Outside.written w.out-is) c.step_status.ensures
          (ends_after c.step.new.self here.reporter file c.args.number c.args.step.now state _ _ (g.K.Outside.written c.write_before_step.new.out) e ran
          (λ told. absurd (cc (told, not))) (λ _. refl) empty)
    ])

pub returns-in-Ok-clause-ready : goal.returns-in-Ok-clause-ready
returns-in-Ok-clause-ready g c =
    on_ok c.write_piece.result _ (ready_still c.step.new.self c.write_piece.new.self c.write_piece.ensures.kept c.in-Ok.ensures.ready)

pub returns-in_err-write_before_step-clause-at_capture : goal.returns-in_err-write_before_step-clause-at_capture
returns-in_err-write_before_step-clause-at_capture g c =
    let p = err_from_is_err_and c.from_residual.result c.from_residual.ensures.1 in
    rw (p.1, p.2) (λ is. never_tape _ _ c.in_err-write_before_step.ensures.cause is)

pub returns-in_err-write_text-in-Err-clause-at_capture : goal.returns-in_err-write_text-in-Err-clause-at_capture
returns-in_err-write_text-in-Err-clause-at_capture g c =
    let p = err_from_is_err_and c.from_residual-in_err-write_text-in-Err.result c.from_residual-in_err-write_text-in-Err.ensures.1 in
    rw (p.1, p.2) (λ is. never_tape _ _ c.in_err-write_text-in-Err.ensures.cause is)

pub returns-in-Ok-clause-at_capture : goal.returns-in-Ok-clause-at_capture
returns-in-Ok-clause-at_capture g c = IfErr-weaker c.write_piece.result _ _ (λ answer cause is. never_tape answer _ cause is) c.write_piece.ensures.cause

pub returns-after-is_told-clause-at_capture : goal.returns-after-is_told-clause-at_capture
returns-after-is_told-clause-at_capture g c = λ is.
    let e = c.in-Err.error in
    let fault : e ≡ step_error.Tape tape_error.TapeFault = fault_of_step e c.args.number (sym c.step_status.ensures ∙ is) in
    let cap = c.in-Err.ensures.only_cap (ap (λ (x : StepError). Err x) fault) in
    let first = c.in_ok-write_before_step.ensures in
    let wrote = whole_of _ _ c.args.self.now.reporter.text c.write_before_step.new.self.reporter.text first.up_to (first.first cap) in
    let not : is_some (refusal_of e) ≡ false = ap (λ (x : StepError). is_some (refusal_of x)) fault in
    let At : Option (List ℕ) → Type 0 = λ o. Appends (g.K.Outside.written c.args.out.now) o c.args.self.now.reporter.text in (
      cap,
      elim c.if-is_told.branch [
        | then-is_told+in_ok-write_text-in-Err w ↦
            let told : is_some (refusal_of e) ≡ true = sym c.is_told.ensures ∙ w.if-is_told.true in
            absurd (cc (told, not))
        | else-is_told w ↦ subst At (sym (ap g.K.Outside.written w.out-is)) wrote
      ],
    )

pub returns-in-Ok-clause-taken : goal.returns-in-Ok-clause-taken
returns-in-Ok-clause-taken g c =
    let old = c.args.self.now.feed in
    let here = c.write_before_step.new.self.feed in
    let new = c.write_piece.new.self.feed in
    on_ok c.write_piece.result _ (λ bytes had.
    taken_same c.step.new.self.feed new bytes _ c.write_piece.ensures.kept.feed
    (c.in-Ok.ensures.bytes bytes (taken_same old here bytes _ c.in_ok-write_before_step.ensures.kept.feed had)))

pub returns-in_err-write_before_step-clause-cut : goal.returns-in_err-write_before_step-clause-cut
returns-in_err-write_before_step-clause-cut g c =
    let p = err_from_is_err_and c.from_residual.result c.from_residual.ensures.1 in
    rw (p.1, p.2) (λ is. never_tape _ _ c.in_err-write_before_step.ensures.cause is)

pub returns-in_err-write_text-in-Err-clause-cut : goal.returns-in_err-write_text-in-Err-clause-cut
returns-in_err-write_text-in-Err-clause-cut g c =
    let p = err_from_is_err_and c.from_residual-in_err-write_text-in-Err.result c.from_residual-in_err-write_text-in-Err.ensures.1 in
    rw (p.1, p.2) (λ is. never_tape _ _ c.in_err-write_text-in-Err.ensures.cause is)

pub returns-in-Ok-clause-cut : goal.returns-in-Ok-clause-cut
returns-in-Ok-clause-cut g c = IfErr-weaker c.write_piece.result _ _ (λ answer cause is. never_tape answer _ cause is) c.write_piece.ensures.cause

pub returns-after-is_told-clause-cut : goal.returns-after-is_told-clause-cut
returns-after-is_told-clause-cut g c = λ is bytes had.
    let e = c.in-Err.error in
    let fault : e ≡ step_error.Tape tape_error.TapeFault = fault_of_step e c.args.number (sym c.step_status.ensures ∙ is) in
    cut_step e bytes c.args.self.now.feed c.write_before_step.new.self.feed c.step.new.self.feed _ _ c.in_ok-write_before_step.ensures.kept.feed fault
    (c.in-Err.ensures.bytes bytes) had
