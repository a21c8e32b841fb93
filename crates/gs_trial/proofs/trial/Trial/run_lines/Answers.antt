use Rattle.std.proofs.Common.{◌≡◌, ◌∙◌, ℕ, List, [], Ok, Err, inl, inr, refl, sym, ap, subst}
use Rattle.std.proofs.lemmas.Result.{err_from_is_err_and}
use Rattle.gs_bytes.proofs.StreamLemmas.{KeepsFlag-trans, KeepsFlag-refl}
use Rattle.gs_schedule.specs.Lines.{LinesState}
use Rattle.gs_schedule.proofs.Flags.{TellsFlag-refl, TellsFlag-trans, told_then_set}
use Rattle.gs_trial.proofs.Counting.{counts_none}
use Rattle.gs_trial.proofs.Results.{not_of_run, not_of_source}
use Rattle.gs_trial.proofs.Stopped.{neither, stops_more, stops_not, stops_read}
use Rattle.gs_trial.proofs.Taking.{taken_same}
use Rattle.std.specs.Io.KnownBytes.{Appends}
use Rattle.std.proofs.KnownBytes.{Appends-nil}
use Rattle.gs_trial.proofs.RunLines.{LedOn, ends_long, ends_more, ends_quietly, led_all, led_more, led_start, led_written, none_left, waiting_part}
use Rattle.gs_trial.proofs.Texts.{front_none}
use Rattle.gs_trial.proofs.trial.Trial.run_lines.Goals as goal

pub lines-init : goal.lines-init
lines-init g c =
    let trial = c.args.self.now in
    record {
      ready = c.requires.ready;
      led = λ file state bytes stands is.
          subst (λ (l : LinesState). LedOn trial.reporter file bytes state (g.K.Outside.written c.args.out.now) (g.K.Outside.written c.args.out.now) l
          (g.T.Outside.left c.args.schedule.now) trial (g.S.Outside.left c.args.tape.now)) (sym c.new-lines.ensures)
          (led_start file bytes state (g.K.Outside.written c.args.out.now) (g.T.Outside.left c.args.schedule.now) trial
          (g.S.Outside.left c.args.tape.now) stands is);
      taken = λ bytes had. had;
      tells = TellsFlag-refl (g.T.Outside.met_end c.args.schedule.now);
      not_met = KeepsFlag-refl (g.S.Outside.met_end c.args.tape.now);
      tape_faults = refl;
      schedule_faults = refl;
      write_faults = refl;
    }

pub lines-preserved : goal.lines-preserved
lines-preserved g c =
    let inv = c.lines.invariant in
    let wrote = c.in_ok-write_before_line.ensures in
    let given = rw c.in-Ok-Some.field-0-is at c.in-Ok-Some.ensures in
    let ran = c.in_ok-run_line-in-Ok-Some.ensures in
    record {
      ready = ran.ready;
      led = λ file state bytes stands is.
          led_more c.args.self.now.reporter file bytes state _ _ _ c.lines.lines c.next.new.self _ _ c.write_before_line.new.self c.run_line.new.self _ _
          c.in-Ok-Some.line
          (led_written c.args.self.now.reporter file bytes state _ _ _ c.lines.lines _ c.lines.self c.write_before_line.new.self _ wrote.kept wrote.up_to
          (inv.led file state bytes stands is)) given.others given.number given.counts (λ t rest there. ran.led file t rest there);
      taken = λ bytes had.
          ran.taken bytes (taken_same c.lines.self.feed c.write_before_line.new.self.feed bytes _ wrote.kept.feed (inv.taken bytes had));
      tells = TellsFlag-trans _ _ _ inv.tells given.tells;
      not_met = KeepsFlag-trans _ _ _ inv.not_met ran.not_met;
      tape_faults = ran.tape_faults ∙ inv.tape_faults;
      schedule_faults = counts_none _ _ _ c.in-Ok-Some.ensures.counted (λ failed. absurd (cc failed)) ∙ inv.schedule_faults;
      write_faults = ran.write_faults ∙ wrote.faults ∙ inv.write_faults;
    }

pub returns-in_err-write_before_line-clause-ends : goal.returns-in_err-write_before_line-clause-ends
returns-in_err-write_before_line-clause-ends g c =
    let p = err_from_is_err_and c.from_residual.result c.from_residual.ensures.1 in
    let wrote = c.in_err-write_before_line.ensures in
    rw (p.1, p.2) (λ file state bytes stands is.
    ends_quietly c.args.self.now.reporter file bytes state _ _ _ c.lines.lines _ c.lines.self _ c.in_err-write_before_line.field-0.0
    (not_of_run _ wrote.cause) (waiting_part c.lines.self.reporter _ _ _ wrote.cause wrote.err) (c.lines.invariant.led file state bytes stands is))

pub returns-in_err-run_line-in-Ok-Some-clause-ends : goal.returns-in_err-run_line-in-Ok-Some-clause-ends
returns-in_err-run_line-in-Ok-Some-clause-ends g c =
    let p = err_from_is_err_and c.from_residual-in_err-run_line-in-Ok-Some.result c.from_residual-in_err-run_line-in-Ok-Some.ensures.1 in
    let wrote = c.in_ok-write_before_line.ensures in
    let given = rw c.in-Ok-Some.field-0-is at c.in-Ok-Some.ensures in
    rw (p.1, p.2) (λ file state bytes stands is.
    ends_more c.args.self.now.reporter file bytes state _ _ _ c.lines.lines c.next.new.self _ _ c.write_before_line.new.self _ c.in-Ok-Some.line
    c.in_err-run_line-in-Ok-Some.field-0.0
    (led_written c.args.self.now.reporter file bytes state _ _ _ c.lines.lines _ c.lines.self c.write_before_line.new.self _ wrote.kept wrote.up_to
    (c.lines.invariant.led file state bytes stands is)) given.others given.number
    (λ t rest there. c.in_err-run_line-in-Ok-Some.ensures.ends file t rest there))

pub returns-in-Ok-None-clause-led : goal.returns-in-Ok-None-clause-led
returns-in-Ok-None-clause-led g c = λ file state bytes stands is.
    let wrote = c.in_ok-write_before_line.ensures in
    led_all c.args.self.now.reporter file bytes state _ _ c.lines.lines _ c.write_before_line.new.self _ (Ok c.in-Ok-None.field-0)
    (led_written c.args.self.now.reporter file bytes state _ _ _ c.lines.lines _ c.lines.self c.write_before_line.new.self _ wrote.kept wrote.up_to
    (c.lines.invariant.led file state bytes stands is))
    c.in-Ok-None.ensures.given (ap (λ o. Ok o) c.in-Ok-None.field-0-is)

pub returns-in-Err-TooLong-clause-ends : goal.returns-in-Err-TooLong-clause-ends
returns-in-Err-TooLong-clause-ends g c = λ file state bytes stands is.
    let wrote = c.in_ok-write_before_line.ensures in
    ends_long c.args.self.now.reporter file bytes state _ _ _ c.lines.lines _ c.write_before_line.new.self _ c.in-Err-TooLong.line
    (Err c.in-Err-TooLong.field-0) _
    (led_written c.args.self.now.reporter file bytes state _ _ _ c.lines.lines _ c.lines.self c.write_before_line.new.self _ wrote.kept wrote.up_to
    (c.lines.invariant.led file state bytes stands is))
    c.in-Err-TooLong.ensures.given (ap (λ e. Err e) c.in-Err-TooLong.field-0-is) c.end_at.ensures.ends

pub returns-in-Err-ReadFault-clause-ends : goal.returns-in-Err-ReadFault-clause-ends
returns-in-Err-ReadFault-clause-ends g c = λ file state bytes stands is.
    let wrote = c.in_ok-write_before_line.ensures in
    let out = g.K.Outside.written c.write_before_line.new.out in
    let none : c.write_before_line.new.self.reporter.text ≡ [] = elim wrote.first [
      | inl held ↦ absurd (c.in-Err-ReadFault.ensures.unheld (ap (λ e. Err e) c.in-Err-ReadFault.field-0-is) held)
      | inr none ↦ none
    ] in
    ends_quietly c.args.self.now.reporter file bytes state _ _ _ c.lines.lines _ c.write_before_line.new.self _ _ refl
    (subst (λ (l : List ℕ). Appends out out l) (sym none) (Appends-nil out))
    (led_written c.args.self.now.reporter file bytes state _ _ _ c.lines.lines _ c.lines.self c.write_before_line.new.self _ wrote.kept wrote.up_to
    (c.lines.invariant.led file state bytes stands is))

pub returns-in-Err-OutOfMemory-clause-ends : goal.returns-in-Err-OutOfMemory-clause-ends
returns-in-Err-OutOfMemory-clause-ends g c = λ file state bytes stands is.
    let wrote = c.in_ok-write_before_line.ensures in
    ends_quietly c.args.self.now.reporter file bytes state _ _ _ c.lines.lines _ c.write_before_line.new.self _ _ refl
    (front_none _ c.write_before_line.new.self.reporter.text)
    (led_written c.args.self.now.reporter file bytes state _ _ _ c.lines.lines _ c.lines.self c.write_before_line.new.self _ wrote.kept wrote.up_to
    (c.lines.invariant.led file state bytes stands is))

pub returns-in-Ok-None-clause-at_end : goal.returns-in-Ok-None-clause-at_end
returns-in-Ok-None-clause-at_end g c =
    let given = rw c.in-Ok-None.field-0-is at c.in-Ok-None.ensures in
    none_left c.next.new.self.held (g.T.Outside.left c.next.new.source) given.end

pub returns-in-Ok-None-clause-met_end : goal.returns-in-Ok-None-clause-met_end
returns-in-Ok-None-clause-met_end g c =
    let given = rw c.in-Ok-None.field-0-is at c.in-Ok-None.ensures in
    told_then_set _ _ _ c.lines.invariant.tells given.met_end

pub returns-in_err-write_before_line-clause-stops : goal.returns-in_err-write_before_line-clause-stops
returns-in_err-write_before_line-clause-stops g c =
    let p = err_from_is_err_and c.from_residual.result c.from_residual.ensures.1 in
    rw (p.1, p.2) (λ file tape_bytes state bytes stands had is.
    stops_not c.args.self.now.reporter file tape_bytes _ state _ _ _ _ c.in_err-write_before_line.field-0.0
    (not_of_source _ c.in_err-write_before_line.ensures.cause))

pub returns-in_err-run_line-in-Ok-Some-clause-stops : goal.returns-in_err-run_line-in-Ok-Some-clause-stops
returns-in_err-run_line-in-Ok-Some-clause-stops g c =
    let p = err_from_is_err_and c.from_residual-in_err-run_line-in-Ok-Some.result c.from_residual-in_err-run_line-in-Ok-Some.ensures.1 in
    let wrote = c.in_ok-write_before_line.ensures in
    let given = rw c.in-Ok-Some.field-0-is at c.in-Ok-Some.ensures in
    let ran = c.in_err-run_line-in-Ok-Some.ensures in
    let here = c.write_before_line.new.self.feed in
    rw (p.1, p.2) (λ file tape_bytes state bytes stands had is.
    stops_more c.args.self.now.reporter file tape_bytes bytes state _ _ _ c.lines.lines c.next.new.self _ _ c.write_before_line.new.self _ _
    c.in-Ok-Some.line
    c.in_err-run_line-in-Ok-Some.field-0.0
    (led_written c.args.self.now.reporter file bytes state _ _ _ c.lines.lines _ c.lines.self c.write_before_line.new.self _ wrote.kept wrote.up_to
    (c.lines.invariant.led file state bytes stands is)) given.others given.number ran.at_capture
    (λ fault. ran.cut fault tape_bytes (taken_same c.lines.self.feed here tape_bytes _ wrote.kept.feed (c.lines.invariant.taken tape_bytes had)))
    ran.not_schedule)

pub returns-in-Err-TooLong-clause-stops : goal.returns-in-Err-TooLong-clause-stops
returns-in-Err-TooLong-clause-stops g c = λ file tape_bytes state bytes stands had is.
    stops_not c.args.self.now.reporter file tape_bytes _ state _ _ _ _ c.end_at.result
    (neither c.end_at.result c.end_at.ensures.not_of_source.0 c.end_at.ensures.not_of_source.1)

pub returns-in-Err-ReadFault-clause-stops : goal.returns-in-Err-ReadFault-clause-stops
returns-in-Err-ReadFault-clause-stops g c = λ file tape_bytes state bytes stands had is.
    let wrote = c.in_ok-write_before_line.ensures in
    let failed = ap (λ e. Err e) c.in-Err-ReadFault.field-0-is in
    let none : c.write_before_line.new.self.reporter.text ≡ [] = elim wrote.first [
      | inl held ↦ absurd (c.in-Err-ReadFault.ensures.unheld failed held)
      | inr none ↦ none
    ] in
    stops_read c.args.self.now.reporter file tape_bytes bytes state _ _ c.lines.lines c.next.new.self _ _ c.write_before_line.new.self _
    (g.S.Outside.left c.lines.tape)
    (led_written c.args.self.now.reporter file bytes state _ _ _ c.lines.lines _ c.lines.self c.write_before_line.new.self _ wrote.kept wrote.up_to
    (c.lines.invariant.led file state bytes stands is)) none c.in-Err-ReadFault.ensures.err (c.in-Err-ReadFault.ensures.still_unheld failed)

pub returns-in-Ok-None-clause-taken : goal.returns-in-Ok-None-clause-taken
returns-in-Ok-None-clause-taken g c = λ bytes had.
    taken_same c.lines.self.feed c.write_before_line.new.self.feed bytes _ c.in_ok-write_before_line.ensures.kept.feed
    (c.lines.invariant.taken bytes had)
