-- The text of a step is written.
use Rattle.std.proofs.Common.{◌≡◌, ◌∙◌, ◌++◌, ◌⊎◌, ℕ, Bool, true, false, List, [], Option, Some, None, Ok, Err, refl, sym, ap, subst}
use Rattle.std.proofs.KnownBytes.{Appends-nil}
use Rattle.std.specs.Prelude.{IfSome, MatchBool, is_some}
use Rattle.std.specs.Io.KnownBytes.{Appends}
use Rattle.gs_bytes.specs.Outside.{AppendsPart}
use Rattle.gs_tape.specs.declared.error.TapeError.TheVariants as tape_error
use Rattle.gs_command.specs.declared.command.Detail.{Detail}
use Rattle.gs_schedule.specs.declared.step.Step.{Step}
use Rattle.gs_schedule.specs.declared.status.TrialStatus.{TrialStatus}
use Rattle.gs_schedule.specs.declared.status.TrialStatus.TheVariants as status
use Rattle.gs_report.specs.Reporting.{Reporting, with_reports}
use Rattle.gs_report.proofs.Reported.{with_none}
use Rattle.gs_run.specs.CaptureFile.{CaptureFile}
use Rattle.gs_run.specs.Session.{State}
use Rattle.gs_run.specs.Report.{Report, text_of}
use Rattle.gs_run.specs.Deed.{Deed}
use Rattle.gs_run.specs.Refusal.{Refusal}
use Rattle.gs_run.specs.Done.{Ran, ran}
use Rattle.gs_run.specs.Line.{AreDeeds}
use Rattle.gs_run.specs.Run.{refusal_status}
use Rattle.gs_trial.specs.declared.error.StepError.{StepError}
use Rattle.gs_trial.specs.declared.error.StepError.TheVariants as step_error
use Rattle.gs_trial.specs.declared.trial.Trial.{Trial}
use Rattle.gs_trial.specs.Stepping.{RanTo, Steps, StepsIfTold, refusal_of, step_status}
use Rattle.gs_trial.specs.Running.{EndsStep, IsRunRefused, IsSameButText, RanStep, WritesPart, WritesUpTo, WritesWaiting}
use Rattle.gs_trial.specs.Trial.{WritesFront, is_of_run}
use Rattle.gs_trial.proofs.Leading.{same_stands}
use Rattle.gs_trial.proofs.Results.{not_of_run, not_of_source}
use Rattle.gs_run.proofs.SomeRun.{deeds_of}
use Rattle.gs_bytes.proofs.Cases.{match_more}
use Rattle.gs_trial.proofs.Texts.{all_behind, front_none, front_part, part_front, part_of, part_on, up_to_more}

-- what waits now is what waited before the step, and the text of its reports
text_is : (here now : Reporting) (reports : List Report) → now ≡ with_reports here reports → now.text ≡ (with_reports here reports).text
text_is here now reports is = ap (λ (r : Reporting). r.text) is

-- ---- behind what was written before the step

-- of another detail that is the same, the text is the same
same_detail : (before here : Reporting) (reports : List Report) → here.detail ≡ before.detail
    → (with_reports here reports).text ≡ here.text ++ text_of before.detail reports
same_detail before here reports same = ap (λ (d : Detail). here.text ++ text_of d reports) same

pub ran_behind : (before here : Reporting) (file : CaptureFile) (step : Step) (state : State) (a b c left : Option (List ℕ)) (new : Trial)
    → here.detail ≡ before.detail → WritesUpTo a b before.text here.text → RanStep here file step state b c new left
    → RanStep before file step state a c new left
ran_behind before here file step state a b c left new same wrote did =
    let reports = (ran file did.deeds state).reports in
    record {
      deeds = did.deeds;
      are_deeds = did.are_deeds;
      all = did.all;
      stands = did.stands;
      detail_is = did.detail_is ∙ same;
      writes = up_to_more a b c before.text here.text (text_of before.detail reports) new.reporter.text wrote
          (subst (λ (l : List ℕ). WritesUpTo b c l new.reporter.text) (same_detail before here reports same) did.writes);
    }

pub ends_behind_it : (before here : Reporting) (file : CaptureFile) (number : ℕ) (step : Step) (state : State) (a b c : Option (List ℕ))
    (answer : TrialStatus) → here.detail ≡ before.detail → WritesUpTo a b before.text here.text → EndsStep here file number step state b c answer
    → EndsStep before file number step state a c answer
ends_behind_it before here file number step state a b c answer same wrote ends =
    let did = ran file ends.deeds state in
    let more = text_of before.detail did.reports in
    let is = same_detail before here did.reports same in
    record {
      deeds = ends.deeds;
      are_deeds = ends.are_deeds;
      writes = match_more (is_of_run answer) _ _ _ _
          (λ p. (p.0, all_behind a b c before.text here.text more wrote (subst (Appends b c) is p.1)))
          (λ q. part_on answer before here [] did.reports a b c same
          (subst (λ (r : Reporting). WritesUpTo a b r.text here.text) (sym (with_none before)) wrote) q)
          ends.writes;
    }

-- ---- how a step ends

-- it isn't known how far it came, and at most what waited before was written
pub ends_unknown : (here : Reporting) (file : CaptureFile) (number : ℕ) (step : Step) (state : State) (a b : Option (List ℕ)) (answer : TrialStatus)
    → is_of_run answer ≡ false → WritesWaiting answer a b here.text → EndsStep here file number step state a b answer
ends_unknown here file number step state a b answer not wrote =
    let d = deeds_of file step state in
    let did = ran file d.0 state in
    let P = IsRunRefused number did.refused answer × Appends a b (with_reports here did.reports).text in
    let Q = WritesPart answer here did.reports a b in
    let text : Q = part_of answer here did.reports a b wrote in
    record { deeds = d.0; are_deeds = d.1; writes = subst (λ (x : Bool). MatchBool x P Q) (sym not) text }

pub ran_step : (mid new : Trial) (here : Reporting) (file : CaptureFile) (step : Step) (state : State) (left a b : Option (List ℕ))
    → Steps file step state left mid here mid.reporter (Ok tt) → IsSameButText mid new → WritesUpTo a b mid.reporter.text new.reporter.text
    → RanStep here file step state a b new left
ran_step mid new here file step state left a b s same wrote =
    let whole = s.ran_as in
    record {
      deeds = s.deeds;
      are_deeds = s.are_deeds;
      all = whole.ran.refused_is;
      stands = same_stands mid new file left (ran file s.deeds state).state same whole.stands;
      detail_is = same.detail ∙ ap (λ (r : Reporting). r.detail) whole.ran.text;
      writes = subst (λ (l : List ℕ). WritesUpTo a b l new.reporter.text) (text_is here mid.reporter (ran file s.deeds state).reports whole.ran.text) wrote;
    }

-- a part of it alone
pub ends_part : (mid : Trial) (here : Reporting) (file : CaptureFile) (number : ℕ) (step : Step) (state : State) (left a b : Option (List ℕ))
    (answer : TrialStatus)
    → Steps file step state left mid here mid.reporter (Ok tt) → (answer ≡ status.WriteFault) ⊎ (answer ≡ status.OutOfMemory)
    → AppendsPart a b mid.reporter.text → EndsStep here file number step state a b answer
ends_part mid here file number step state left a b answer s cause part =
    let did = ran file s.deeds state in
    let P = IsRunRefused number did.refused answer × Appends a b (with_reports here did.reports).text in
    let Q = WritesPart answer here did.reports a b in
    let front = subst (WritesFront a b) (text_is here mid.reporter did.reports s.ran_as.ran.text) (front_part a b mid.reporter.text part) in
    let text : Q = part_front answer here did.reports a b (not_of_source answer cause) front in
    record { deeds = s.deeds; are_deeds = s.are_deeds; writes = subst (λ (x : Bool). MatchBool x P Q) (sym (not_of_run answer cause)) text }

-- a deed of it was refused
refused_so : (mid : Trial) (here : Reporting) (file : CaptureFile) (number : ℕ) (step : Step) (state : State) (a b : Option (List ℕ)) (deeds : List Deed)
    (why : Refusal)
    → AreDeeds file step state deeds → RanTo (ran file deeds state) (Some why) here mid.reporter
    → (refusal : TrialStatus) → refusal_status number why ≡ refusal → is_of_run refusal ≡ true → Appends a b mid.reporter.text
    → EndsStep here file number step state a b refusal
refused_so mid here file number step state a b deeds why are to refusal names of wrote =
    let did = ran file deeds state in
    let P = IsRunRefused number did.refused refusal × Appends a b (with_reports here did.reports).text in
    let Q = WritesPart refusal here did.reports a b in
    let refused : IsRunRefused number did.refused refusal = subst (λ (o : Option Refusal). IsRunRefused number o refusal) (sym to.refused_is) names in
    let text = subst (Appends a b) (text_is here mid.reporter did.reports to.text) wrote in
    record { deeds = deeds; are_deeds = are; writes = subst (λ (x : Bool). MatchBool x P Q) (sym of) (refused, text) }

quietly : (here : Reporting) (file : CaptureFile) (number : ℕ) (step : Step) (state : State) (a b : Option (List ℕ)) (answer : TrialStatus)
    → is_of_run answer ≡ false → b ≡ a → WritesWaiting answer a a here.text → EndsStep here file number step state a b answer
quietly here file number step state a b answer not same none =
    ends_unknown here file number step state a b answer not (subst (λ (o : Option (List ℕ)). WritesWaiting answer a o here.text) (sym same) none)

pub ends_after : (mid : Trial) (here : Reporting) (file : CaptureFile) (number : ℕ) (step : Step) (state : State) (left a b : Option (List ℕ)) (e : StepError)
    → StepsIfTold file step state left mid here mid.reporter (Err e) → (is_some (refusal_of e) ≡ true → Appends a b mid.reporter.text)
    → (is_some (refusal_of e) ≡ false → b ≡ a) → (e ≡ step_error.Tape tape_error.TapeFault → here.text ≡ [])
    → EndsStep here file number step state a b (step_status e number)
ends_after mid here file number step state left a b step_error.BadLine s wrote not empty =
    refused_so mid here file number step state a b s.deeds _ s.are_deeds s.ran_as _ refl refl (wrote refl)
ends_after mid here file number step state left a b step_error.OutOfMemory s wrote not empty =
    quietly here file number step state a b _ refl (not refl) (front_none a here.text)
ends_after mid here file number step state left a b (step_error.Tape tape_error.TapeFault) s wrote not empty =
    quietly here file number step state a b _ refl (not refl) (subst (Appends a a) (sym (empty refl)) (Appends-nil a))
ends_after mid here file number step state left a b (step_error.Tape tape_error.OutOfMemory) s wrote not empty =
    quietly here file number step state a b _ refl (not refl) (front_none a here.text)
ends_after mid here file number step state left a b (step_error.Tape (tape_error.BadTape kind place)) s wrote not empty =
    refused_so mid here file number step state a b s.deeds _ s.are_deeds s.ran_as _ refl refl (wrote refl)
ends_after mid here file number step state left a b (step_error.Tape (tape_error.TapeFull tick)) s wrote not empty =
    refused_so mid here file number step state a b s.deeds _ s.are_deeds s.ran_as _ refl refl (wrote refl)
ends_after mid here file number step state left a b (step_error.Tape (tape_error.UnitTooLarge tick)) s wrote not empty =
    refused_so mid here file number step state a b s.deeds _ s.are_deeds s.ran_as _ refl refl (wrote refl)
ends_after mid here file number step state left a b (step_error.Tape (tape_error.AudioLength length)) s wrote not empty =
    refused_so mid here file number step state a b s.deeds _ s.are_deeds s.ran_as _ refl refl (wrote refl)

-- a part of the text of a step of which a deed was refused
told_text : (o : Option Refusal) (did : Ran) (here now : Reporting) → is_some o ≡ true → IfSome o (λ why. RanTo did (Some why) here now)
    → now ≡ with_reports here did.reports
told_text None did here now told ran = absurd cc
told_text (Some why) did here now told ran = ran.text

told_steps : (o : Option Refusal) (P : Type 0) → is_some o ≡ true → IfSome o (λ _. P) → P
told_steps None P told p = absurd cc
told_steps (Some why) P told p = p

pub ends_told : (mid : Trial) (here : Reporting) (file : CaptureFile) (number : ℕ) (step : Step) (state : State) (left a b : Option (List ℕ))
    (answer : TrialStatus) (e : StepError)
    → StepsIfTold file step state left mid here mid.reporter (Err e) → is_some (refusal_of e) ≡ true
    → (answer ≡ status.WriteFault) ⊎ (answer ≡ status.OutOfMemory)
    → AppendsPart a b mid.reporter.text → EndsStep here file number step state a b answer
ends_told mid here file number step state left a b answer e is told cause part =
    let s = told_steps (refusal_of e) (Steps file step state left mid here mid.reporter (Err e)) told is in
    let did = ran file s.deeds state in
    let text : mid.reporter.text ≡ (with_reports here did.reports).text =
    text_is here mid.reporter did.reports (told_text (refusal_of e) did here mid.reporter told s.ran_as) in
    let P = IsRunRefused number did.refused answer × Appends a b (with_reports here did.reports).text in
    let Q = WritesPart answer here did.reports a b in
    let front : Q = part_front answer here did.reports a b (not_of_source answer cause)
    (subst (WritesFront a b) text (front_part a b mid.reporter.text part)) in
    record { deeds = s.deeds; are_deeds = s.are_deeds; writes = subst (λ (x : Bool). MatchBool x P Q) (sym (not_of_run answer cause)) front }

pub ends_at : (here : Reporting) (file : CaptureFile) (number : ℕ) (step : Step) (state : State) (a b b' : Option (List ℕ)) (answer answer' : TrialStatus)
    → b' ≡ b → answer' ≡ answer → EndsStep here file number step state a b answer → EndsStep here file number step state a b' answer'
ends_at here file number step state a b b' answer answer' out is ends =
    subst (λ (o : Option (List ℕ)). EndsStep here file number step state a o answer') (sym out)
    (subst (EndsStep here file number step state a b) (sym is) ends)
