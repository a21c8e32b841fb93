-- A schedule over a capture file, from its head to the sums.
use Rattle.std.proofs.Common.{◌≡◌, ◌∙◌, ◌++◌, ◌⊎◌, ℕ, true, false, List, [], ◌∷◌, length, Option, Some, None, Result, Ok, Err, refl, sym, ap}
use Rattle.std.proofs.Common.{append-nil, subst}
use Rattle.std.specs.Prelude.{IfErr, OnErr, OnOk, ⊤}
use Rattle.std.specs.Io.KnownBytes.{Appends}
use Rattle.std.proofs.KnownBytes.{Appends-nil, Appends-trans}
use Rattle.gs_bytes.specs.Outside.{AppendsPart}
use Rattle.gs_tape.specs.Reading.{Fault, head_at}
use Rattle.gs_tape.specs.declared.error.TapeError.{TapeError}
use Rattle.gs_tape.specs.declared.error.TapeError.TheVariants as tape_error
use Rattle.gs_feed.specs.Feeding.{EndsWithFault, Feeding, OpensFeed, OpensFeedAs}
use Rattle.gs_command.specs.declared.command.Detail.{Detail}
use Rattle.gs_schedule.specs.Lines.{lines_of}
use Rattle.gs_schedule.specs.declared.output.Output.TheVariants as output
use Rattle.gs_schedule.specs.declared.status.TrialStatus.{TrialStatus}
use Rattle.gs_schedule.specs.declared.status.TrialStatus.TheVariants as status
use Rattle.gs_schedule.specs.declared.step.Step.{Step}
use Rattle.gs_report.specs.Reporting.{Reporting, with_reports}
use Rattle.gs_run.specs.CaptureFile.{CaptureFile, fault_of_head, file_of}
use Rattle.gs_run.specs.Session.{State, start}
use Rattle.gs_run.specs.Report.{Report, plain, text_of}
use Rattle.gs_run.specs.Totals.{totals_from}
use Rattle.gs_run.specs.Line.{HasStep}
use Rattle.gs_run.specs.WholeRun.{RunsOverBytesHold}
use Rattle.gs_run.specs.Run.{IsRun, Run, RunsFrom, RunsUnless, fault_status, finished, stopped}
use Rattle.gs_trial.specs.declared.trial.Trial.{Trial}
use Rattle.gs_trial.specs.Standing.{IsFeedOf, IsTrialOf}
use Rattle.gs_trial.specs.Stepping.{tape_status}
use Rattle.gs_trial.specs.Running.{EndsRun, LedTo, WritesBehind, WritesWaiting}
use Rattle.gs_trial.specs.Trial.{AnswersIfTold, AnswersScript, WritesFront, WritesRun, status_answer, is_of_run}
use Rattle.gs_trial.proofs.Leading.{by_answer, ends_behind, front_of}
use Rattle.gs_trial.proofs.Results.{not_of_run, not_of_source}
use Rattle.gs_run.proofs.SomeRun.{lines_some}
use Rattle.gs_trial.proofs.Texts.{front_all, front_behind, front_none, front_part, part_front}

-- ---- the end

-- nothing waits yet
abbrev pub new_reporter : Detail → Reporting
new_reporter detail = record { detail = detail; text = [] }

-- nothing was written of a run that wasn't ended by this answer
pub quiet : (detail : Detail) (run : Run) (a : Option (List ℕ)) (answer : TrialStatus) → is_of_run answer ≡ false → WritesWaiting answer a a []
    → WritesRun detail run a a answer
quiet detail run a answer not none = front_of (new_reporter detail) run a a answer not none

-- what waited was written, and the file has this fault
ended : (before : Reporting) (fault : Option Fault) (state : State) (a b : Option (List ℕ)) (why : Fault) (answer : TrialStatus) → fault ≡ Some why
    → fault_status why ≡ answer → is_of_run answer ≡ true → Appends a b before.text → WritesBehind before (finished fault state) a b answer
ended before fault state a b why answer is names of wrote =
    subst (λ (f : Option Fault). WritesBehind before (finished f state) a b answer) (sym is)
    (by_answer before (stopped (fault_status why) state) a b answer true of (names, subst (Appends a b) (sym (append-nil before.text)) wrote))

-- the rest of the file has this error
pub finish_fails : (before : Reporting) (fault : Option Fault) (state : State) (a b : Option (List ℕ)) (e : TapeError) → EndsWithFault {A = ⊤} fault (Err e)
    → Appends a b before.text → WritesBehind before (finished fault state) a b (tape_status e)
finish_fails before fault state a b tape_error.TapeFault ends wrote =
    front_of before (finished fault state) a b status.TapeFault refl wrote
finish_fails before fault state a b tape_error.OutOfMemory ends wrote =
    front_of before (finished fault state) a b status.OutOfMemory refl (front_all a b before.text wrote)
finish_fails before fault state a b (tape_error.BadTape kind place) ends wrote = ended before fault state a b _ _ ends refl refl wrote
finish_fails before fault state a b (tape_error.TapeFull tick) ends wrote = ended before fault state a b _ _ ends refl refl wrote
finish_fails before fault state a b (tape_error.UnitTooLarge tick) ends wrote = ended before fault state a b _ _ ends refl refl wrote
finish_fails before fault state a b (tape_error.AudioLength length) ends wrote = ended before fault state a b _ _ ends refl refl wrote

-- what waited was written, and then the sums, or a part of them
pub finish_writes : (before here now : Reporting) (fault : Option Fault) (state : State) (a b c : Option (List ℕ)) (r : Result ⊤ TrialStatus)
    → Appends a b before.text → here.detail ≡ before.detail → here.text ≡ [] → fault ≡ None
    → now ≡ with_reports here (totals_from 1 state.sessions ++ plain output.Done ∷ []) → OnOk r (Appends b c now.text)
    → OnErr r (AppendsPart b c now.text) → IfErr r (λ e. (e ≡ status.WriteFault) ⊎ (e ≡ status.OutOfMemory))
    → WritesBehind before (finished fault state) a c (status_answer r)
finish_writes before here now fault state a b c r first same none whole is wrote part cause =
    subst (λ (f : Option Fault). WritesBehind before (finished f state) a c (status_answer r)) (sym whole) (by r wrote part cause)
  where
    sums : List Report
    sums = totals_from 1 state.sessions ++ plain output.Done ∷ []

    text : now.text ≡ text_of before.detail sums
    text = ap (λ (s : Reporting). s.text) is ∙ ap (λ (l : List ℕ). l ++ text_of here.detail sums) none ∙ ap (λ (d : Detail). text_of d sums) same

    by : (r : Result ⊤ TrialStatus) → OnOk r (Appends b c now.text) → OnErr r (AppendsPart b c now.text)
        → IfErr r (λ e. (e ≡ status.WriteFault) ⊎ (e ≡ status.OutOfMemory)) → WritesBehind before (finished None state) a c (status_answer r)
    by (Ok done) wrote part cause =
        (refl, Appends-trans a b c before.text (text_of before.detail sums) first (subst (Appends b c) text wrote))
    by (Err e) wrote part cause =
        by_answer before (finished None state) a c e false (not_of_run e cause) (part_front e before sums a c (not_of_source e cause)
        (front_behind a b c before.text (text_of before.detail sums) first (subst (WritesFront b c) text (front_part b c now.text part))))

-- ---- the head

pub feed_of : (bytes : List ℕ) (feed : Feeding) (left : Option (List ℕ)) → OpensFeedAs bytes feed left → IsFeedOf feed (file_of bytes) left
feed_of bytes feed left opens = record {
  head = ap fault_of_head opens.head_is;
  stands = opens.stands;
  audio = opens.audio_is;
  duration = opens.duration_is;
}

-- the runs of a file whose head has no fault
pub whole_run : (file : CaptureFile) (lines : List (List ℕ)) (run : Run) → file.head ≡ None → RunsFrom HasStep file 1 lines start run → IsRun file lines run
whole_run file lines run none runs = subst (λ (o : Option Fault). RunsUnless o (RunsFrom HasStep file 1 lines start run) run) (sym none) runs

pub some_run : (file : CaptureFile) (lines : List (List ℕ)) → (run : Run) × IsRun file lines run
some_run file lines = by file.head refl
  where
    by : (o : Option Fault) → file.head ≡ o → (run : Run) × IsRun file lines run
    by None is = let r = lines_some file 1 lines start in (r.0, whole_run file lines r.0 is r.1)
    by (Some fault) is = (
      stopped (fault_status fault) start,
      subst (λ (o : Option Fault). RunsUnless o (RunsFrom HasStep file 1 lines start (stopped (fault_status fault) start)) (stopped (fault_status fault) start))
          (sym is) refl,
    )

-- what holds of every run over bytes holds of this one
answers : RunsOverBytesHold → (detail : Detail) (bytes lines : List ℕ) (a b : Option (List ℕ)) (answer : TrialStatus) (run : Run)
    → IsRun (file_of bytes) (lines_of lines) run → WritesRun detail run a b answer → AnswersScript detail bytes lines a b answer
answers hold detail bytes lines a b answer run is wrote =
    record { run = run; is_run = is; writes = wrote; holds = λ all. hold bytes (lines_of lines) run all is }

unopened : RunsOverBytesHold → (detail : Detail) (bytes lines : List ℕ) (a : Option (List ℕ)) (answer : TrialStatus) → is_of_run answer ≡ false
    → WritesWaiting answer a a [] → AnswersScript detail bytes lines a a answer
unopened hold detail bytes lines a answer not none =
    let r = some_run (file_of bytes) (lines_of lines) in
    answers hold detail bytes lines a a answer r.0 r.1 (quiet detail r.0 a answer not none)

headless : RunsOverBytesHold → (detail : Detail) (bytes lines : List ℕ) (a : Option (List ℕ)) (why : Fault) (answer : TrialStatus)
    → head_at (length bytes) bytes ≡ Err why → fault_status why ≡ answer → is_of_run answer ≡ true → AnswersScript detail bytes lines a a answer
headless hold detail bytes lines a why answer is names of =
    let file = file_of bytes in
    let head : file.head ≡ Some why = ap fault_of_head is in
    let run = stopped (fault_status why) start in
    answers hold detail bytes lines a a answer run
    (subst (λ (o : Option Fault). RunsUnless o (RunsFrom HasStep file 1 (lines_of lines) start run) run) (sym head) refl)
    (by_answer (new_reporter detail) run a a answer true of (names, Appends-nil a))

-- a file that isn't opened
pub open_fails : RunsOverBytesHold → (detail : Detail) (bytes : List ℕ) (lines : List ℕ) (a left : Option (List ℕ)) (e : TapeError)
    → OpensFeed (Some bytes) left (Err e) → AnswersScript detail bytes lines a a (tape_status e)
open_fails hold detail bytes lines a left tape_error.TapeFault opens = unopened hold detail bytes lines a status.TapeFault refl (Appends-nil a)
open_fails hold detail bytes lines a left tape_error.OutOfMemory opens = unopened hold detail bytes lines a status.OutOfMemory refl (front_none a [])
open_fails hold detail bytes lines a left (tape_error.BadTape kind place) opens = headless hold detail bytes lines a _ _ opens refl refl
open_fails hold detail bytes lines a left (tape_error.TapeFull tick) opens = headless hold detail bytes lines a _ _ opens refl refl
open_fails hold detail bytes lines a left (tape_error.UnitTooLarge tick) opens = headless hold detail bytes lines a _ _ opens refl refl
open_fails hold detail bytes lines a left (tape_error.AudioLength length) opens = headless hold detail bytes lines a _ _ opens refl refl

-- ---- all of it

pub ends_script : RunsOverBytesHold → (detail : Detail) (bytes lines : List ℕ) (a b : Option (List ℕ)) (answer : TrialStatus) → (file_of bytes).head ≡ None
    → EndsRun HasStep (new_reporter detail) (file_of bytes) 1 (lines_of lines) start a b answer → AnswersScript detail bytes lines a b answer
ends_script hold detail bytes lines a b answer none ends =
    answers hold detail bytes lines a b answer ends.run (whole_run (file_of bytes) (lines_of lines) ends.run none ends.runs) ends.writes

-- behind all lines or steps the run ends as the file does
pub finishes : {A : Type 0} (Has : ℕ → A → Option Step → Type 0) (before : Reporting) (file : CaptureFile) (steps : List A) (from : State)
    (a b c : Option (List ℕ)) (n : ℕ) (trial : Trial) (left : Option (List ℕ)) (answer : TrialStatus)
    → LedTo Has before file 1 steps from a b n [] trial left
    → ((state : State) → IsTrialOf trial file left state → WritesBehind trial.reporter (finished file.fault state) b c answer)
    → EndsRun Has before file 1 steps from a c answer
finishes Has before file steps from a b c n trial left answer led ends =
    ends_behind Has before trial.reporter file 1 n steps [] from led.reached led.reports a b c answer led.run led.detail_is led.writes
    (record { run = finished file.fault led.reached; runs = refl; writes = ends led.reached led.stands })

-- ---- what the calls say together

pub script_unopened : RunsOverBytesHold → (detail : Detail) (tape schedule a left : Option (List ℕ)) (e : TapeError) (answer : TrialStatus)
    → answer ≡ tape_status e → OpensFeed tape left (Err e)
    → AnswersIfTold detail tape schedule a a answer
script_unopened hold detail None schedule a left e answer is opens = tt
script_unopened hold detail (Some tape) None a left e answer is opens = tt
script_unopened hold detail (Some tape) (Some schedule) a left e answer is opens =
    subst (AnswersScript detail tape schedule a a) (sym is) (open_fails hold detail tape schedule a left e opens)

pub script_ends : RunsOverBytesHold → (detail : Detail) (before : Reporting) (tape schedule a b left : Option (List ℕ)) (feed : Feeding)
    (trial : Trial) (answer : TrialStatus) → before ≡ record { detail = detail; text = [] } → OpensFeed tape left (Ok feed)
    → ((file : CaptureFile) (left : Option (List ℕ)) → IsFeedOf feed file left → IsTrialOf trial file left start)
    → ((file : CaptureFile) (state : State) (bytes : List ℕ) → IsTrialOf trial file left state → schedule ≡ Some bytes
    → EndsRun HasStep before file 1 (lines_of bytes) state a b answer) → AnswersIfTold detail tape schedule a b answer
script_ends hold detail before None schedule a b left feed trial answer same opens stands ends = tt
script_ends hold detail before (Some tape) None a b left feed trial answer same opens stands ends = tt
script_ends hold detail before (Some tape) (Some schedule) a b left feed trial answer same opens stands ends =
    let file = file_of tape in
    let is = feed_of tape feed left opens in
    ends_script hold detail tape schedule a b answer is.head
    (subst (λ (r : Reporting). EndsRun HasStep r file 1 (lines_of schedule) start a b answer) same (ends file start schedule (stands file left is) refl))

pub script_finishes : RunsOverBytesHold → (detail : Detail) (before : Reporting) (tape schedule a b c left left' : Option (List ℕ)) (feed : Feeding)
    (trial new : Trial) (answer : TrialStatus) → before ≡ record { detail = detail; text = [] }
    → OpensFeed tape left (Ok feed) → ((file : CaptureFile) (left : Option (List ℕ)) → IsFeedOf feed file left → IsTrialOf trial file left start)
    → ((file : CaptureFile) (state : State) (bytes : List ℕ) → IsTrialOf trial file left state → schedule ≡ Some bytes
    → (n : ℕ) × LedTo HasStep before file 1 (lines_of bytes) state a b n [] new left')
    → ((file : CaptureFile) (state : State) → IsTrialOf new file left' state → WritesBehind new.reporter (finished file.fault state) b c answer)
    → AnswersIfTold detail tape schedule a c answer
script_finishes hold detail before tape schedule a b c left left' feed trial new answer same opens stands led ends =
    script_ends hold detail before tape schedule a c left feed trial answer same opens stands
    (λ file state bytes there is. by file state bytes (led file state bytes there is) (ends file))
  where
    by : (file : CaptureFile) (state : State) (bytes : List ℕ) → (n : ℕ) × LedTo HasStep before file 1 (lines_of bytes) state a b n [] new left'
        → ((state : State) → IsTrialOf new file left' state → WritesBehind new.reporter (finished file.fault state) b c answer)
        → EndsRun HasStep before file 1 (lines_of bytes) state a c answer
    by file state bytes led ends = finishes HasStep before file (lines_of bytes) state a b c led.0 new left' answer led.1 ends
