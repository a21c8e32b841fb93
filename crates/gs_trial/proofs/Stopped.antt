-- What was run before a read failed.
use Rattle.std.proofs.Common.{◌≡◌, ◌≢◌, ◌∙◌, ◌++◌, ◌+◌, ◌⊎◌, ℕ, true, false, List, [], ◌∷◌, Option, Some, None, Result, Ok, Err, refl, sym, ap, subst}
use Rattle.std.proofs.Common.{append-nil, inl, inr}
use Rattle.std.specs.Prelude.{IfErr, ⊤}
use Rattle.std.specs.Io.KnownBytes.{Appends, Keeps}
use Rattle.std.proofs.KnownBytes.{Appends-nil, Appends-trans}
use Rattle.std.proofs.lemmas.Bool.{false_from_ne_true}
use Rattle.gs_tape.specs.declared.error.TapeError.{TapeError}
use Rattle.gs_tape.specs.declared.error.TapeError.TheVariants as tape_error
use Rattle.gs_feed.specs.Feeding.{Feeding, OpensFeed}
use Rattle.gs_feed.specs.Cuts.{OpensBytes, StopsBehind, StopsInRest}
use Rattle.gs_command.specs.declared.command.Detail.{Detail}
use Rattle.gs_schedule.specs.Lines.{LinesState, LosesLine, holds_line, lines_of, lines_to_come}
use Rattle.gs_schedule.specs.declared.line.Line.{Line}
use Rattle.gs_schedule.specs.declared.step.Step.TheVariants as step
use Rattle.gs_schedule.specs.declared.status.TrialStatus.{TrialStatus}
use Rattle.gs_schedule.specs.declared.status.TrialStatus.TheVariants as status
use Rattle.gs_report.specs.Reporting.{Reporting, with_reports}
use Rattle.gs_run.specs.CaptureFile.{CaptureFile, file_of}
use Rattle.gs_run.specs.Session.{State, start}
use Rattle.gs_run.specs.Line.{HasStep}
use Rattle.gs_trial.specs.declared.error.StepError.{StepError}
use Rattle.gs_trial.specs.declared.error.StepError.TheVariants as step_error
use Rattle.gs_trial.specs.declared.trial.Trial.{Trial}
use Rattle.gs_trial.specs.Standing.{FeedHasTaken, IsFeedOf, IsTrialOf}
use Rattle.gs_trial.specs.Stepping.{step_status, tape_status}
use Rattle.gs_trial.specs.Running.{HasLed, HasLedToCut, LedTo, StopsLines, WritesUpTo}
use Rattle.gs_trial.specs.Stopping.{HasRun, Stops, StopsAtCapture, StopsIfTold}
use Rattle.gs_trial.specs.Trial.{status_answer, is_of_source}
use Rattle.gs_trial.proofs.Leading.{leads_none}
use Rattle.gs_trial.proofs.RunLines.{LedOn, losing}
use Rattle.gs_trial.proofs.Scripts.{feed_of, new_reporter}
use Rattle.gs_trial.proofs.Taking.{taken_first}

-- ---- which answer it is

-- where a sink failed or memory ran out, no read failed
pub never_tape : (answer : TrialStatus) (P : Type 0) → (answer ≡ status.WriteFault) ⊎ (answer ≡ status.OutOfMemory) → answer ≡ status.TapeFault → P
never_tape answer P (inl write) is = absurd (let both : status.WriteFault ≡ status.TapeFault = sym write ∙ is in cc)
never_tape answer P (inr memory) is = absurd (let both : status.OutOfMemory ≡ status.TapeFault = sym memory ∙ is in cc)

-- the error of a step whose read failed
pub fault_of_step : (e : StepError) (n : ℕ) → step_status e n ≡ status.TapeFault → e ≡ step_error.Tape tape_error.TapeFault
fault_of_step step_error.BadLine n is = absurd cc
fault_of_step step_error.OutOfMemory n is = absurd cc
fault_of_step (step_error.Tape tape_error.TapeFault) n is = refl
fault_of_step (step_error.Tape (tape_error.BadTape kind place)) n is = absurd cc
fault_of_step (step_error.Tape (tape_error.TapeFull tick)) n is = absurd cc
fault_of_step (step_error.Tape (tape_error.UnitTooLarge tick)) n is = absurd cc
fault_of_step (step_error.Tape (tape_error.AudioLength length)) n is = absurd cc
fault_of_step (step_error.Tape tape_error.OutOfMemory) n is = absurd cc

-- ---- what was written

-- nothing waits any more
pub whole_of : (a b : Option (List ℕ)) (text waits : List ℕ) → WritesUpTo a b text waits → waits ≡ [] → Appends a b text
whole_of a b text waits (w, p, e) none = subst (Appends a b) (sym (append-nil w) ∙ ap (λ (l : List ℕ). w ++ l) (sym none) ∙ sym e) p

-- what waited was written
whole_then : (a b c : Option (List ℕ)) (text waits : List ℕ) → WritesUpTo a b text waits → Appends b c waits → Appends a c text
whole_then a b c text waits (w, p, e) q = subst (Appends a c) (sym e) (Appends-trans a b c w waits p q)

led_here : (before : Reporting) (file : CaptureFile) (lines : List (List ℕ)) (state : State) (a b c : Option (List ℕ)) (n : ℕ) (rest : List (List ℕ))
    (trial : Trial) (left : Option (List ℕ)) → LedTo HasStep before file 1 lines state a b n rest trial left → Appends b c trial.reporter.text
    → HasLed before file lines state n rest a c
led_here before file lines state a b c n rest trial left led wrote = record {
  reached = led.reached;
  reports = led.reports;
  run = led.run;
  writes = whole_then a b c (with_reports before led.reports).text trial.reporter.text led.writes wrote;
}

-- the capture file is read here, and its source failed
led_to_cut : (before : Reporting) (file : CaptureFile) (tape : List ℕ) (lines : List (List ℕ)) (state : State) (a b c : Option (List ℕ)) (n : ℕ)
    (rest : List (List ℕ)) (trial : Trial) (was left : Option (List ℕ)) → LedTo HasStep before file 1 lines state a b n rest trial was
    → Appends b c trial.reporter.text → StopsAtCapture tape left trial.feed.count n rest → HasLedToCut before file tape lines state left a c
led_to_cut before file tape lines state a b c n rest trial was left led wrote cut = (
  n,
  rest,
  record {
    reached = led.reached;
    reports = led.reports;
    run = led.run;
    writes = whole_then a b c (with_reports before led.reports).text trial.reporter.text led.writes wrote;
  },
  subst (λ (k : ℕ). StopsAtCapture tape left k n rest) led.stands.captured cut,
)

-- ---- where it stops

pub neither : (answer : TrialStatus) → answer ≢ status.TapeFault → answer ≢ status.ScheduleFault → is_of_source answer ≡ false
neither status.TapeFault tape schedule = absurd (tape refl)
neither status.ScheduleFault tape schedule = absurd (schedule refl)
neither status.Ok tape schedule = refl
neither (status.Usage word) tape schedule = refl
neither (status.BadTape kind place) tape schedule = refl
neither (status.TapeFull tick) tape schedule = refl
neither (status.UnitTooLarge tick) tape schedule = refl
neither (status.AudioLength length) tape schedule = refl
neither (status.BadSchedule line) tape schedule = refl
neither status.WriteFault tape schedule = refl
neither status.OutOfMemory tape schedule = refl

-- no read failed
pub stops_not : (before : Reporting) (file : CaptureFile) (tape : List ℕ) (lines : List (List ℕ)) (state : State) (left unread a b : Option (List ℕ))
    (answer : TrialStatus) → is_of_source answer ≡ false → StopsLines before file tape lines state left unread a b answer
stops_not before file tape lines state left unread a b status.TapeFault not = absurd cc
stops_not before file tape lines state left unread a b status.ScheduleFault not = absurd cc
stops_not before file tape lines state left unread a b status.Ok not = tt
stops_not before file tape lines state left unread a b (status.Usage word) not = tt
stops_not before file tape lines state left unread a b (status.BadTape kind place) not = tt
stops_not before file tape lines state left unread a b (status.TapeFull tick) not = tt
stops_not before file tape lines state left unread a b (status.UnitTooLarge tick) not = tt
stops_not before file tape lines state left unread a b (status.AudioLength length) not = tt
stops_not before file tape lines state left unread a b (status.BadSchedule line) not = tt
stops_not before file tape lines state left unread a b status.WriteFault not = tt
stops_not before file tape lines state left unread a b status.OutOfMemory not = tt

-- no read of the schedule failed
stops_capture : (before : Reporting) (file : CaptureFile) (tape : List ℕ) (lines : List (List ℕ)) (state : State) (left unread a b : Option (List ℕ))
    (answer : TrialStatus) → (answer ≡ status.TapeFault → HasLedToCut before file tape lines state left a b) → answer ≢ status.ScheduleFault
    → StopsLines before file tape lines state left unread a b answer
stops_capture before file tape lines state left unread a b status.TapeFault fault not = fault refl
stops_capture before file tape lines state left unread a b status.ScheduleFault fault not = absurd (not refl)
stops_capture before file tape lines state left unread a b status.Ok fault not = tt
stops_capture before file tape lines state left unread a b (status.Usage word) fault not = tt
stops_capture before file tape lines state left unread a b (status.BadTape kind place) fault not = tt
stops_capture before file tape lines state left unread a b (status.TapeFull tick) fault not = tt
stops_capture before file tape lines state left unread a b (status.UnitTooLarge tick) fault not = tt
stops_capture before file tape lines state left unread a b (status.AudioLength length) fault not = tt
stops_capture before file tape lines state left unread a b (status.BadSchedule line) fault not = tt
stops_capture before file tape lines state left unread a b status.WriteFault fault not = tt
stops_capture before file tape lines state left unread a b status.OutOfMemory fault not = tt

-- the line that was given captures
pub stops_more : (before : Reporting) (file : CaptureFile) (tape bytes : List ℕ) (state : State) (a b d : Option (List ℕ)) (lines lines' : LinesState)
    (source source' : Option (List ℕ)) (trial : Trial) (was left : Option (List ℕ)) (line : Line) (answer : TrialStatus)
    → LedOn before file bytes state a b lines source trial was
    → LosesLine (lines_to_come lines source) (lines_to_come lines' source') line.bytes → line.number ≡ lines.given + 1
    → (answer ≡ status.TapeFault → HasStep line.number line.bytes (Some step.Cap) × Appends b d trial.reporter.text)
    → (answer ≡ status.TapeFault → StopsBehind tape left trial.feed.count) → answer ≢ status.ScheduleFault
    → StopsLines before file tape (lines_of bytes) state left source' a d answer
stops_more before file tape bytes state a b d lines lines' source source' trial was left line answer on loses number fault cut not =
    let l = losing (lines_to_come lines source) (lines_to_come lines' source') on.rest line.bytes on.rest_is loses in
    stops_capture before file tape (lines_of bytes) state left source' a d answer (λ is.
    let at : HasStep (lines.given + 1) line.bytes (Some step.Cap) = subst (λ (n : ℕ). HasStep n line.bytes (Some step.Cap)) number (fault is).0 in
    let here : StopsAtCapture tape left trial.feed.count (lines.given + 1) (line.bytes ∷ lines_of l.0) = (at, cut is) in
    led_to_cut before file tape (lines_of bytes) state a b d (lines.given + 1) (lines_of on.rest) trial was left on.led (fault is).1
    (subst (StopsAtCapture tape left trial.feed.count (lines.given + 1)) (sym l.2) here)) not

-- the next line can't be read
pub stops_read : (before : Reporting) (file : CaptureFile) (tape bytes : List ℕ) (state : State) (a b : Option (List ℕ)) (lines lines' : LinesState)
    (source source' : Option (List ℕ)) (trial : Trial) (was left : Option (List ℕ)) → LedOn before file bytes state a b lines source trial was
    → trial.reporter.text ≡ [] → Keeps (lines_to_come lines source) (lines_to_come lines' source') → (holds_line lines'.held ≡ true → ⊥)
    → StopsLines before file tape (lines_of bytes) state left source' a b status.ScheduleFault
stops_read before file tape bytes state a b lines lines' source None trial was left on empty keeps not = tt
stops_read before file tape bytes state a b lines lines' source (Some unread) trial was left on empty keeps not =
    let same : lines'.held ++ unread ≡ on.rest =
    subst (λ (o : Option (List ℕ)). Keeps o (Some (lines'.held ++ unread))) on.rest_is keeps in
    let none : Appends b b trial.reporter.text = subst (Appends b b) (sym empty) (Appends-nil b) in (
      lines.given + 1,
      lines'.held,
      false_from_ne_true (holds_line lines'.held) not,
      subst (λ (l : List ℕ). HasLed before file (lines_of bytes) state (lines.given + 1) (lines_of l) a b) (sym same)
          (led_here before file (lines_of bytes) state a b b (lines.given + 1) (lines_of on.rest) trial was on.led none),
    )

-- all lines were run
stops_behind : (before : Reporting) (file : CaptureFile) (tape : List ℕ) (lines : List (List ℕ)) (state : State) (unread a b c : Option (List ℕ)) (n : ℕ)
    (trial : Trial) (was left : Option (List ℕ)) (r : Result ⊤ TrialStatus) → LedTo HasStep before file 1 lines state a b n [] trial was
    → FeedHasTaken tape trial.feed was → IfErr r (λ e. e ≡ status.TapeFault → Appends b c trial.reporter.text)
    → IfErr r (λ e. e ≡ status.TapeFault → (bytes : List ℕ) → FeedHasTaken bytes trial.feed was → StopsInRest bytes left trial.feed.count)
    → IfErr r (λ e. e ≢ status.ScheduleFault) → StopsLines before file tape lines state left unread a c (status_answer r)
stops_behind before file tape lines state unread a b c n trial was left (Ok done) led had wrote cut not = tt
stops_behind before file tape lines state unread a b c n trial was left (Err e) led had wrote cut not =
    stops_capture before file tape lines state left unread a c e
    (λ is. led_to_cut before file tape lines state a b c n [] trial was left led (wrote is) (cut is tape had)) not

-- ---- a script

run_of : (detail : Detail) (file : CaptureFile) (lines : List (List ℕ)) (n : ℕ) (rest : List (List ℕ)) (a b : Option (List ℕ))
    → HasLed (new_reporter detail) file lines start n rest a b → HasRun detail file lines n rest a b
run_of detail file lines n rest a b led = record { state = led.reached; reports = led.reports; run = led.run; writes = led.writes }

of_lines : (detail : Detail) (tape : List ℕ) (lines : List (List ℕ)) (left unread a b : Option (List ℕ)) (answer : TrialStatus)
    → StopsLines (new_reporter detail) (file_of tape) tape lines start left unread a b answer → Stops detail tape lines left unread a b answer
of_lines detail tape lines left unread a b status.TapeFault (n, rest, led, cut) = (
  n,
  rest,
  record { state = led.reached; reports = led.reports; run = led.run; writes = led.writes },
  inr cut,
)
of_lines detail tape lines left None a b status.ScheduleFault stops = tt
of_lines detail tape lines left (Some unread) a b status.ScheduleFault (n, held, not, led) =
    (n, held, not, run_of detail (file_of tape) lines n (lines_of (held ++ unread)) a b led)
of_lines detail tape lines left unread a b status.Ok stops = tt
of_lines detail tape lines left unread a b (status.Usage word) stops = tt
of_lines detail tape lines left unread a b (status.BadTape kind place) stops = tt
of_lines detail tape lines left unread a b (status.TapeFull tick) stops = tt
of_lines detail tape lines left unread a b (status.UnitTooLarge tick) stops = tt
of_lines detail tape lines left unread a b (status.AudioLength length) stops = tt
of_lines detail tape lines left unread a b (status.BadSchedule line) stops = tt
of_lines detail tape lines left unread a b status.WriteFault stops = tt
of_lines detail tape lines left unread a b status.OutOfMemory stops = tt

-- the capture file isn't opened
unopened : (detail : Detail) (tape : List ℕ) (lines : List (List ℕ)) (left unread a : Option (List ℕ)) (e : TapeError)
    → OpensBytes (Some tape) left (Err e) → Stops detail tape lines left unread a a (tape_status e)
unopened detail tape lines left unread a tape_error.TapeFault cut = (
  1,
  lines,
  record { state = start; reports = []; run = leads_none HasStep (file_of tape) 1 lines start; writes = Appends-nil a },
  inl (refl, refl, cut),
)
unopened detail tape lines left unread a tape_error.OutOfMemory cut = tt
unopened detail tape lines left unread a (tape_error.BadTape kind place) cut = tt
unopened detail tape lines left unread a (tape_error.TapeFull tick) cut = tt
unopened detail tape lines left unread a (tape_error.UnitTooLarge tick) cut = tt
unopened detail tape lines left unread a (tape_error.AudioLength length) cut = tt

pub stops_unopened : (detail : Detail) (tape schedule left unread a : Option (List ℕ)) (e : TapeError) (answer : TrialStatus) → answer ≡ tape_status e
    → OpensBytes tape left (Err e) → StopsIfTold detail tape schedule left unread a a answer
stops_unopened detail None schedule left unread a e answer is cut = tt
stops_unopened detail (Some tape) None left unread a e answer is cut = tt
stops_unopened detail (Some tape) (Some schedule) left unread a e answer is cut =
    subst (Stops detail tape (lines_of schedule) left unread a a) (sym is) (unopened detail tape (lines_of schedule) left unread a e cut)

-- the file was opened, and this is the trial of its feed
pub script_stops : (detail : Detail) (before : Reporting) (tape schedule was left unread a b : Option (List ℕ)) (feed : Feeding)
    (trial : Trial) (answer : TrialStatus) → before ≡ record { detail = detail; text = [] } → OpensFeed tape was (Ok feed)
    → OpensBytes tape was (Ok feed) → feed.count ≡ 0 → trial.feed ≡ feed
    → ((file : CaptureFile) (left : Option (List ℕ)) → IsFeedOf feed file left → IsTrialOf trial file left start)
    → ((file : CaptureFile) (tape_bytes : List ℕ) (state : State) (bytes : List ℕ) → IsTrialOf trial file was state
    → FeedHasTaken tape_bytes trial.feed was → schedule ≡ Some bytes
    → StopsLines before file tape_bytes (lines_of bytes) state left unread a b answer) → StopsIfTold detail tape schedule left unread a b answer
script_stops detail before None schedule was left unread a b feed trial answer same opens takes none of stands stops = tt
script_stops detail before (Some tape) None was left unread a b feed trial answer same opens takes none of stands stops = tt
script_stops detail before (Some tape) (Some schedule) was left unread a b feed trial answer same opens takes none of stands stops =
    let file = file_of tape in
    let had : FeedHasTaken tape trial.feed was = taken_first tape feed trial.feed was takes none of in
    of_lines detail tape (lines_of schedule) left unread a b answer
    (subst (λ (r : Reporting). StopsLines r file tape (lines_of schedule) start left unread a b answer) same
    (stops file tape start schedule (stands file was (feed_of tape feed was opens)) had refl))

pub script_stops_behind : (detail : Detail) (before : Reporting) (tape schedule was mid left unread a b c : Option (List ℕ)) (feed : Feeding)
    (trial new : Trial) (r : Result ⊤ TrialStatus) → before ≡ record { detail = detail; text = [] } → OpensFeed tape was (Ok feed)
    → OpensBytes tape was (Ok feed) → feed.count ≡ 0 → trial.feed ≡ feed
    → ((file : CaptureFile) (left : Option (List ℕ)) → IsFeedOf feed file left → IsTrialOf trial file left start)
    → ((file : CaptureFile) (state : State) (bytes : List ℕ) → IsTrialOf trial file was state → schedule ≡ Some bytes
    → (n : ℕ) × LedTo HasStep before file 1 (lines_of bytes) state a b n [] new mid)
    → ((bytes : List ℕ) → FeedHasTaken bytes trial.feed was → FeedHasTaken bytes new.feed mid)
    → IfErr r (λ e. e ≡ status.TapeFault → Appends b c new.reporter.text)
    → IfErr r (λ e. e ≡ status.TapeFault → (bytes : List ℕ) → FeedHasTaken bytes new.feed mid → StopsInRest bytes left new.feed.count)
    → IfErr r (λ e. e ≢ status.ScheduleFault) → StopsIfTold detail tape schedule left unread a c (status_answer r)
script_stops_behind detail before tape schedule was mid left unread a b c feed trial new r same opens takes none of stands led more wrote cut not =
    script_stops detail before tape schedule was left unread a c feed trial (status_answer r) same opens takes none of stands
    (λ file tape_bytes state bytes there had is.
    let all = led file state bytes there is in
    stops_behind before file tape_bytes (lines_of bytes) state unread a b c all.0 new mid left r all.1 (more tape_bytes had) wrote cut not)
