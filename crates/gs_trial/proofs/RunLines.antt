-- Line after line.
use Rattle.std.proofs.Common.{◌≡◌, ◌+◌, ◌-◌, ◌<◌, ◌≤◌, ◌^◌, ◌++◌, ◌∙◌, ◌↔◌, ℕ, List, [], ◌∷◌, length, Option, Some, None, Result, Ok, Err}
use Rattle.std.proofs.Common.{◌⊎◌, false, append-nil, refl, sym, ap, subst}
use Rattle.std.specs.Prelude.{IfSome}
use Rattle.std.specs.Io.KnownBytes.{Appends, IsAtEnd, prepend_known}
use Rattle.gs_bytes.specs.Outside.{AppendsPart}
use Rattle.gs_schedule.specs.Lines.{AnswersLine, LinesState, LosesLine, lines_of, most_line, next_line, lines_to_come}
use Rattle.gs_schedule.specs.Step.{Spells}
use Rattle.gs_schedule.specs.declared.line.Line.{Line}
use Rattle.gs_schedule.specs.declared.lines_error.LinesError.{LinesError}
use Rattle.gs_schedule.specs.declared.lines_error.LinesError.TheVariants as lines_error
use Rattle.gs_schedule.specs.declared.status.TrialStatus.{TrialStatus}
use Rattle.gs_schedule.specs.declared.status.TrialStatus.TheVariants as status
use Rattle.gs_schedule.specs.declared.step.Step.{Step}
use Rattle.gs_report.specs.Reporting.{Reporting, with_reports}
use Rattle.gs_run.specs.CaptureFile.{CaptureFile}
use Rattle.gs_run.specs.Session.{State}
use Rattle.gs_run.specs.Done.{ran}
use Rattle.gs_run.specs.Line.{HasStep}
use Rattle.gs_run.specs.Run.{stopped}
use Rattle.gs_trial.specs.declared.trial.Trial.{Trial}
use Rattle.gs_trial.specs.Standing.{IsTrialOf}
use Rattle.gs_trial.specs.Running.{EndsRun, EndsStep, IsSameButText, Leads, LedTo, RanStep, WritesBehind, WritesUpTo, WritesWaiting}
use Rattle.gs_trial.specs.Trial.{is_of_run}
use Rattle.gs_trial.proofs.Leading.{ends_bad, ends_behind, ends_front, ends_step, front_of, leads_more, leads_step, led_none, next_bad, next_none, same_stands}
use Rattle.gs_run.proofs.SomeRun.{lines_some}
use Rattle.gs_trial.proofs.Results.{not_of_run, not_of_source}
use Rattle.gs_trial.proofs.Texts.{front_part, up_to_on, up_to_reports, waiting_front}

-- ---- one line

pub has_step : (number : ℕ) (line read : List ℕ) (found : Option Step) (step : Step) → read ≡ line → found ≡ Some step
    → ((s : Step) → (found ≡ Some s) ↔ Spells read s)
    → length line ≤ most_line → number < 2 ^ 32 - 1 → HasStep number line (Some step)
has_step number line read found step same is reads short numbered =
    record { spells = subst (λ (l : List ℕ). Spells l step) same ((reads step).0 is); short = short; numbered = numbered }

pub has_none : (number : ℕ) (line read : List ℕ) (found : Option Step) → read ≡ line → found ≡ None → ((s : Step) → (found ≡ Some s) ↔ Spells read s)
    → HasStep number line None
has_none number line read found same is reads = λ step of.
    absurd (cc (is, (reads step).1 (subst (λ (l : List ℕ). Spells l step) (sym same) of.spells)))

pub led_line : (before : Reporting) (file : CaptureFile) (number : ℕ) (line : List ℕ) (rest : List (List ℕ)) (state : State) (step : Step)
    (a b left : Option (List ℕ)) (new : Trial)
    → HasStep number line (Some step) → RanStep before file step state a b new left
    → LedTo HasStep before file number (line ∷ rest) state a b (number + 1) rest new left
led_line before file number line rest state step a b left new has did = record {
  reached = (ran file did.deeds state).state;
  reports = (ran file did.deeds state).reports;
  run = leads_step HasStep file number line rest state step did.deeds has did.are_deeds did.all;
  stands = did.stands;
  detail_is = did.detail_is;
  writes = did.writes;
}

pub ends_line : (before : Reporting) (file : CaptureFile) (number : ℕ) (line : List ℕ) (rest : List (List ℕ)) (state : State) (step : Step)
    (a b : Option (List ℕ)) (answer : TrialStatus)
    → HasStep number line (Some step) → EndsStep before file number step state a b answer
    → EndsRun HasStep before file number (line ∷ rest) state a b answer
ends_line before file number line rest state step a b answer has ends =
    ends_step HasStep before file number line rest state step a b answer (λ t. lines_some file (number + 1) rest t) has ends

-- what waits is written, and then the line is at fault
pub bad_line : (before : Reporting) (number : ℕ) (state : State) (a b : Option (List ℕ)) → Appends a b before.text
    → WritesBehind before (stopped (status.BadSchedule number) state) a b (status.BadSchedule number)
bad_line before number state a b wrote = (refl, subst (Appends a b) (sym (append-nil before.text)) wrote)

-- a part of what waited
pub waiting_part : (before : Reporting) (a b : Option (List ℕ)) (answer : TrialStatus) → (answer ≡ status.WriteFault) ⊎ (answer ≡ status.OutOfMemory)
    → AppendsPart a b before.text → WritesWaiting answer a b before.text
waiting_part before a b answer cause part = waiting_front answer a b before.text (not_of_source answer cause) (front_part a b before.text part)

pub unwritten_line : (before : Reporting) (number : ℕ) (state : State) (a b : Option (List ℕ)) (answer : TrialStatus)
    → (answer ≡ status.WriteFault) ⊎ (answer ≡ status.OutOfMemory) → AppendsPart a b before.text
    → WritesBehind before (stopped (status.BadSchedule number) state) a b answer
unwritten_line before number state a b answer cause part =
    front_of before (stopped (status.BadSchedule number) state) a b answer (not_of_run answer cause) (waiting_part before a b answer cause part)

-- ---- one after the other

-- Lines were run, up to those that the reader and its source still give.
pub record LedOn (before : Reporting) (file : CaptureFile) (bytes : List ℕ) (state : State) (a b : Option (List ℕ)) (lines : LinesState)
    (source : Option (List ℕ)) (trial : Trial) (left : Option (List ℕ)) : Type 0 where
  pub rest : List ℕ
  pub rest_is : lines_to_come lines source ≡ Some rest
  pub led : LedTo HasStep before file 1 (lines_of bytes) state a b (lines.given + 1) (lines_of rest) trial left

pub led_start : (file : CaptureFile) (bytes : List ℕ) (state : State) (a source : Option (List ℕ)) (trial : Trial) (left : Option (List ℕ))
    → IsTrialOf trial file left state → source ≡ Some bytes
    → LedOn trial.reporter file bytes state a a (record { given = 0; held = [] }) source trial left
led_start file bytes state a source trial left stands is = record {
  rest = bytes;
  rest_is = ap (prepend_known []) is;
  led = led_none HasStep file 1 (lines_of bytes) state a trial left stands;
}

-- some of what waited was written
pub led_written : (before : Reporting) (file : CaptureFile) (bytes : List ℕ) (state : State) (a b c : Option (List ℕ)) (lines : LinesState)
    (source : Option (List ℕ)) (trial new : Trial) (left : Option (List ℕ)) → IsSameButText trial new → WritesUpTo b c trial.reporter.text new.reporter.text
    → LedOn before file bytes state a b lines source trial left → LedOn before file bytes state a c lines source new left
led_written before file bytes state a b c lines source trial new left same wrote on =
    let led = on.led in
    record {
      rest = on.rest;
      rest_is = on.rest_is;
      led = record {
        reached = led.reached;
        reports = led.reports;
        run = led.run;
        stands = same_stands trial new file left led.reached same led.stands;
        detail_is = same.detail ∙ led.detail_is;
        writes = up_to_on a b c (with_reports before led.reports).text trial.reporter.text new.reporter.text led.writes wrote;
      };
    }

-- the next line was given
pub losing : (before after : Option (List ℕ)) (rest line : List ℕ) → before ≡ Some rest → LosesLine before after line
    → (now : List ℕ) × (after ≡ Some now) × (lines_of rest ≡ line ∷ lines_of now)
losing before after rest line is loses = by after (subst (λ (o : Option (List ℕ)). LosesLine o after line) is loses)
  where
    by : (after : Option (List ℕ)) → LosesLine (Some rest) after line → (now : List ℕ) × (after ≡ Some now) × (lines_of rest ≡ line ∷ lines_of now)
    by None loses = absurd loses
    by (Some now) loses = (now, refl, loses)

pub led_more : (before : Reporting) (file : CaptureFile) (bytes : List ℕ) (state : State) (a b d : Option (List ℕ)) (lines lines' : LinesState)
    (source source' : Option (List ℕ))
    (trial new : Trial) (left left' : Option (List ℕ)) (line : Line) → LedOn before file bytes state a b lines source trial left
    → LosesLine (lines_to_come lines source) (lines_to_come lines' source') line.bytes → line.number ≡ lines.given + 1 → lines'.given ≡ line.number
    → ((t : State) (rest : List (List ℕ)) → IsTrialOf trial file left t
    → LedTo HasStep trial.reporter file line.number (line.bytes ∷ rest) t b d (line.number + 1) rest new left')
    → LedOn before file bytes state a d lines' source' new left'
led_more before file bytes state a b d lines lines' source source' trial new left left' line on loses number given run =
    let l = losing (lines_to_come lines source) (lines_to_come lines' source') on.rest line.bytes on.rest_is loses in
    let first = on.led in
    let one = run first.reached (lines_of l.0) first.stands in
    let start : Leads HasStep file (lines.given + 1) (lines_of on.rest) first.reached one.reports (lines'.given + 1) (lines_of l.0) one.reached =
    subst (λ (n : ℕ). Leads HasStep file n (lines_of on.rest) first.reached one.reports (lines'.given + 1) (lines_of l.0) one.reached) number
    (subst (λ (n : ℕ). Leads HasStep file line.number (lines_of on.rest) first.reached one.reports (n + 1) (lines_of l.0) one.reached) (sym given)
    (subst (λ (ls : List (List ℕ)). Leads HasStep file line.number ls first.reached one.reports (line.number + 1) (lines_of l.0) one.reached)
    (sym l.2) one.run)) in
    record {
      rest = l.0;
      rest_is = l.1;
      led = record {
        reached = one.reached;
        reports = first.reports ++ one.reports;
        run = leads_more HasStep file 1 (lines.given + 1) (lines'.given + 1) (lines_of bytes) (lines_of on.rest)
            (lines_of l.0) state first.reached one.reached first.reports one.reports
            first.run start;
        stands = one.stands;
        detail_is = one.detail_is ∙ first.detail_is;
        writes = up_to_reports before trial.reporter first.reports one.reports a b d new.reporter.text first.detail_is first.writes one.writes;
      };
    }

-- the run ends behind the lines that were run
ends_on : (before : Reporting) (file : CaptureFile) (bytes : List ℕ) (state : State) (a b d : Option (List ℕ)) (lines : LinesState) (source : Option (List ℕ))
    (trial : Trial) (left : Option (List ℕ)) (answer : TrialStatus) → (on : LedOn before file bytes state a b lines source trial left)
    → EndsRun HasStep trial.reporter file (lines.given + 1) (lines_of on.rest) on.led.reached b d answer
    → EndsRun HasStep before file 1 (lines_of bytes) state a d answer
ends_on before file bytes state a b d lines source trial left answer on there =
    ends_behind HasStep before trial.reporter file 1 (lines.given + 1) (lines_of bytes) (lines_of on.rest) state on.led.reached on.led.reports a b d answer
    on.led.run on.led.detail_is on.led.writes there

-- the next line ends the run
pub ends_more : (before : Reporting) (file : CaptureFile) (bytes : List ℕ) (state : State) (a b d : Option (List ℕ)) (lines lines' : LinesState)
    (source source' : Option (List ℕ))
    (trial : Trial) (left : Option (List ℕ)) (line : Line) (answer : TrialStatus) → LedOn before file bytes state a b lines source trial left
    → LosesLine (lines_to_come lines source) (lines_to_come lines' source') line.bytes → line.number ≡ lines.given + 1
    → ((t : State) (rest : List (List ℕ)) → IsTrialOf trial file left t
    → EndsRun HasStep trial.reporter file line.number (line.bytes ∷ rest) t b d answer)
    → EndsRun HasStep before file 1 (lines_of bytes) state a d answer
ends_more before file bytes state a b d lines lines' source source' trial left line answer on loses number run =
    let l = losing (lines_to_come lines source) (lines_to_come lines' source') on.rest line.bytes on.rest_is loses in
    let first = on.led in
    ends_on before file bytes state a b d lines source trial left answer on
    (subst (λ (n : ℕ). EndsRun HasStep trial.reporter file n (lines_of on.rest) first.reached b d answer) number
    (subst (λ (ls : List (List ℕ)). EndsRun HasStep trial.reporter file line.number ls first.reached b d answer) (sym l.2)
    (run first.reached (lines_of l.0) first.stands)))

-- none is left
pub led_all : (before : Reporting) (file : CaptureFile) (bytes : List ℕ) (state : State) (a b : Option (List ℕ)) (lines : LinesState)
    (source : Option (List ℕ)) (trial : Trial) (left : Option (List ℕ)) (found : Result (Option Line) LinesError)
    → LedOn before file bytes state a b lines source trial left
    → IfSome (lines_to_come lines source) (λ rest. AnswersLine found (next_line lines.given (lines_of rest))) → found ≡ Ok None
    → (n : ℕ) × LedTo HasStep before file 1 (lines_of bytes) state a b n [] trial left
led_all before file bytes state a b lines source trial left found on given is =
    let at : AnswersLine found (next_line lines.given (lines_of on.rest)) =
    subst (λ (o : Option (List ℕ)). IfSome o (λ rest. AnswersLine found (next_line lines.given (lines_of rest)))) on.rest_is given in
    let none : lines_of on.rest ≡ [] = next_none lines.given (lines_of on.rest)
    (subst (λ (f : Result (Option Line) LinesError). AnswersLine f (next_line lines.given (lines_of on.rest))) is at) in
    (lines.given + 1, subst (λ (ls : List (List ℕ)). LedTo HasStep before file 1 (lines_of bytes) state a b (lines.given + 1) ls trial left) none on.led)

-- at most what waited was written
pub ends_quietly : (before : Reporting) (file : CaptureFile) (bytes : List ℕ) (state : State) (a b d : Option (List ℕ)) (lines : LinesState)
    (source : Option (List ℕ)) (trial : Trial) (left : Option (List ℕ)) (answer : TrialStatus) → is_of_run answer ≡ false
    → WritesWaiting answer b d trial.reporter.text → LedOn before file bytes state a b lines source trial left
    → EndsRun HasStep before file 1 (lines_of bytes) state a d answer
ends_quietly before file bytes state a b d lines source trial left answer not wrote on =
    ends_on before file bytes state a b d lines source trial left answer on
    (ends_front trial.reporter file (lines.given + 1) (lines_of on.rest) on.led.reached b d answer not wrote)

-- the next line is too long
pub ends_long : (before : Reporting) (file : CaptureFile) (bytes : List ℕ) (state : State) (a b d : Option (List ℕ)) (lines : LinesState)
    (source : Option (List ℕ)) (trial : Trial) (left : Option (List ℕ)) (k : ℕ) (found : Result (Option Line) LinesError) (answer : TrialStatus)
    → LedOn before file bytes state a b lines source trial left
    → IfSome (lines_to_come lines source) (λ rest. AnswersLine found (next_line lines.given (lines_of rest))) → found ≡ Err (lines_error.TooLong k)
    → ((t : State) → WritesBehind trial.reporter (stopped (status.BadSchedule k) t) b d answer)
    → EndsRun HasStep before file 1 (lines_of bytes) state a d answer
ends_long before file bytes state a b d lines source trial left k found answer on given is wrote =
    let at : next_line lines.given (lines_of on.rest) ≡ Err k =
    subst (λ (f : Result (Option Line) LinesError). AnswersLine f (next_line lines.given (lines_of on.rest))) is
    (subst (λ (o : Option (List ℕ)). IfSome o (λ rest. AnswersLine found (next_line lines.given (lines_of rest)))) on.rest_is given) in
    let (line, rest, ls, number, none) = next_bad lines.given (lines_of on.rest) k at in
    let t = on.led.reached in
    ends_on before file bytes state a b d lines source trial left answer on
    (subst (λ (l : List (List ℕ)). EndsRun HasStep trial.reporter file (lines.given + 1) l t b d answer) (sym ls)
    (ends_bad trial.reporter file (lines.given + 1) line rest t b d answer none
    (subst (λ (n : ℕ). WritesBehind trial.reporter (stopped (status.BadSchedule n) t) b d answer) number (wrote t))))

-- where nothing is to come nothing is left
pub none_left : (held : List ℕ) (left : Option (List ℕ)) → IsAtEnd (prepend_known held left) → IsAtEnd left
none_left held None end = tt
none_left [] (Some xs) end = end
none_left (b ∷ held) (Some xs) end = absurd cc
