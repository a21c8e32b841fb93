-- Steps that were run, and those that are left.
use Rattle.std.proofs.Common.{◌≡◌, ◌+◌, ◌-◌, ◌^◌, ◌||◌, ℕ, Bool, true, false, cond, List, [], ◌∷◌, ◌++◌, length, Option, Some, None}
use Rattle.std.proofs.Common.{Result, Ok, Err, refl, sym, ap, subst, arith, append-nil, append_assoc, inl, inr, ◌∙◌}
use Rattle.std.specs.Prelude.{MatchBool, nat_lt, ◌==◌}
use Rattle.std.specs.Io.KnownBytes.{Appends}
use Rattle.std.proofs.lemmas.Bool.{ltb-true, eqb-true, or_cases}
use Rattle.gs_feed.specs.Feeding.{Feeding}
use Rattle.gs_loopback.specs.declared.session.Loopback.{Loopback}
use Rattle.gs_command.specs.declared.command.Detail.{Detail}
use Rattle.gs_schedule.specs.declared.step.Step.{Step}
use Rattle.gs_schedule.specs.declared.line.Line.{Line}
use Rattle.gs_schedule.specs.declared.status.TrialStatus.{TrialStatus}
use Rattle.gs_schedule.specs.declared.status.TrialStatus.TheVariants as status
use Rattle.gs_schedule.specs.Lines.{most_line, next_line}
use Rattle.gs_report.specs.Reporting.{Reporting, with_reports}
use Rattle.gs_report.proofs.Reported.{with_none}
use Rattle.gs_run.specs.CaptureFile.{CaptureFile}
use Rattle.gs_run.specs.Session.{State}
use Rattle.gs_run.specs.Report.{Report, text_of}
use Rattle.gs_run.specs.Deed.{Deed}
use Rattle.gs_run.specs.Refusal.{Refusal}
use Rattle.gs_run.specs.Done.{Ran, ran}
use Rattle.gs_run.specs.Line.{AreDeeds, HasStep}
use Rattle.gs_run.specs.Run.{Run, behind, refusal_status, stopped, RunsFrom, RunsOn}
use Rattle.gs_trial.specs.declared.trial.Trial.{Trial}
use Rattle.gs_trial.specs.Standing.{AreSessions, IsFeedOf, IsTrialOf}
use Rattle.gs_trial.specs.Trial.{is_of_run}
use Rattle.gs_trial.specs.Running.{EndsRun, EndsStep, IsRunRefused, IsSameButText, Leads, LedTo, WritesBehind, WritesPart, WritesUpTo, WritesWaiting}
use Rattle.gs_run.proofs.SomeRun.{lines_some}
use Rattle.gs_bytes.proofs.Cases.{match_more}
use Rattle.gs_trial.proofs.Texts.{all_behind, more_text, part_longer, part_of, part_on, up_to_none}

-- ---- what was run

pub leads_none : {A : Type 0} (Has : ℕ → A → Option Step → Type 0) (file : CaptureFile) (n : ℕ) (xs : List A) (s : State)
    → Leads Has file n xs s [] n xs s
leads_none Has file n xs s = record { leads = λ run runs. runs }

pub leads_more : {A : Type 0} (Has : ℕ → A → Option Step → Type 0) (file : CaptureFile) (n m k : ℕ) (xs ys zs : List A) (s t u : State) (rs qs : List Report)
    → Leads Has file n xs s rs m ys t → Leads Has file m ys t qs k zs u → Leads Has file n xs s (rs ++ qs) k zs u
leads_more Has file n m k xs ys zs s t u rs qs first second = record {
  leads = λ run runs.
      let joined : behind rs (behind qs run) ≡ behind (rs ++ qs) run =
      ap (λ (l : List Report). record run { reports = l }) (sym (append_assoc rs qs run.reports)) in
      subst (RunsFrom Has file n xs s) joined (first.leads (behind qs run) (second.leads run runs));
}

-- a step whose deeds were done
pub leads_step : {A : Type 0} (Has : ℕ → A → Option Step → Type 0) (file : CaptureFile) (n : ℕ) (x : A) (xs : List A) (s : State) (step : Step)
    (deeds : List Deed)
    → Has n x (Some step) → AreDeeds file step s deeds → (ran file deeds s).refused ≡ None
    → Leads Has file n (x ∷ xs) s (ran file deeds s).reports (n + 1) xs (ran file deeds s).state
leads_step Has file n x xs s step deeds has are all = record {
  leads = λ run runs.
      let did = ran file deeds s in
      let Rest = RunsFrom Has file (n + 1) xs in
      (Some step, has, (deeds, are, subst (λ (o : Option Refusal). RunsOn n o did Rest (behind did.reports run)) (sym all) (run, runs, refl)));
}

-- nothing was run yet
pub led_none : {A : Type 0} (Has : ℕ → A → Option Step → Type 0) (file : CaptureFile) (n : ℕ) (xs : List A) (s : State) (a : Option (List ℕ)) (trial : Trial)
    (left : Option (List ℕ)) → IsTrialOf trial file left s → LedTo Has trial.reporter file n xs s a a n xs trial left
led_none Has file n xs s a trial left stands = record {
  reached = s;
  reports = [];
  run = leads_none Has file n xs s;
  stands = stands;
  detail_is = refl;
  writes = subst (λ (r : Reporting). WritesUpTo a a r.text trial.reporter.text) (sym (with_none trial.reporter)) (up_to_none a trial.reporter.text);
}

-- another trial of the same
pub same_stands : (mid new : Trial) (file : CaptureFile) (left : Option (List ℕ)) (state : State) → IsSameButText mid new → IsTrialOf mid file left state
    → IsTrialOf new file left state
same_stands mid new file left state same stands =
    let items : new.sessions.items ≡ mid.sessions.items = ap (λ v. v.items) same.sessions in
    record {
      feed = subst (λ (f : Feeding). IsFeedOf f file left) (sym same.feed) stands.feed;
      captured = ap (λ (f : Feeding). f.count) same.feed ∙ stands.captured;
      moment = same.moment ∙ stands.moment;
      sessions = subst (λ (ls : List Loopback). AreSessions file.ticks 1 ls state.sessions) (sym items) stands.sessions;
    }

-- ---- how a run ends

pub by_answer : (before : Reporting) (run : Run) (a b : Option (List ℕ)) (answer : TrialStatus) (x : Bool) → is_of_run answer ≡ x
    → MatchBool x ((run.status ≡ answer) × Appends a b (with_reports before run.reports).text) (WritesPart answer before run.reports a b)
    → WritesBehind before run a b answer
by_answer before run a b answer x is w =
    subst (λ (y : Bool). MatchBool y ((run.status ≡ answer) × Appends a b (with_reports before run.reports).text)
    (WritesPart answer before run.reports a b)) (sym is) w

-- at most what waited was written
pub front_of : (before : Reporting) (run : Run) (a b : Option (List ℕ)) (answer : TrialStatus) → is_of_run answer ≡ false
    → WritesWaiting answer a b before.text → WritesBehind before run a b answer
front_of before run a b answer not wrote = by_answer before run a b answer false not (part_of answer before run.reports a b wrote)

-- behind what was run
pub ends_behind : {A : Type 0} (Has : ℕ → A → Option Step → Type 0) (before here : Reporting) (file : CaptureFile) (n m : ℕ) (xs ys : List A) (s t : State)
    (rs : List Report) (a b c : Option (List ℕ)) (answer : TrialStatus) → Leads Has file n xs s rs m ys t → here.detail ≡ before.detail
    → WritesUpTo a b (with_reports before rs).text here.text → EndsRun Has here file m ys t b c answer → EndsRun Has before file n xs s a c answer
ends_behind Has before here file n m xs ys s t rs a b c answer led same wrote ends =
    let run = ends.run in
    let more = text_of before.detail run.reports in
    let whole = more_text before rs run.reports in
    record {
      run = behind rs run;
      runs = led.leads run ends.runs;
      writes = match_more (is_of_run answer) _ _ _ _
          (λ p. (
            p.0,
            subst (Appends a c) whole (all_behind a b c (with_reports before rs).text here.text more wrote
                (subst (λ (d : Detail). Appends b c (here.text ++ text_of d run.reports)) same p.1)),
          ))
          (λ q. part_on answer before here rs run.reports a b c same wrote q)
          ends.writes;
    }

-- with an answer that isn't the run's at most what waited was written
pub ends_front : (before : Reporting) (file : CaptureFile) (n : ℕ) (xs : List (List ℕ)) (s : State) (a c : Option (List ℕ)) (answer : TrialStatus)
    → is_of_run answer ≡ false → WritesWaiting answer a c before.text → EndsRun HasStep before file n xs s a c answer
ends_front before file n xs s a c answer not wrote =
    let run = lines_some file n xs s in
    record { run = run.0; runs = run.1; writes = front_of before run.0 a c answer not wrote }

-- a line that has no step
pub ends_bad : (before : Reporting) (file : CaptureFile) (n : ℕ) (x : List ℕ) (xs : List (List ℕ)) (s : State) (a c : Option (List ℕ))
    (answer : TrialStatus) → HasStep n x None → WritesBehind before (stopped (status.BadSchedule n) s) a c answer
    → EndsRun HasStep before file n (x ∷ xs) s a c answer
ends_bad before file n x xs s a c answer has wrote = record {
  run = stopped (status.BadSchedule n) s;
  runs = (None, has, refl);
  writes = wrote;
}

-- the run behind deeds of which one was refused, or of which it isn't known
step_end : (before : Reporting) (Rest : State → Run → Type 0) → ((t : State) → (run : Run) × Rest t run) → (did : Ran) (refused : Option Refusal) (n : ℕ)
    (a c : Option (List ℕ)) (answer : TrialStatus) (b : Bool) → is_of_run answer ≡ b
    → MatchBool b (IsRunRefused n refused answer × Appends a c (with_reports before did.reports).text) (WritesPart answer before did.reports a c)
    → (run : Run) × RunsOn n refused did Rest run × WritesBehind before run a c answer
step_end before Rest more did (Some why) n a c answer true eq w =
    let run = behind did.reports (stopped (refusal_status n why) did.state) in
    let P = (run.status ≡ answer) × Appends a c (with_reports before run.reports).text in
    let Q = WritesPart answer before run.reports a c in
    let text : Appends a c (with_reports before run.reports).text =
    subst (λ (l : List Report). Appends a c (with_reports before l).text) (sym (append-nil did.reports)) w.1 in
    (run, refl, subst (λ (b : Bool). MatchBool b P Q) (sym eq) (w.0, text))
step_end before Rest more did None n a c answer true eq w = absurd w.0
step_end before Rest more did (Some why) n a c answer false eq w =
    let run = behind did.reports (stopped (refusal_status n why) did.state) in
    let P = (run.status ≡ answer) × Appends a c (with_reports before run.reports).text in
    let Q = WritesPart answer before run.reports a c in
    let text : Q = subst (λ (l : List Report). WritesPart answer before l a c) (sym (append-nil did.reports)) w in
    (run, refl, subst (λ (b : Bool). MatchBool b P Q) (sym eq) text)
step_end before Rest more did None n a c answer false eq w =
    let rest = more did.state in
    let run = behind did.reports rest.0 in
    let P = (run.status ≡ answer) × Appends a c (with_reports before run.reports).text in
    let Q = WritesPart answer before run.reports a c in
    let text : Q = part_longer answer before did.reports rest.0.reports a c w in
    (run, (rest.0, rest.1, refl), subst (λ (b : Bool). MatchBool b P Q) (sym eq) text)

-- a step of which a deed was refused, or that wasn't run whole
pub ends_step : {A : Type 0} (Has : ℕ → A → Option Step → Type 0) (before : Reporting) (file : CaptureFile) (n : ℕ) (x : A) (xs : List A) (s : State)
    (step : Step) (a c : Option (List ℕ)) (answer : TrialStatus) → ((t : State) → (run : Run) × RunsFrom Has file (n + 1) xs t run) → Has n x (Some step)
    → EndsStep before file n step s a c answer → EndsRun Has before file n (x ∷ xs) s a c answer
ends_step Has before file n x xs s step a c answer rest has ends =
    let did = ran file ends.deeds s in
    let end = step_end before (RunsFrom Has file (n + 1) xs) rest did did.refused n a c answer (is_of_run answer) refl ends.writes in
    record { run = end.0; runs = (Some step, has, (ends.deeds, ends.are_deeds, end.1)); writes = end.2 }

-- ---- the next line

no_step : (g : ℕ) (line : List ℕ) → (nat_lt most_line (length line) || (g + 1 == 2 ^ 32 - 1)) ≡ true → HasStep (g + 1) line None
no_step g line test = λ step is. elim (or_cases (nat_lt most_line (length line)) (g + 1 == 2 ^ 32 - 1) test) [
  | inl long ↦ absurd (omega (arith, is.short, ltb-true most_line (length line) long))
  | inr last ↦ absurd (omega (arith, is.numbered, eqb-true (g + 1) (2 ^ 32 - 1) last))
]

-- a line that is refused has no step
pub next_bad : (g : ℕ) (lines : List (List ℕ)) (k : ℕ) → next_line g lines ≡ Err k
    → (line : List ℕ) × (rest : List (List ℕ)) × (lines ≡ line ∷ rest) × (k ≡ g + 1) × HasStep (g + 1) line None
next_bad g [] k is = absurd cc
next_bad g (line ∷ rest) k is = by (nat_lt most_line (length line) || (g + 1 == 2 ^ 32 - 1)) refl is
  where
    by : (b : Bool) → (nat_lt most_line (length line) || (g + 1 == 2 ^ 32 - 1)) ≡ b
        → cond {A = Result (Option Line) ℕ} b (Err (g + 1)) (Ok (Some (record { number = g + 1; bytes = line }))) ≡ Err k
        → (l : List ℕ) × (r : List (List ℕ)) × (line ∷ rest ≡ l ∷ r) × (k ≡ g + 1) × HasStep (g + 1) l None
    by true e is = (line, rest, refl, cc, no_step g line e)
    by false e is = absurd cc

-- none comes where none is left
pub next_none : (g : ℕ) (lines : List (List ℕ)) → next_line g lines ≡ Ok None → lines ≡ []
next_none g [] is = refl
next_none g (line ∷ rest) is = by (nat_lt most_line (length line) || (g + 1 == 2 ^ 32 - 1)) is
  where
    by : (b : Bool) → cond {A = Result (Option Line) ℕ} b (Err (g + 1)) (Ok (Some (record { number = g + 1; bytes = line }))) ≡ Ok None → line ∷ rest ≡ []
    by true is = absurd cc
    by false is = absurd cc
