-- What holds of every run.
use Rattle.std.proofs.Common.{◌≡◌, ◌⊎◌, ◌+◌, ◌&&◌, ℕ, zero, suc, Bool, true, false, cond, List, [], ◌∷◌, ◌++◌, length, take, Option, Some, None, refl, sym, ap}
use Rattle.std.proofs.Common.{subst, ◌∙◌, inl, inr, arith}
use Rattle.std.specs.Prelude.{◌==◌, reverse}
use Rattle.std.specs.List.{AllByRecursion, Contains, filter, flat_map}
use Rattle.std.specs.Option.{IfSome}
use Rattle.std.proofs.lemmas.Bool.{eq-eqb}
use Rattle.std.proofs.lemmas.List.{append-nil}
use Rattle.std.proofs.lemmas.List.Elements.{filter-append, Contains-append_right}
use Rattle.gs_tape.specs.Tick.{Tick}
use Rattle.gs_audio.specs.PlayedLaws.{PlayedUnitsWereSent}
use Rattle.gs_input.specs.Laws.{PacketIsRead}
use Rattle.gs_enet.specs.declared.event.PeerEvent.{PeerEvent}
use Rattle.gs_enet.specs.declared.event.PeerEvent.TheVariants as event
use Rattle.gs_schedule.specs.declared.status.TrialStatus.{TrialStatus}
use Rattle.gs_schedule.specs.declared.status.TrialStatus.TheVariants as status
use Rattle.gs_schedule.specs.declared.output.Output.{Output}
use Rattle.gs_schedule.specs.declared.output.Output.TheVariants as output
use Rattle.gs_run.specs.CaptureFile.{CaptureFile, file_of, generated_file}
use Rattle.gs_run.specs.Session.{Part, RunSession, State, start, session_numbered}
use Rattle.gs_run.specs.Report.{Report, plain}
use Rattle.gs_run.specs.Deed.{Deed}
use Rattle.gs_run.specs.Done.{ran}
use Rattle.gs_run.specs.Totals.{parts_of, total_of, totals_from}
use Rattle.gs_run.specs.Line.{HasStep}
use Rattle.gs_run.specs.Run.{Run, IsStep}
use Rattle.gs_run.specs.Generated.{generated_steps}
use Rattle.gs_run.specs.RunLaws.{IsCapture, IsPairedPart, HandsCaptured, HandsReferences}
use Rattle.gs_run.specs.RunLaws.{CompletesFrames, PlaysCaptured, TellsInOrder}
use Rattle.gs_run.specs.ReportLaws.{session_of, reported_lines, over_parts, is_hand, is_ask, is_play, is_input}
use Rattle.gs_run.specs.UserEvents.{GiveEvents, IsProperDeed, TellUsers, RunsTellUsers}
use Rattle.gs_run.specs.WholeRun.{ending, IsDoneBy, PartHolds, EachPartHolds, HaveOnePart, is_entry, is_closed, closed_report, given_by, ReportsAre, LinesHold}
use Rattle.gs_run.specs.WholeRun.{TellsAll, TellAllOnceClosed, RunsTellAllOnceClosed, StateHolds, RunHolds, RunsHaveDeeds, RunsOfStepsHaveDeeds}
use Rattle.gs_run.specs.WholeRun.{IsCaptureUnlessFaulty, RunsHold, RunsOfStepsHold, RunsOverBytesHold, GeneratedRunsHold}
use Rattle.gs_run.proofs.Runs.{runs_are_paired, runs_hand_captured_units, runs_hand_references, runs_complete_frames}
use Rattle.gs_run.proofs.Runs.{runs_play_captured_units, runs_tell_in_order}
use Rattle.gs_run.proofs.PartLines.{Tells}
use Rattle.gs_run.proofs.StreamLines.{tells_hands, tells_asks, tells_plays}
use Rattle.gs_run.proofs.InputLines.{tells_inputs}
use Rattle.gs_run.proofs.StateLines.{given_at, all_reports_of}
use Rattle.gs_run.proofs.HostLines.{tells_entries, tells_closed}
use Rattle.gs_run.proofs.ToldEvents.{tells_user}
use Rattle.gs_run.proofs.UserEvents.{runs_give_events}
use Rattle.gs_run.proofs.OneParts.{IsOnePart, of_number, runs_have_one_part}
use Rattle.gs_run.proofs.DoneRuns.{HaveProper, HasDeeds, has_deeds}
use Rattle.gs_run.proofs.ProperDeeds.{lines_are_proper, steps_are_proper, generated_are_proper}
use Rattle.gs_run.proofs.Captures.{bytes_are_captures, generated_files_are_captures}

-- ---- the parts

-- two facts of each part are one
joined : {X : Type 0} (P Q R : X → Type 0) (xs : List X) → ((x : X) → P x → Q x → R x) → AllByRecursion P xs → AllByRecursion Q xs
    → AllByRecursion R xs
joined P Q R [] join p q = tt
joined P Q R (x ∷ xs) join p q = (join x p.0 q.0, joined P Q R xs join p.1 q.1)

abbrev OfParts : (Part → Type 0) → List RunSession → Type 0
OfParts Holds sessions = AllByRecursion (λ session. AllByRecursion Holds (parts_of session)) sessions

joined_parts : (P Q R : Part → Type 0) (sessions : List RunSession) → ((part : Part) → P part → Q part → R part) → OfParts P sessions → OfParts Q sessions
    → OfParts R sessions
joined_parts P Q R sessions join p q =
    joined (λ session. AllByRecursion P (parts_of session)) (λ session. AllByRecursion Q (parts_of session))
    (λ session. AllByRecursion R (parts_of session)) sessions (λ session. joined P Q R (parts_of session) join) p q

-- a part's first, second and further facts
abbrev First : List Tick → Part → Type 0
First ticks part = IsPairedPart ticks part × HandsCaptured ticks part

abbrev Second : List Tick → Part → Type 0
Second ticks part = First ticks part × HandsReferences ticks part

abbrev Third : List Tick → Part → Type 0
Third ticks part = Second ticks part × PlaysCaptured ticks part

abbrev Fourth : List Tick → Part → Type 0
Fourth ticks part = Third ticks part × CompletesFrames ticks part

parts_hold : PlayedUnitsWereSent → (file : CaptureFile) (deeds : List Deed) → IsCapture file → EachPartHolds file (ran file deeds start).state
parts_hold were_sent file deeds capture =
    let ticks = file.ticks in
    let sessions = (ran file deeds start).state.sessions in
    let first = joined_parts (IsPairedPart ticks) (HandsCaptured ticks) (First ticks) sessions (λ part p q. (p, q))
    (runs_are_paired file deeds capture) (runs_hand_captured_units file deeds capture) in
    let second = joined_parts (First ticks) (HandsReferences ticks) (Second ticks) sessions (λ part p q. (p, q))
    first (runs_hand_references file deeds capture) in
    let third = joined_parts (Second ticks) (PlaysCaptured ticks) (Third ticks) sessions (λ part p q. (p, q))
    second (runs_play_captured_units were_sent file deeds capture) in
    let fourth = joined_parts (Third ticks) (CompletesFrames ticks) (Fourth ticks) sessions (λ part p q. (p, q))
    third (runs_complete_frames file deeds capture) in
    joined_parts (Fourth ticks) (TellsInOrder ticks) (PartHolds ticks) sessions (λ part p q. record {
      paired = p.0.0.0.0;
      captured = p.0.0.0.1;
      references = p.0.0.1;
      complete = p.1;
      played = p.0.1;
      told = q;
    }) fourth (runs_tell_in_order file deeds capture)

-- ---- the lines

lines_are : (kind : Output → Bool) (give : ℕ → Part → List Report) → Tells kind give → (file : CaptureFile) (deeds : List Deed)
    → ReportsAre kind give (ran file deeds start).state (ran file deeds start).reports
lines_are kind give tells file deeds number =
    all_reports_of kind give tells file deeds number ∙ same (session_numbered (ran file deeds start).state number)
  where
    same : (o : Option RunSession) → given_at give number o ≡ given_by (give number) o
    same None = refl
    same (Some session) = refl

lines_hold : (file : CaptureFile) (deeds : List Deed) → LinesHold (ran file deeds start).state (ran file deeds start).reports
lines_hold file deeds = record {
  entries = lines_are is_entry _ tells_entries file deeds;
  handed = lines_are is_hand _ tells_hands file deeds;
  asked = lines_are is_ask _ tells_asks file deeds;
  played = lines_are is_play _ tells_plays file deeds;
  inputs = lines_are is_input _ tells_inputs file deeds;
  closed = lines_are is_closed _ tells_closed file deeds;
}

-- ---- behind the sums

-- neither a sum nor the last line is of the kind
record IsNoSum (kind : Output → Bool) : Type 0 where
  total : (session frames handed asks inputs units : ℕ) → kind (output.Total session frames handed asks inputs units) ≡ false
  done : kind output.Done ≡ false

passed_by : (kind : Output → Bool) (n : ℕ) (r : Report) (rs : List Report) → kind r.output ≡ false → reported_lines kind n (r ∷ rs) ≡ reported_lines kind n rs
passed_by kind n r rs isnt = by (kind r.output) isnt where
  by : (b : Bool) → b ≡ false → cond (b && session_of r.output == n) (r ∷ reported_lines kind n rs) (reported_lines kind n rs) ≡ reported_lines kind n rs
  by true e = absurd cc
  by false e = refl

no_totals : (kind : Output → Bool) → IsNoSum kind → (n m : ℕ) (sessions : List RunSession)
    → reported_lines kind n (totals_from m sessions ++ plain output.Done ∷ []) ≡ []
unfolding total_of
no_totals kind isnt n m [] = passed_by kind n (plain output.Done) [] isnt.done
no_totals kind isnt n m (session ∷ sessions) =
    passed_by kind n (total_of m session) (totals_from (m + 1) sessions ++ plain output.Done ∷ []) (isnt.total _ _ _ _ _ _)
    ∙ no_totals kind isnt n (m + 1) sessions

no_ending : (kind : Output → Bool) → IsNoSum kind → (n : ℕ) (why : TrialStatus) (state : State) → reported_lines kind n (ending why state) ≡ []
no_ending kind isnt n status.Ok state = no_totals kind isnt n 1 state.sessions
no_ending kind isnt n (status.Usage word) state = refl
no_ending kind isnt n status.TapeFault state = refl
no_ending kind isnt n (status.BadTape fault place) state = refl
no_ending kind isnt n (status.TapeFull tick) state = refl
no_ending kind isnt n (status.UnitTooLarge tick) state = refl
no_ending kind isnt n (status.AudioLength length) state = refl
no_ending kind isnt n status.ScheduleFault state = refl
no_ending kind isnt n (status.BadSchedule line) state = refl
no_ending kind isnt n status.WriteFault state = refl
no_ending kind isnt n status.OutOfMemory state = refl

ended_are : (kind : Output → Bool) (give : ℕ → Part → List Report) → IsNoSum kind → (why : TrialStatus) (from state : State) (reports : List Report)
    → ReportsAre kind give from reports → ReportsAre kind give from (reports ++ ending why state)
ended_are kind give isnt why from state reports are number =
    filter-append (λ (r : Report). kind r.output && session_of r.output == number) reports (ending why state)
    ∙ ap (λ (l : List Report). reported_lines kind number reports ++ l) (no_ending kind isnt number why state)
    ∙ append-nil (reported_lines kind number reports) ∙ are number

ended_hold : (why : TrialStatus) (from state : State) (reports : List Report) → LinesHold from reports → LinesHold from (reports ++ ending why state)
ended_hold why from state reports are = record {
  entries = ended_are is_entry _ (record { total = λ s f h a i u. refl; done = refl }) why from state reports are.entries;
  handed = ended_are is_hand _ (record { total = λ s f h a i u. refl; done = refl }) why from state reports are.handed;
  asked = ended_are is_ask _ (record { total = λ s f h a i u. refl; done = refl }) why from state reports are.asked;
  played = ended_are is_play _ (record { total = λ s f h a i u. refl; done = refl }) why from state reports are.played;
  inputs = ended_are is_input _ (record { total = λ s f h a i u. refl; done = refl }) why from state reports are.inputs;
  closed = ended_are is_closed _ (record { total = λ s f h a i u. refl; done = refl }) why from state reports are.closed;
}

-- ---- once closed

-- a list that has a member of a kind has some of the kind
some_passed : {X : Type 0} (test : X → Bool) (xs : List X) (x : X) → test x ≡ true → Contains xs x → filter test xs ≡ [] → ⊥
some_passed test [] x is (k, below, at) none = absurd (omega (arith, below))
some_passed {X} test (y ∷ xs) x is (zero, below, at) none =
    by (test y) (subst (λ (z : X). test z ≡ true) (sym at) is) none
  where
    by : (b : Bool) → b ≡ true → cond b (y ∷ filter test xs) (filter test xs) ≡ [] → ⊥
    by true e none = absurd cc
    by false e none = absurd cc
some_passed test (y ∷ xs) x is (suc k, below, at) none =
    by (test y) none (λ rest. some_passed test xs x is (k, omega (arith, below), at) rest)
  where
    by : (b : Bool) → cond b (y ∷ filter test xs) (filter test xs) ≡ [] → (filter test xs ≡ [] → ⊥) → ⊥
    by true none more = absurd cc
    by false none more = more none

-- the host was told that its client closed, or no line says so
closed_or_none : (n : ℕ) (es : List PeerEvent) → Contains es event.PeerClosed ⊎ (flat_map (closed_report n) es ≡ [])
closed_or_none n [] = inr refl
closed_or_none n (event.PeerClosed ∷ es) = inl (0, omega arith, refl)
closed_or_none n (event.Message c number bytes ∷ es) = elim (closed_or_none n es) [
  | inl has ↦ inl (Contains-append_right (event.Message c number bytes ∷ []) es event.PeerClosed has)
  | inr none ↦ inr none
]
closed_or_none n (event.Lost c number ∷ es) = elim (closed_or_none n es) [
  | inl has ↦ inl (Contains-append_right (event.Lost c number ∷ []) es event.PeerClosed has)
  | inr none ↦ inr none
]
closed_or_none n (event.Connected ∷ es) = elim (closed_or_none n es) [
  | inl has ↦ inl (Contains-append_right (event.Connected ∷ []) es event.PeerClosed has)
  | inr none ↦ inr none
]
closed_or_none n (event.Closed ∷ es) = elim (closed_or_none n es) [
  | inl has ↦ inl (Contains-append_right (event.Closed ∷ []) es event.PeerClosed has)
  | inr none ↦ inr none
]

tell_all : (ticks : List Tick) (state : State) (reports : List Report) → OfParts (TellsInOrder ticks) state.sessions → HaveOnePart state
    → ReportsAre is_closed (λ number part. flat_map (closed_report number) part.host.peer.told) state reports → TellAllOnceClosed state reports
tell_all ticks state reports parts one are number session there has =
    by (session_numbered state number) there
    (of_number (λ s. AllByRecursion (TellsInOrder ticks) (parts_of s)) state number parts) (of_number IsOnePart state number one) (are number)
  where
    some : reported_lines is_closed number reports ≡ [] → ⊥
    some = some_passed (λ (r : Report). is_closed r.output && session_of r.output == number) reports (plain (output.Closed number))
        (eq-eqb number number refl) has

    told_whole : (s : RunSession) → TellsInOrder ticks s.part → s.earlier ≡ []
        → reported_lines is_closed number reports ≡ over_parts (λ part. flat_map (closed_report number) part.host.peer.told) s → TellsAll s.part
    told_whole s tells none are = elim (closed_or_none number s.part.host.peer.told) [
      | inl closed ↦ tells.whole closed
      | inr nothing ↦ absurd (some (are ∙ ap (λ (ps : List Part). flat_map (λ (part : Part). flat_map (closed_report number) part.host.peer.told)
          (reverse ps) ++ flat_map (closed_report number) s.part.host.peer.told) none ∙ nothing))
    ]

    by : (o : Option RunSession) → o ≡ Some session → IfSome o (λ s. AllByRecursion (TellsInOrder ticks) (parts_of s)) → IfSome o IsOnePart
        → reported_lines is_closed number reports ≡ given_by (λ part. flat_map (closed_report number) part.host.peer.told) o → TellsAll session.part
    by None e parts one are = absurd cc
    by (Some s) e parts one are = subst (λ (x : RunSession). TellsAll x.part) (same s e) (told_whole s parts.0 one are) where
      same : (s : RunSession) → Some s ≡ Some session → s ≡ session
      same s e = cc

pub runs_tell_all_once_closed : RunsTellAllOnceClosed
runs_tell_all_once_closed file deeds capture =
    tell_all file.ticks (ran file deeds start).state (ran file deeds start).reports (runs_tell_in_order file deeds capture)
    (runs_have_one_part file deeds) (lines_are is_closed _ tells_closed file deeds)

-- ---- states

-- a session's only part holds what each part does
part_of : (P : Part → Type 0) (state : State) (number : ℕ) (session : RunSession) → OfParts P state.sessions → session_numbered state number ≡ Some session
    → P session.part
part_of P state number session all there =
    by (session_numbered state number) there (of_number (λ s. AllByRecursion P (parts_of s)) state number all)
  where
    by : (o : Option RunSession) → o ≡ Some session → IfSome o (λ s. AllByRecursion P (parts_of s)) → P session.part
    by None e all = absurd cc
    by (Some s) e all = subst (λ (x : RunSession). P x.part) (same s e) all.0 where
      same : (s : RunSession) → Some s ≡ Some session → s ≡ session
      same s e = cc

tell_users : PacketIsRead → (ticks : List Tick) (file : CaptureFile) (deeds : List Deed) (state : State) (reports : List Report)
    → AllByRecursion IsProperDeed deeds → OfParts (TellsInOrder ticks) state.sessions → GiveEvents file deeds state → TellAllOnceClosed state reports
    → TellUsers file deeds state reports
tell_users reads ticks file deeds state reports proper tells given whole number channel session apart there =
    tells_user reads ticks file deeds reports number channel session.part proper
    (part_of (TellsInOrder ticks) state number session tells there) (given number channel session apart there) (whole number session there)

pub runs_tell_users : PacketIsRead → RunsTellUsers
runs_tell_users reads file deeds capture proper =
    tell_users reads file.ticks file deeds (ran file deeds start).state (ran file deeds start).reports proper (runs_tell_in_order file deeds capture)
    (runs_give_events file deeds) (runs_tell_all_once_closed file deeds capture)

state_holds : PacketIsRead → (file : CaptureFile) (deeds : List Deed) (state : State) (reports : List Report) → AllByRecursion IsProperDeed deeds
    → EachPartHolds file state → HaveOnePart state → GiveEvents file deeds state → LinesHold state reports
    → StateHolds file deeds state reports
state_holds reads file deeds state reports proper parts one given lines =
    record {
      parts = parts;
      one_part = one;
      lines = lines;
      whole = whole;
      given = given;
      told = tell_users reads file.ticks file deeds state reports proper tells given whole;
    }
  where
    tells : OfParts (TellsInOrder file.ticks) state.sessions
    tells = joined_parts (PartHolds file.ticks) (PartHolds file.ticks) (TellsInOrder file.ticks) state.sessions (λ part p q. p.told) parts parts

    whole : TellAllOnceClosed state reports
    whole = tell_all file.ticks state reports tells one lines.closed

nothing_ran : (file : CaptureFile) → EachPartHolds file (ran file [] start).state
unfolding ran
nothing_ran file = tt

parts_of_run : PlayedUnitsWereSent → (file : CaptureFile) (deeds : List Deed) → IsCapture file ⊎ (deeds ≡ [])
    → EachPartHolds file (ran file deeds start).state
parts_of_run were_sent file deeds (inl capture) = parts_hold were_sent file deeds capture
parts_of_run were_sent file deeds (inr none) =
    subst (λ (ds : List Deed). EachPartHolds file (ran file ds start).state) (sym none) (nothing_ran file)

behind_deeds : PlayedUnitsWereSent → PacketIsRead → (file : CaptureFile) (deeds : List Deed) → AllByRecursion IsProperDeed deeds
    → IsCapture file ⊎ (deeds ≡ []) → StateHolds file deeds (ran file deeds start).state (ran file deeds start).reports
behind_deeds were_sent reads file deeds proper is =
    state_holds reads file deeds (ran file deeds start).state (ran file deeds start).reports proper (parts_of_run were_sent file deeds is)
    (runs_have_one_part file deeds) (runs_give_events file deeds) (lines_hold file deeds)

-- a front of no deeds has none
front_of : (file : CaptureFile) (n : ℕ) (deeds : List Deed) → IsCapture file ⊎ (deeds ≡ []) → IsCapture file ⊎ (take n deeds ≡ [])
front_of file n deeds (inl capture) = inl capture
front_of file zero deeds (inr none) = inr refl
front_of file (suc n) deeds (inr none) = inr (ap (λ (ds : List Deed). take (suc n) ds) none)

-- a front of proper deeds is proper
front_proper : (n : ℕ) (deeds : List Deed) → AllByRecursion IsProperDeed deeds → AllByRecursion IsProperDeed (take n deeds)
front_proper zero deeds all = tt
front_proper (suc n) [] all = tt
front_proper (suc n) (deed ∷ deeds) all = (all.0, front_proper n deeds all.1)

-- ---- runs

at_end : PlayedUnitsWereSent → PacketIsRead → (file : CaptureFile) (run : Run) (deeds : List Deed) → IsDoneBy file run deeds
    → AllByRecursion IsProperDeed deeds → IsCapture file ⊎ (deeds ≡ []) → StateHolds file deeds run.state run.reports
at_end were_sent reads file run deeds done proper is =
    let did = ran file deeds start in
    let all : StateHolds file deeds did.state (did.reports ++ ending run.status run.state) =
    state_holds reads file deeds did.state (did.reports ++ ending run.status run.state) proper (parts_of_run were_sent file deeds is)
    (runs_have_one_part file deeds) (runs_give_events file deeds) (ended_hold run.status did.state run.state did.reports (lines_hold file deeds)) in
    subst (λ (l : List Report). StateHolds file deeds run.state l) (sym done.reports)
    (subst (λ (s : State). StateHolds file deeds s (did.reports ++ ending run.status run.state)) done.state all)

holds : PlayedUnitsWereSent → PacketIsRead → (file : CaptureFile) (Premise : Type 0) (run : Run) → IsCaptureUnlessFaulty file → Premise
    → HasDeeds file Premise run → RunHolds file run
holds were_sent reads file Premise run capture premise k = record {
  deeds = k.deeds;
  done = k.done;
  proper = k.proper premise;
  at_each_step = λ n. behind_deeds were_sent reads file (take n k.deeds) (front_proper n k.deeds (k.proper premise)) (front_of file n k.deeds is);
  at_the_end = at_end were_sent reads file run k.deeds k.done (k.proper premise) is;
} where
  is : IsCapture file ⊎ (k.deeds ≡ [])
  is = elim k.head [
    | inl whole ↦ inl (capture whole)
    | inr none ↦ inr none
  ]

pub runs_have_deeds : RunsHaveDeeds
runs_have_deeds file lines run is = let k = has_deeds HasStep file lines run is in (k.deeds, k.done)

pub runs_of_steps_have_deeds : RunsOfStepsHaveDeeds
runs_of_steps_have_deeds file steps run is = let k = has_deeds IsStep file steps run is in (k.deeds, k.done)

pub runs_hold : PlayedUnitsWereSent → PacketIsRead → RunsHold
runs_hold were_sent reads file lines run capture is =
    holds were_sent reads file (HaveProper HasStep lines) run capture (lines_are_proper lines) (has_deeds HasStep file lines run is)

pub runs_of_steps_hold : PlayedUnitsWereSent → PacketIsRead → RunsOfStepsHold
runs_of_steps_hold were_sent reads file steps run capture proper is =
    holds were_sent reads file (HaveProper IsStep steps) run capture (steps_are_proper steps proper) (has_deeds IsStep file steps run is)

pub runs_over_bytes_hold : PlayedUnitsWereSent → PacketIsRead → RunsOverBytesHold
runs_over_bytes_hold were_sent reads tape lines run all is = runs_hold were_sent reads (file_of tape) lines run (bytes_are_captures tape all) is

pub generated_runs_hold : PlayedUnitsWereSent → PacketIsRead → GeneratedRunsHold
generated_runs_hold were_sent reads number ticks run most is =
    runs_of_steps_hold were_sent reads (generated_file number ticks) (generated_steps ticks) run
    (λ none. generated_files_are_captures number ticks most) (generated_are_proper ticks) is
