-- What holds of every run, from the lines of a schedule to the lines of its text: behind each of its deeds,
-- and at its end.
use Rattle.std.specs.Prelude.{ℕ, ◌≡◌, ◌^◌, ◌<◌, ◌≤◌, Bool, true, false, List, [], ◌∷◌, ◌++◌, map, take}
use Rattle.std.specs.Prelude.{Option, Some, None}
use Rattle.std.specs.List.{All, AllByRecursion, Contains, flat_map}
use Rattle.gs_tape.specs.Limits.{most_generated}
use Rattle.gs_tape.specs.Tick.{Tick}
use Rattle.gs_refs.specs.declared.entry.Entry.{Entry}
use Rattle.gs_enet.specs.declared.event.PeerEvent.{PeerEvent}
use Rattle.gs_enet.specs.declared.event.PeerEvent.TheVariants as event
use Rattle.gs_enet.specs.Record.{given_on, told}
use Rattle.gs_schedule.specs.declared.step.Step.{Step}
use Rattle.gs_schedule.specs.declared.status.TrialStatus.{TrialStatus}
use Rattle.gs_schedule.specs.declared.status.TrialStatus.TheVariants as status
use Rattle.gs_schedule.specs.declared.output.Output.{Output}
use Rattle.gs_schedule.specs.declared.output.Output.TheVariants as output
use Rattle.gs_run.specs.CaptureFile.{CaptureFile, file_of, generated_file}
use Rattle.gs_run.specs.Session.{Part, RunSession, State, start, session_numbered, handed_of, asked_of, played_of}
use Rattle.gs_run.specs.Report.{Report, plain, ask_report, hand_report, play_report}
use Rattle.gs_run.specs.Hearing.{entry_output}
use Rattle.gs_run.specs.Deed.{Deed}
use Rattle.gs_run.specs.Done.{ran}
use Rattle.gs_run.specs.Totals.{inputs_of, parts_of, totals_from}
use Rattle.gs_run.specs.Run.{Run, IsRun, IsRunOfSteps}
use Rattle.gs_run.specs.UserEvents.{GiveEvents, IsProperDeed, IsProperStep, TellUsers}
use Rattle.gs_run.specs.Generated.{IsGeneratedRun}
use Rattle.gs_run.specs.RunLaws.{IsCapture, IsPairedPart, HandsCaptured, HandsReferences}
use Rattle.gs_run.specs.RunLaws.{CompletesFrames, PlaysCaptured, TellsInOrder}
use Rattle.gs_run.specs.ReportLaws.{reported_lines, is_hand, is_ask, is_play, is_input, input_report, over_parts}
use Rattle.gs_run.specs.ReportLaws.{RunsReport}

-- ---- which deeds a run did

-- what is reported behind all lines: the sums and that all is done, where the run ended well
abbrev pub ending : TrialStatus → State → List Report
ending status.Ok state = totals_from 1 state.sessions ++ plain output.Done ∷ []
ending _ state = []

-- These deeds were done one after the other, and none of them was refused. They left the run's state, and what they
-- reported is all that it reports, but for its ending.
pub record IsDoneBy (file : CaptureFile) (run : Run) (deeds : List Deed) : Type 0 where
  pub none_refused : (ran file deeds start).refused ≡ None
  pub state : (ran file deeds start).state ≡ run.state
  pub reports : run.reports ≡ (ran file deeds start).reports ++ ending run.status run.state

-- ---- what holds of the parts of its sessions

-- What holds of a part. Its history is one that a host may have; each datagram that its client was given went out, and
-- what its host took as invalid is a prefix of what its client asked for. Each frame that was handed is, byte for byte,
-- its captured unit, and the frame that it refers to was handed before it, behind the last reset. Each frame of which
-- enough came in time is complete. Each audio unit that was played is the captured one. What the host was told on a
-- channel is what the client gave there first, in order.
pub record PartHolds (ticks : List Tick) (part : Part) : Type 0 where
  pub paired : IsPairedPart ticks part
  pub captured : HandsCaptured ticks part
  pub references : HandsReferences ticks part
  pub complete : CompletesFrames ticks part
  pub played : PlaysCaptured ticks part
  pub told : TellsInOrder ticks part

-- of each part of each session
abbrev pub EachPartHolds : CaptureFile → State → Type 0
EachPartHolds file state =
    AllByRecursion (λ session. AllByRecursion (PartHolds file.ticks) (parts_of session)) state.sessions

-- no session has an earlier part
abbrev pub HaveOnePart : State → Type 0
HaveOnePart state = AllByRecursion (λ session. session.earlier ≡ []) state.sessions

-- ---- what is reported

-- an entry of the host's history: a frame sent, a range taken as invalid, a frame asked for that needs no other,
-- the end
abbrev pub is_entry : Output → Bool
is_entry (output.Sent session frame kind tick reference) = true
is_entry (output.Invalid session first last) = true
is_entry (output.Idr session) = true
is_entry (output.Ended session first last) = true
is_entry _ = false

abbrev pub is_closed : Output → Bool
is_closed (output.Closed session) = true
is_closed _ = false

-- a line for each entry of a history, the oldest first
abbrev pub entry_reports : ℕ → List Entry → List Report
entry_reports number [] = []
entry_reports number (entry ∷ history) = entry_reports number history ++ plain (entry_output number history entry) ∷ []

-- a line for each time that the host was told that its client closed
abbrev pub closed_report : ℕ → PeerEvent → List Report
closed_report number event.PeerClosed = plain (output.Closed number) ∷ []
closed_report number _ = []

-- what the parts of a session give, and nothing where there is no session
abbrev pub given_by : (Part → List Report) → Option RunSession → List Report
given_by give None = []
given_by give (Some session) = over_parts give session

-- the lines of this kind that name a number are what the parts of that session give
abbrev pub ReportsAre : (Output → Bool) → (ℕ → Part → List Report) → State → List Report → Type 0
ReportsAre kind give state reports =
    (number : ℕ) → reported_lines kind number reports ≡ given_by (give number) (session_numbered state number)

-- The lines of each of these kinds, in order: the entries of the host's history, the frames handed with their units,
-- the ranges asked for, the audio units played, the input events told, and that the client closed.
pub record LinesHold (state : State) (reports : List Report) : Type 0 where
  pub entries : ReportsAre is_entry (λ number part. entry_reports number part.history) state reports
  pub handed : ReportsAre is_hand (λ number part. map (hand_report number) (handed_of part)) state reports
  pub asked : ReportsAre is_ask (λ number part. map (ask_report number) (asked_of part)) state reports
  pub played : ReportsAre is_play (λ number part. map (play_report number) (played_of part)) state reports
  pub inputs : ReportsAre is_input (λ number part. map (input_report number) (inputs_of part)) state reports
  pub closed : ReportsAre is_closed (λ number part. flat_map (closed_report number) part.host.peer.told) state reports

-- the host was told all that its client gave, on every channel
abbrev pub TellsAll : Part → Type 0
TellsAll part = (channel : ℕ) → told part.host.peer channel ≡ given_on channel part.client.peer.given

-- where a line says that the client of a session closed, its host was told all
abbrev pub TellAllOnceClosed : State → List Report → Type 0
TellAllOnceClosed state reports =
    (number : ℕ) (session : RunSession) → session_numbered state number ≡ Some session
    → Contains reports (plain (output.Closed number)) → TellsAll session.part

-- ---- laws of any deeds

-- behind any deeds the lines of these kinds are what the parts give
abbrev pub RunsReportEntries : Type 0
RunsReportEntries = RunsReport is_entry (λ number part. entry_reports number part.history)

abbrev pub RunsReportClosed : Type 0
RunsReportClosed = RunsReport is_closed (λ number part. flat_map (closed_report number) part.host.peer.told)

abbrev pub RunsTellAllOnceClosed : Type 0
RunsTellAllOnceClosed =
    (file : CaptureFile) (deeds : List Deed) → IsCapture file
    → TellAllOnceClosed (ran file deeds start).state (ran file deeds start).reports

-- ---- what holds of a run

-- What holds of a state, with the deeds that led to it and all that was reported on the way: what its parts keep, what
-- the lines are, what each client gave of what its user did, and what of it its host was told, whole once a line says
-- that the client closed.
pub record StateHolds (file : CaptureFile) (deeds : List Deed) (state : State) (reports : List Report) : Type 0 where
  pub parts : EachPartHolds file state
  pub one_part : HaveOnePart state
  pub lines : LinesHold state reports
  pub whole : TellAllOnceClosed state reports
  pub given : GiveEvents file deeds state
  pub told : TellUsers file deeds state reports

-- It holds of what the run did, behind each of its deeds, and at its end with all that it reports.
pub record RunHolds (file : CaptureFile) (run : Run) : Type 0 where
  pub deeds : List Deed
  pub done : IsDoneBy file run deeds
  pub proper : AllByRecursion IsProperDeed deeds
  pub at_each_step : (n : ℕ)
      → let did = ran file (take n deeds) start in StateHolds file (take n deeds) did.state did.reports
  pub at_the_end : StateHolds file deeds run.state run.reports

-- ---- laws of whole runs

-- each run did a list of deeds, over any file
abbrev pub RunsHaveDeeds : Type 0
RunsHaveDeeds =
    (file : CaptureFile) (lines : List (List ℕ)) (run : Run)
    → IsRun file lines run → (deeds : List Deed) × IsDoneBy file run deeds

abbrev pub RunsOfStepsHaveDeeds : Type 0
RunsOfStepsHaveDeeds =
    (file : CaptureFile) (steps : List Step) (run : Run)
    → IsRunOfSteps file steps run → (deeds : List Deed) × IsDoneBy file run deeds

-- a file whose head has no fault is a capture
abbrev pub IsCaptureUnlessFaulty : CaptureFile → Type 0
IsCaptureUnlessFaulty file = file.head ≡ None → IsCapture file

-- so is the file of any bytes, and what a number generates
abbrev pub BytesAreCaptures : Type 0
BytesAreCaptures = (bytes : List ℕ) → All (λ b. b < 2 ^ 8) bytes → IsCaptureUnlessFaulty (file_of bytes)

abbrev pub GeneratedFilesAreCaptures : Type 0
GeneratedFilesAreCaptures = (number ticks : ℕ) → ticks ≤ most_generated → IsCapture (generated_file number ticks)

-- it holds of every run of lines, and of every run of steps whose events are such as lines have
abbrev pub RunsHold : Type 0
RunsHold =
    (file : CaptureFile) (lines : List (List ℕ)) (run : Run)
    → IsCaptureUnlessFaulty file → IsRun file lines run → RunHolds file run

abbrev pub RunsOfStepsHold : Type 0
RunsOfStepsHold =
    (file : CaptureFile) (steps : List Step) (run : Run)
    → IsCaptureUnlessFaulty file → AllByRecursion IsProperStep steps → IsRunOfSteps file steps run → RunHolds file run

-- so of the run of any lines over any bytes, and of what a number generates
abbrev pub RunsOverBytesHold : Type 0
RunsOverBytesHold =
    (tape : List ℕ) (lines : List (List ℕ)) (run : Run)
    → All (λ b. b < 2 ^ 8) tape → IsRun (file_of tape) lines run → RunHolds (file_of tape) run

abbrev pub GeneratedRunsHold : Type 0
GeneratedRunsHold =
    (number ticks : ℕ) (run : Run)
    → ticks ≤ most_generated → IsGeneratedRun number ticks run → RunHolds (generated_file number ticks) run
