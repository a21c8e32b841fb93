-- The lines of a run are those of its sessions' own lists.
use Rattle.std.specs.Prelude.{ℕ, ◌≡◌, ◌&&◌, Bool, true, false, List, ◌++◌, map, reverse, Some, ◌==◌}
use Rattle.std.specs.List.{filter, flat_map}
use Rattle.gs_schedule.specs.declared.output.Output.{Output}
use Rattle.gs_schedule.specs.declared.output.Output.TheVariants as output
use Rattle.gs_run.specs.CaptureFile.{CaptureFile}
use Rattle.gs_run.specs.Session.{Part, RunSession, start, session_numbered, handed_of, asked_of, played_of}
use Rattle.gs_run.specs.Report.{Report, plain, ask_report, hand_report, play_report}
use Rattle.gs_run.specs.Deed.{Deed}
use Rattle.gs_run.specs.Done.{ran}
use Rattle.gs_run.specs.Totals.{ToldInput, inputs_of}

-- ---- which lines

-- the session that a line names, 0 where it names none
abbrev pub session_of : Output → ℕ
session_of (output.Sent session frame kind tick reference) = session
session_of (output.Ask session first last) = session
session_of (output.Hand session frame kind length) = session
session_of (output.Play session unit length) = session
session_of (output.Invalid session first last) = session
session_of (output.Idr session) = session
session_of (output.Ended session first last) = session
session_of (output.Input session channel event) = session
session_of (output.Full session channel) = session
session_of (output.Closed session) = session
session_of (output.Lost session) = session
session_of (output.Reset session) = session
session_of (output.Total session frames handed asks inputs units) = session
session_of output.Done = 0

abbrev pub is_hand : Output → Bool
is_hand (output.Hand session frame kind length) = true
is_hand _ = false

abbrev pub is_ask : Output → Bool
is_ask (output.Ask session first last) = true
is_ask _ = false

abbrev pub is_play : Output → Bool
is_play (output.Play session unit length) = true
is_play _ = false

abbrev pub is_input : Output → Bool
is_input (output.Input session channel event) = true
is_input _ = false

-- those of a kind that name that session
abbrev pub reported_lines : (Output → Bool) → ℕ → List Report → List Report
reported_lines kind session reports = filter (λ r. kind r.output && session_of r.output == session) reports

-- ---- what they are

abbrev pub input_report : ℕ → ToldInput → Report
input_report session told = plain (output.Input session told.channel told.event)

-- what each part of a session gives, the first part first
abbrev pub over_parts : (Part → List Report) → RunSession → List Report
over_parts give session = flat_map give (reverse session.earlier) ++ give session.part

-- behind any deeds the lines of this kind are, for each session, what its parts give
abbrev pub RunsReport : (Output → Bool) → (ℕ → Part → List Report) → Type 0
RunsReport kind give =
    (file : CaptureFile) (deeds : List Deed) (number : ℕ) (session : RunSession)
    → session_numbered (ran file deeds start).state number ≡ Some session
    → reported_lines kind number (ran file deeds start).reports ≡ over_parts (give number) session

-- the frames that the client is handed, with their units
abbrev pub RunsReportHanded : Type 0
RunsReportHanded = RunsReport is_hand (λ number part. map (hand_report number) (handed_of part))

-- the ranges that it asks for
abbrev pub RunsReportAsked : Type 0
RunsReportAsked = RunsReport is_ask (λ number part. map (ask_report number) (asked_of part))

-- the audio units that it plays
abbrev pub RunsReportPlayed : Type 0
RunsReportPlayed = RunsReport is_play (λ number part. map (play_report number) (played_of part))

-- the input events that the host is told
abbrev pub RunsReportInputs : Type 0
RunsReportInputs = RunsReport is_input (λ number part. map (input_report number) (inputs_of part))
