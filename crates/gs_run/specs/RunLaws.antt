-- What holds of every part of every session, behind any deeds of a run.
use Rattle.std.specs.Prelude.{ℕ, ◌≡◌, ◌≤◌, true, false, List, ◌++◌}
use Rattle.std.specs.List.{All, AllByRecursion, Contains}
use Rattle.gs_rtp.specs.Stream.{StreamSettings}
use Rattle.gs_tape.specs.Tick.{Tick}
use Rattle.gs_tape.specs.Limits.{HoldsBytes, AreWithinLimits, IsDuration, most_audio}
use Rattle.gs_refs.specs.declared.entry.Entry.{Entry}
use Rattle.gs_refs.specs.History.{frame_kind, has_ended}
use Rattle.gs_frames.specs.Client.{Arrival, HasWindow}
use Rattle.gs_frames.specs.Image.{Frame}
use Rattle.gs_frames.specs.Received.{taken}
use Rattle.gs_frames.specs.Complete.{IsComplete}
use Rattle.gs_frames.specs.Settled.{settled}
use Rattle.gs_frames.specs.Handed.{Handed, settled_at_resets, is_handed}
use Rattle.gs_frames.specs.HandedLaws.{handed_below}
use Rattle.gs_stream.specs.Video.{unit_of}
use Rattle.gs_stream.specs.Audio.{audio_units, audio_stream}
use Rattle.gs_stream.specs.HandedLaws.{IsHostHistory, IsSentFrame, CameWhole}
use Rattle.gs_stream.specs.Paired.{IsPaired}
use Rattle.gs_pair.specs.References.{ReferencesHeldSince, handed_frames, reset_cuts}
use Rattle.gs_enet.specs.Laws.{AreInOrder}
use Rattle.gs_audio.specs.PlayedLaws.{IsUnitOf, HaveRisingNumbers}
use Rattle.gs_schedule.specs.declared.step.Step.{Step}
use Rattle.gs_run.specs.CaptureFile.{CaptureFile}
use Rattle.gs_run.specs.Session.{Part, start, handed_of, played_of}
use Rattle.gs_run.specs.Deed.{Deed}
use Rattle.gs_run.specs.Done.{ran}
use Rattle.gs_run.specs.Totals.{parts_of}
use Rattle.gs_run.specs.Run.{Run, IsRun, IsRunOfSteps}

-- a file that a run can be over: its ticks are within the limits, its audio units have a known duration
pub record IsCapture (file : CaptureFile) : Type 0 where
  pub ticks : AreWithinLimits file.audio 1 0 file.ticks
  pub bytes : All HoldsBytes file.ticks
  pub audio : file.audio ≤ most_audio
  pub duration : IsDuration file.duration

-- it holds of each part of each session, behind any deeds
abbrev pub OfEachPart : (List Tick → Part → Type 0) → Type 0
OfEachPart Holds =
    (file : CaptureFile) (deeds : List Deed) → IsCapture file
    → AllByRecursion (λ session. AllByRecursion (Holds file.ticks) (parts_of session))
    (ran file deeds start).state.sessions

-- each audio datagram that came is one of those that a history puts
abbrev pub AreOfSound : StreamSettings → List Tick → List Entry → List (List ℕ) → Type 0
AreOfSound settings ticks h sound = All (Contains (audio_stream settings ticks h)) sound

-- The history is one that a host may have, and nothing ended it. What the client was given was sent, and what the host
-- took as invalid is a prefix of what the client asked for.
pub record IsPairedPart (ticks : List Tick) (part : Part) : Type 0 where
  pub window : HasWindow part.settings
  pub history : IsHostHistory part.settings.stream ticks part.history
  pub paired : IsPaired part.settings ticks part.history part.came
  pub sound : AreOfSound part.settings.stream ticks part.history part.sound
  pub goes_on : has_ended part.history ≡ false

abbrev pub RunsArePaired : Type 0
RunsArePaired = OfEachPart IsPairedPart

-- frame f of a history with its kind and its captured unit, and as it is handed
abbrev pub captured_frame : List Tick → List Entry → ℕ → Frame
captured_frame ticks h f = record { kind = frame_kind h f; unit = unit_of ticks h f }

abbrev pub handing_of : List Tick → List Entry → ℕ → Handed
handing_of ticks h f = record { frame = f; kind = frame_kind h f; unit = unit_of ticks h f }

-- each frame that is handed was sent, and is byte for byte its captured unit
abbrev pub HandsCaptured : List Tick → Part → Type 0
HandsCaptured ticks part = All (IsSentFrame ticks part.history) (handed_of part)

abbrev pub RunsHandCapturedUnits : Type 0
RunsHandCapturedUnits = OfEachPart HandsCaptured

-- and the frame that it refers to was handed before it, behind the last reset
abbrev pub HandsReferences : List Tick → Part → Type 0
HandsReferences ticks part =
    ReferencesHeldSince part.history (handed_frames part.settings part.came) (reset_cuts part.settings part.came)

abbrev pub RunsHandReferences : Type 0
RunsHandReferences = OfEachPart HandsReferences

-- Which frames a client is sure to have. Of what came by some time enough was of a frame that was sent, and nothing by
-- which it was left (`CameWhole`). Then the frame is complete, whatever came behind, and holds its captured unit. Once
-- it is settled it is handed, where it isn't barred and is a re-entry frame or follows a handed one; an IDR frame is
-- handed always.
pub record CompletesFrames (ticks : List Tick) (part : Part) : Type 0 where
  pub complete : (before after : List Arrival) (f : ℕ)
      → part.came ≡ after ++ before → CameWhole part.settings ticks part.history before f
      → IsComplete part.settings (taken part.settings part.came) f (captured_frame ticks part.history f)
  pub handed : (before after : List Arrival) (f : ℕ)
      → part.came ≡ after ++ before → CameWhole part.settings ticks part.history before f
      → f ≤ settled part.settings (taken part.settings part.came)
      → is_handed (settled_at_resets part.settings part.came) (handed_below part.settings part.came f) f
      (frame_kind part.history f) ≡ true
      → Contains (handed_of part) (handing_of ticks part.history f)
  pub idr : (before after : List Arrival) (f : ℕ)
      → part.came ≡ after ++ before → CameWhole part.settings ticks part.history before f
      → f ≤ settled part.settings (taken part.settings part.came) → frame_kind part.history f ≡ 2
      → Contains (handed_of part) (handing_of ticks part.history f)

abbrev pub RunsCompleteFrames : Type 0
RunsCompleteFrames = OfEachPart CompletesFrames

-- Each audio unit that is played is, byte for byte, the captured one of its number, of all that the history put, and
-- the numbers rise.
pub record PlaysCaptured (ticks : List Tick) (part : Part) : Type 0 where
  pub units : All (IsUnitOf (audio_units ticks part.history)) (played_of part)
  pub rising : HaveRisingNumbers (played_of part)

abbrev pub RunsPlayCapturedUnits : Type 0
RunsPlayCapturedUnits = OfEachPart PlaysCaptured

-- what the host was told on a channel is what the client gave there first, and all of it once the host read that the
-- client closed
abbrev pub TellsInOrder : List Tick → Part → Type 0
TellsInOrder ticks part = AreInOrder part.client.peer part.host.peer

abbrev pub RunsTellInOrder : Type 0
RunsTellInOrder = OfEachPart TellsInOrder

-- a schedule has one run at most over a file
abbrev pub SchedulesHaveOneRun : Type 0
SchedulesHaveOneRun =
    (file : CaptureFile) (lines : List (List ℕ)) (first second : Run)
    → IsRun file lines first → IsRun file lines second → first ≡ second

-- so have steps
abbrev pub StepsHaveOneRun : Type 0
StepsHaveOneRun =
    (file : CaptureFile) (steps : List Step) (first second : Run)
    → IsRunOfSteps file steps first → IsRunOfSteps file steps second → first ≡ second

-- and it has one, whatever its lines and the file hold
abbrev pub SchedulesHaveARun : Type 0
SchedulesHaveARun = (file : CaptureFile) (lines : List (List ℕ)) → (run : Run) × IsRun file lines run
