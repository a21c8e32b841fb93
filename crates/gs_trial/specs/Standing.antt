-- Cited by private contracts alone: what a trial stands for, which is the state of a run over a capture file.
use Rattle.std.specs.Prelude.{ℕ, ◌≡◌, ◌+◌, ◌<◌, ◌≤◌, ◌⊎◌, length, List, [], ◌∷◌, Option, None, ⊤}
use Rattle.std.specs.List.{All}
use Rattle.gs_tape.specs.Tick.{Tick}
use Rattle.gs_tape.specs.Limits.{most_audio, IsDuration}
use Rattle.gs_tape.specs.declared.stage.Stage.TheVariants.{Open}
use Rattle.gs_feed.specs.Feeding.{Feeding, IsFeedAt}
use Rattle.gs_feed.specs.Cuts.{HasTaken}
use Rattle.gs_host_end.specs.Outcomes.{KeepsTicks}
use Rattle.gs_loopback.specs.declared.session.Loopback.{Loopback}
use Rattle.gs_loopback.specs.Standing.{IsLoopbackOf}
use Rattle.gs_run.specs.CaptureFile.{CaptureFile}
use Rattle.gs_run.specs.Session.{RunSession, State}
use Rattle.gs_trial.specs.declared.trial.Trial.{Trial}

-- a session of one part
pub record IsSession (ticks : List Tick) (number : ℕ) (loopback : Loopback) (session : RunSession) : Type 0 where
  pub part : IsLoopbackOf loopback number ticks session.part
  pub earlier : session.earlier ≡ []

-- one by one, numbered from this number on
abbrev pub AreSessions : List Tick → ℕ → List Loopback → List RunSession → Type 0
AreSessions ticks number [] [] = ⊤
AreSessions ticks number [] (session ∷ sessions) = ⊥
AreSessions ticks number (loopback ∷ loopbacks) [] = ⊥
AreSessions ticks number (loopback ∷ loopbacks) (session ∷ sessions) =
    IsSession ticks number loopback session × AreSessions ticks (number + 1) loopbacks sessions

-- The feed captures this file, whose head has no fault; the source has so much of it left.
pub record IsFeedOf (feed : Feeding) (file : CaptureFile) (left : Option (List ℕ)) : Type 0 where
  pub head : file.head ≡ None
  pub stands : IsFeedAt feed left file.ticks file.fault
  pub audio : feed.tape.audio ≡ file.audio
  pub duration : feed.tape.duration ≡ file.duration

-- Of a capture file with these bytes the feed took some: its head, and a tick for each capture.
abbrev pub FeedHasTaken : List ℕ → Feeding → (left : Option (List ℕ)) → Type 0
FeedHasTaken bytes feed left = HasTaken bytes feed.tape feed.count left

pub record IsTrialOf (trial : Trial) (file : CaptureFile) (left : Option (List ℕ)) (state : State) : Type 0 where
  pub feed : IsFeedOf trial.feed file left
  pub captured : trial.feed.count ≡ state.captured
  pub moment : trial.moment ≡ state.moment
  pub sessions : AreSessions file.ticks 1 trial.sessions.items state.sessions

-- The capture file is read on: no read of it failed or met its end. Its audio is known, and the ticks that the next
-- turn of each session sends the audio of are still kept.
pub record IsReady (trial : Trial) : Type 0 where
  pub stage : trial.feed.tape.stage ≡ Open
  pub audio : trial.feed.tape.audio ≤ most_audio
  pub duration : IsDuration trial.feed.tape.duration
  pub keep : All (λ l. KeepsTicks trial.feed l.host) trial.sessions.items

-- no session has this number
abbrev pub HasNoSession : Trial → ℕ → Type 0
HasNoSession trial number = (number ≡ 0) ⊎ (length trial.sessions.items < number)
