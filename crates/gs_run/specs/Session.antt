-- What a run knows: the ticks captured, the moment, and its sessions. Each session is a host and its client.
use Rattle.std.specs.Prelude.{ℕ, zero, suc, ◌+◌, ◌-◌, List, [], ◌∷◌, length, Option, None, slice_get}
use Rattle.std.specs.Prelude.{◌==◌, if◌then◌else◌}
use Rattle.gs_tape.specs.Tick.{Tick}
use Rattle.gs_refs.specs.declared.entry.Entry.{Entry}
use Rattle.gs_frames.specs.declared.range.Range.{Range}
use Rattle.gs_client_core.specs.declared.asker.Owed.{Owed}
use Rattle.gs_client_core.specs.Owed.{request_channel}
use Rattle.gs_frames.specs.Client.{ClientSettings, Arrival}
use Rattle.gs_frames.specs.Handed.{Handed, handed}
use Rattle.gs_frames.specs.Asks.{asks}
use Rattle.gs_stream.specs.Video.{video_stream}
use Rattle.gs_stream.specs.Audio.{audio_stream}
use Rattle.gs_enet.specs.Record.{given_count}
use Rattle.gs_enet.specs.World.{Side}
use Rattle.gs_audio.specs.Played.{PlayedUnit, played}

-- up to which of the datagrams of each kind `pump` has delivered
pub record PartMarks : Type 0 where
  pub video : ℕ
  pub audio : ℕ
  pub up : ℕ
  pub down : ℕ

-- A session's time under one set of settings.
pub record Part : Type 0 where
  -- the settings of its streams, and the window of its client
  pub settings : ClientSettings
  -- what its host did, the newest entry first
  pub history : List Entry
  -- the video datagrams that its client was given and the resets of its decoder, the newest first
  pub came : List Arrival
  -- the audio datagrams that its client was given, the newest first
  pub sound : List (List ℕ)
  -- the two sides of its control connection, and all that each of them wrote
  pub client : Side
  pub host : Side
  -- what its client is to ask for once the window takes it, in order
  pub owed : List Owed
  pub marks : PartMarks

-- the part that runs, and those before it, the newest first
pub record RunSession : Type 0 where
  pub part : Part
  pub earlier : List Part

-- how many ticks the capture has, the moment in ms, and the sessions in the order in which they were opened
pub record State : Type 0 where
  pub captured : ℕ
  pub moment : ℕ
  pub sessions : List RunSession

abbrev pub start : State
start = record { captured = 0; moment = 0; sessions = [] }

-- ---- what is read off a part

-- all video datagrams that its host sent, and all audio datagrams
abbrev pub video_of : List Tick → Part → List (List ℕ)
video_of ticks part = video_stream part.settings.stream ticks part.history

abbrev pub audio_of : List Tick → Part → List (List ℕ)
audio_of ticks part = audio_stream part.settings.stream ticks part.history

-- the frames that its client's decoder is handed
abbrev pub handed_of : Part → List Handed
handed_of part = handed part.settings part.came

-- the ranges that its client asks for
abbrev pub asked_of : Part → List Range
asked_of part = asks part.settings part.came

-- the audio units that its client plays
abbrev pub played_of : Part → List PlayedUnit
played_of part = played part.settings.stream part.sound

-- how many messages its client made on a channel: those given to its connection, and what it owes
abbrev pub made_on : ℕ → Part → ℕ
made_on channel part =
    given_count part.client.peer channel + (if channel == request_channel then length part.owed else 0)

-- ---- sessions by their numbers, from 1

abbrev pub session_numbered : State → ℕ → Option RunSession
session_numbered state zero = None
session_numbered state (suc before) = slice_get state.sessions before

abbrev pub replaced : List RunSession → ℕ → RunSession → List RunSession
replaced [] place session = []
replaced (old ∷ sessions) zero session = session ∷ sessions
replaced (old ∷ sessions) (suc place) session = old ∷ replaced sessions place session

-- the state with this session in the place of that number
abbrev pub with_session : ℕ → RunSession → State → State
with_session number session state = record state { sessions = replaced state.sessions (number - 1) session }
