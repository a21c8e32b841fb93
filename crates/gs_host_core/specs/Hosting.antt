-- What a host stands for: its session's history, over the ticks of a capture.
use Rattle.std.specs.Prelude.{ℕ, ◌≡◌, ◌+◌, ◌-◌, ◌*◌, ◌%◌, ◌^◌, ◌<◌, ◌≤◌, List, [], length, map, All, Some, ◌==◌}
use Rattle.std.specs.Prelude.{if◌then◌else◌}
use Rattle.std.specs.List.{range_with_len}
use Rattle.gs_rtp.specs.Limits.{most_packet}
use Rattle.gs_rtp.specs.Stream.{StreamSettings}
use Rattle.gs_tape.specs.Tick.{Tick, tick_numbered}
use Rattle.gs_tape.specs.Limits.{most_unit, most_count, most_ticks}
use Rattle.gs_refs.specs.declared.entry.Entry.{Entry}
use Rattle.gs_refs.specs.declared.sent.Sent.{Sent}
use Rattle.gs_refs.specs.Answers.{next_sent}
use Rattle.gs_refs.specs.History.{frames, last_tick}
use Rattle.gs_audio.specs.Sending.{Sending, HasPushed}
use Rattle.gs_stream.specs.Video.{video_stream}
use Rattle.gs_stream.specs.Audio.{audio_units}

-- The stream's settings, the history, the newest entry first, how many video datagrams its frames have, modulo 2^32,
-- and what its audio is.
pub record Hosting : Type 0 where
  pub settings : StreamSettings
  pub history : List Entry
  pub count : ℕ
  pub audio : Sending

-- its video and its audio are those of its history, over the ticks of a capture
pub record StandsOver (host : Hosting) (ticks : List Tick) : Type 0 where
  pub video : length (video_stream host.settings ticks host.history) % 2 ^ 32 ≡ host.count
  pub audio : HasPushed host.audio (audio_units ticks host.history)

-- what a host's parts keep
pub record IsHostingSound (settings : StreamSettings) (history : List Entry) (audio : Sending) : Type 0 where
  pub packet : settings.packet ≤ most_packet
  pub same_settings : audio.settings ≡ settings
  pub few_frames : frames history ≤ last_tick history
  pub few_ticks : last_tick history ≤ most_ticks
  pub few_units : audio.pushed ≤ most_count * last_tick history

-- a tick that may be sent by a session of these settings
pub record IsSendable (settings : StreamSettings) (t : Tick) : Type 0 where
  pub few : t.number ≤ most_ticks
  pub idr : length t.idr ≤ most_unit
  pub deltas : All (λ d. length d.unit ≤ most_unit) t.deltas
  pub units : length t.audio ≤ most_count
  pub sizes : All (λ unit. length unit ≡ settings.audio) t.audio

-- the numbers of the ticks above the last one sent and below a number; none where none was sent
abbrev pub numbers_between : List Entry → ℕ → List ℕ
numbers_between h number =
    if frames h == 0 then [] else range_with_len (last_tick h + 1) (number - (last_tick h + 1))

-- these are the ticks of the capture between the last one sent and a tick of it
pub record AreOfCapture (ticks : List Tick) (newest : Tick) (between : List Tick) : Type 0 where
  pub newest_is : tick_numbered ticks newest.number ≡ Some newest
  pub between_are : All (λ t. tick_numbered ticks t.number ≡ Some t) between

-- A tick of the capture goes out next behind a history, as this.
pub record SendsTick (ticks : List Tick) (h : List Entry) (newest : Tick) (sent : Sent) : Type 0 where
  pub newest_is : tick_numbered ticks newest.number ≡ Some newest
  pub sent_is : sent ≡ next_sent h newest

-- A turn behind a history: its tick, above the last one sent, and the ticks between the two.
pub record IsTurn (ticks : List Tick) (h : List Entry) (newest : Tick) (between : List Tick) : Type 0 where
  pub of_capture : AreOfCapture ticks newest between
  pub numbers : map (λ t. t.number) between ≡ numbers_between h newest.number
  pub above : last_tick h < newest.number
