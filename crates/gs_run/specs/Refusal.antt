-- Which deeds are refused, and why.
use Rattle.std.specs.Prelude.{ℕ, ◌+◌, ◌-◌, Bool, true, false, ◌&&◌, ◌||◌, not, List, length, Option, Some, None}
use Rattle.std.specs.Prelude.{is_some, slice_get, nat_lt, nat_le, if◌then◌else◌}
use Rattle.gs_tape.specs.Reading.{Fault}
use Rattle.gs_frames.specs.Client.{Datagram}
use Rattle.gs_frames.specs.Asks.{newly_asked}
use Rattle.gs_enet.specs.Steps.{is_open, is_full}
use Rattle.gs_store.specs.Named.{is_nameable}
use Rattle.gs_run.specs.declared.limits.TheConstants.{MOST_MADE, MOST_MOMENT}
use Rattle.gs_run.specs.CaptureFile.{CaptureFile}
use Rattle.gs_run.specs.Session.{Part, RunSession, State, video_of, audio_of, made_on, session_numbered}
use Rattle.gs_client_core.specs.Owed.{request_channel}
use Rattle.gs_run.specs.Scene.{Scene, scene_of}
use Rattle.gs_run.specs.Deed.{SessionDeed, Turn, TakeVideo, TakeAudio, TakeUp, TakeDown, Give, AskIdr, Close, Reset}
use Rattle.gs_run.specs.Deed.{Mark, Deed, Open, Capture, Pass, In}
use Rattle.gs_run.specs.Message.{event_channel}
use Rattle.gs_run.specs.Opening.{most_sessions, numbers_are_allowed}

-- The line can't be run, or the capture file has this fault where its next tick is to be read.
pub data Refusal : Type 0 where
  BadLine : Refusal
  BadFile : (fault : Fault) → Refusal

-- ---- limits

-- how many messages and asks a channel may have
abbrev pub most_made : ℕ
most_made = MOST_MADE

abbrev pub has_made_most : ℕ → Part → Bool
has_made_most channel part = nat_le most_made (made_on channel part)

-- the greatest moment in ms
abbrev pub most_moment : ℕ
most_moment = MOST_MOMENT

-- ---- in a session

-- the client hasn't closed and isn't lost
abbrev pub is_client_open : Part → Bool
is_client_open part = is_open part.client.peer.state

-- a message may be given on the channel: a full window refuses it before it counts
abbrev pub may_give : ℕ → Part → Bool
may_give channel part =
    is_client_open part && (is_full part.client.peer channel || not (has_made_most channel part))

-- the datagram lets the client ask
abbrev pub makes_ask : Option (List ℕ) → Part → Bool
makes_ask None part = false
makes_ask (Some bytes) part = is_some (newly_asked part.settings (Datagram bytes) part.came)

abbrev pub may_take_video : List (List ℕ) → ℕ → Part → Bool
may_take_video sent k part =
    is_nameable sent k
    && not (makes_ask (slice_get sent (k - 1)) part && has_made_most request_channel part)

abbrev pub is_allowed : Scene → SessionDeed → Part → Bool
is_allowed scene Turn part = true
is_allowed scene (TakeVideo k) part = may_take_video (video_of scene.ticks part) k part
is_allowed scene (TakeAudio k) part = is_nameable (audio_of scene.ticks part) k
is_allowed scene (TakeUp k) part = is_nameable part.client.wrote k
is_allowed scene (TakeDown k) part = is_nameable part.host.wrote k
is_allowed scene (Give event) part = may_give (event_channel event) part
is_allowed scene AskIdr part = may_give request_channel part
is_allowed scene Close part = is_client_open part
is_allowed scene Reset part = is_client_open part && not (has_made_most request_channel part)
is_allowed scene Mark part = true

abbrev pub refused_unless : Bool → Option Refusal
refused_unless true = None
refused_unless false = Some BadLine

-- in a session that isn't open nothing may be done
abbrev pub refusal_in : Scene → SessionDeed → Option RunSession → Option Refusal
refusal_in scene deed None = Some BadLine
refusal_in scene deed (Some session) = refused_unless (is_allowed scene deed session.part)

-- ---- in all

-- behind the last tick of the file stand its fault, or its end
abbrev pub refusal_at_end : Option Fault → Refusal
refusal_at_end None = BadLine
refusal_at_end (Some fault) = BadFile fault

unfoldable pub refusal : CaptureFile → Deed → State → Option Refusal
refusal file (Open packet percentage minimum window) state =
    refused_unless
    (nat_lt (length state.sessions) most_sessions && numbers_are_allowed packet percentage minimum window)
refusal file Capture state =
    if nat_lt state.captured (length file.ticks) then None else Some (refusal_at_end file.fault)
refusal file (Pass by) state = refused_unless (nat_le (state.moment + by) most_moment)
refusal file (In number deed) state = refusal_in (scene_of file number state) deed (session_numbered state number)
