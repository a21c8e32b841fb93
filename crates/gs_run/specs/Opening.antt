-- How a session is opened.
use Rattle.std.specs.Prelude.{ℕ, ◌+◌, ◌-◌, ◌&&◌, Bool, [], ◌∷◌, ◌++◌, length, nat_le}
use Rattle.gs_rtp.specs.Limits.{least_packet, most_packet, most_percentage, most_minimum}
use Rattle.gs_rtp.specs.Stream.{StreamSettings}
use Rattle.gs_frames.specs.Client.{ClientSettings, least_window, most_window}
use Rattle.gs_enet.specs.Record.{PeerRecord, connecting, accepting}
use Rattle.gs_enet.specs.Sides.{new_side}
use Rattle.gs_run.specs.declared.limits.TheConstants.{MOST_SESSIONS, SESSION_FPS}
use Rattle.gs_run.specs.CaptureFile.{CaptureFile}
use Rattle.gs_run.specs.Session.{Part, State}
use Rattle.gs_run.specs.Connection.{both_written_out, settled_part}
use Rattle.gs_run.specs.Hearing.{up_taken, down_taken}

-- how many sessions a run may have
abbrev pub most_sessions : ℕ
most_sessions = MOST_SESSIONS

-- the numbers of a session are within their limits
abbrev pub numbers_are_allowed : ℕ → ℕ → ℕ → ℕ → Bool
numbers_are_allowed packet percentage minimum window =
    nat_le least_packet packet && nat_le packet most_packet
    && nat_le percentage most_percentage && nat_le minimum most_minimum
    && nat_le least_window window && nat_le window most_window

-- a stream with the frames a second of every session, and the audio of the capture file
abbrev pub session_settings : CaptureFile → (ssrc packet percentage minimum : ℕ) → StreamSettings
session_settings file ssrc packet percentage minimum = record {
  packet = packet;
  percentage = percentage;
  minimum = minimum;
  fps = SESSION_FPS;
  duration = file.duration;
  audio = file.audio;
  ssrc = ssrc;
}

-- its client, with a window of so many frames
abbrev pub client_of : StreamSettings → ℕ → ClientSettings
client_of stream window = record { stream = stream; window = window }

-- The client has the id 0, and the connection is named by the number of the stream, which its data is too. The host's
-- side is made by the client's CONNECT. The marks of the control datagrams stand behind the three that open it.
abbrev pub new_part : ℕ → ℕ → ClientSettings → Part
new_part host_id now settings = record {
  settings = settings;
  history = [];
  came = [];
  sound = [];
  client = new_side (connecting 0 settings.stream.ssrc settings.stream.ssrc now);
  host = new_side (accepting host_id 0 settings.stream.ssrc now);
  owed = [];
  marks = record { video = 0; audio = 0; up = 2; down = 1 };
}

-- VERIFY CONNECT is delivered, and then its acknowledgement
unfoldable pub opened_part : ℕ → ℕ → ClientSettings → Part
opened_part session now settings =
    let written = both_written_out now (new_part (session - 1) now settings) in
    let verified = settled_part now (down_taken session now 1 written).value in
    settled_part now (up_taken session now 2 verified).value

-- the next session is opened
unfoldable pub opened_session : CaptureFile → (packet percentage minimum window : ℕ) → State → State
opened_session file packet percentage minimum window state =
    let number = length state.sessions + 1 in
    let settings = client_of (session_settings file number packet percentage minimum) window in
    record state {
      sessions = state.sessions
          ++ record { part = opened_part number state.moment settings; earlier = [] } ∷ [];
    }
