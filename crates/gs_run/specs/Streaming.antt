-- What a host does at its turn, and a client with what it is given of the streams.
use Rattle.std.specs.Prelude.{ℕ, ◌-◌, ◌&&◌, not, List, [], ◌∷◌, ◌++◌, map, Option, Some, None, slice_get}
use Rattle.std.specs.Prelude.{nat_lt, if◌then◌else◌}
use Rattle.gs_tape.specs.Tick.{Tick, tick_numbered}
use Rattle.gs_refs.specs.declared.entry.Entry.{Entry}
use Rattle.gs_refs.specs.declared.entry.Entry.TheVariants as entry
use Rattle.gs_refs.specs.History.{last_tick, has_ended}
use Rattle.gs_refs.specs.Choice.{Choice, choice}
use Rattle.gs_frames.specs.Client.{Datagram, Reset}
use Rattle.gs_frames.specs.Handed.{newly_handed}
use Rattle.gs_frames.specs.Asks.{newly_asked, as_list}
use Rattle.gs_schedule.specs.declared.output.Output.TheVariants as output
use Rattle.gs_audio.specs.Played.{newly_played}
use Rattle.gs_run.specs.Session.{Part, video_of, audio_of}
use Rattle.gs_client_core.specs.declared.asker.Owed.TheVariants.{Lost, Idr}
use Rattle.gs_run.specs.Report.{Acted, quietly, reporting, ◌>>=◌, ask_report, hand_report, play_report}
use Rattle.gs_run.specs.Hearing.{entered}
use Rattle.gs_run.specs.Scene.{Scene}

-- ---- the host's turn

abbrev pub turn_entry : ℕ → Choice → Entry
turn_entry tick chosen = entry.Sent tick chosen.kind chosen.reference

-- The host sends the newest tick as it chooses, unless that was sent or the session ended.
abbrev pub newest_sent : Scene → Option Tick → List Entry → Acted (List Entry)
newest_sent scene None h = quietly h
newest_sent scene (Some newest) h =
    if nat_lt (last_tick h) scene.captured && not (has_ended h)
    then entered scene.session (turn_entry scene.captured (choice h newest)) h
    else quietly h

unfoldable pub turned : Scene → Part → Acted Part
turned scene part = do
  history ← newest_sent scene (tick_numbered scene.ticks scene.captured) part.history
  quietly (record part { history = history })

-- ---- the client

-- what it asks for it owes; what it asks for is reported first, and then what it hands
abbrev pub with_video : ℕ → List ℕ → Part → Acted Part
with_video session bytes part =
    let lost = as_list (newly_asked part.settings (Datagram bytes) part.came) in
    let frames = newly_handed part.settings (Datagram bytes) part.came in
    record {
      value = record part { came = Datagram bytes ∷ part.came; owed = part.owed ++ map Lost lost };
      reports = map (ask_report session) lost ++ map (hand_report session) frames;
    }

abbrev pub with_video_if : ℕ → Option (List ℕ) → Part → Acted Part
with_video_if session None part = quietly part
with_video_if session (Some bytes) part = with_video session bytes part

-- it is given the k-th video datagram that the host sent
unfoldable pub video_taken : Scene → ℕ → Part → Acted Part
video_taken scene k part = with_video_if scene.session (slice_get (video_of scene.ticks part) (k - 1)) part

abbrev pub with_audio : ℕ → List ℕ → Part → Acted Part
with_audio session bytes part = record {
  value = record part { sound = bytes ∷ part.sound };
  reports = map (play_report session) (newly_played part.settings.stream bytes part.sound);
}

abbrev pub with_audio_if : ℕ → Option (List ℕ) → Part → Acted Part
with_audio_if session None part = quietly part
with_audio_if session (Some bytes) part = with_audio session bytes part

-- it is given the k-th audio datagram
unfoldable pub audio_taken : Scene → ℕ → Part → Acted Part
audio_taken scene k part = with_audio_if scene.session (slice_get (audio_of scene.ticks part) (k - 1)) part

-- Its decoder loses its state, so that it owes its host an IDR request.
unfoldable pub reset : ℕ → Part → Acted Part
reset session part =
    reporting (output.Reset session) (record part { came = Reset ∷ part.came; owed = part.owed ++ Idr ∷ [] })
