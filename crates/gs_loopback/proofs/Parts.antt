-- What a session stands for while a part of it changes at one end alone.
use Rattle.std.proofs.Common.{◌≡◌, ◌≤◌, ℕ, Bool, true, false, cond, List, [], ◌∷◌, length, refl, sym, ap, subst, ◌∙◌, inl, inr}
use Rattle.std.specs.Prelude.{◌⊎◌}
use Rattle.gs_tape.specs.Tick.{Tick}
use Rattle.gs_feed.specs.Feeding.{Feeding, forgotten}
use Rattle.gs_refs.specs.declared.entry.Entry.{Entry}
use Rattle.gs_frames.specs.Client.{Arrival}
use Rattle.gs_client_core.specs.declared.asker.Owed.{Owed}
use Rattle.gs_client_core.specs.Owed.{request_channel, owed_message}
use Rattle.gs_enet.specs.Steps.{can_send}
use Rattle.gs_enet.specs.World.{Side, Send, acted}
use Rattle.gs_run.specs.Session as run
use Rattle.gs_run.specs.Session.{Part, video_of, audio_of}
use Rattle.gs_run.specs.Scene.{Scene}
use Rattle.gs_run.specs.Pump.{ends_of}
use Rattle.gs_run.specs.Connection.{with_owed, settled_part}
use Rattle.gs_client_end.specs.declared.end.ClientEnd.{ClientEnd}
use Rattle.gs_client_end.specs.Standing.{IsClientEndOf}
use Rattle.gs_host_end.specs.declared.end.HostEnd.{HostEnd}
use Rattle.gs_host_end.specs.Outcomes.{KeepsTicks, SentNothing}
use Rattle.gs_host_end.specs.Standing.{IsHostEndOf}
use Rattle.gs_loopback.specs.Standing.{run_marks}

-- a host's end knows nothing of the client, and the client's end nothing of the host
pub same_host : (end : HostEnd) (session : ℕ) (ticks : List Tick) (part : Part) (came : List Arrival) (sound : List (List ℕ))
    (client : Side) (owed : List Owed) (marks : run.PartMarks) → IsHostEndOf end session ticks part
    → IsHostEndOf end session ticks (record part { came = came; sound = sound; client = client; owed = owed; marks = marks })
same_host end session ticks part came sound client owed marks h = record {
  session_is = h.session_is;
  settings = h.settings;
  history = h.history;
  over = h.over;
  whole = h.whole;
  side = h.side;
  video = h.video;
  audio = h.audio;
  inputs = h.inputs;
}

pub same_client : (end : ClientEnd) (session : ℕ) (part : Part) (history : List Entry) (host : Side) (marks : run.PartMarks)
    → IsClientEndOf end session part
    → IsClientEndOf end session (record part { history = history; host = host; marks = marks })
same_client end session part history host marks h = record {
  session_is = h.session_is;
  client = h.client;
  side = h.side;
  asker = h.asker;
  owed = h.owed;
  sums = record { handed = h.sums.handed; asks = h.sums.asks; units = h.sums.units };
}

-- no frame was sent in two steps
pub sent_nothing : (old mid new : HostEnd) → SentNothing old mid → SentNothing mid new → SentNothing old new
sent_nothing old mid new first second = record {
  audio = second.audio ∙ first.audio;
  frames = second.frames ∙ first.frames;
  last_tick = second.last_tick ∙ first.last_tick;
}

-- what the next turn wants is still kept
pub still_keeps : (feed : Feeding) (old new : HostEnd) → SentNothing old new → KeepsTicks feed old → KeepsTicks feed new
still_keeps feed old new sent keeps = record { audio = keeps.audio ∙ sym sent.audio; kept = by keeps.kept } where
  by : (old.frames ≡ 0) ⊎ (forgotten feed ≤ old.last_tick) → (new.frames ≡ 0) ⊎ (forgotten feed ≤ new.last_tick)
  by (inl none) = inl (sent.frames ∙ none)
  by (inr behind) = inr (subst (λ (n : ℕ). forgotten feed ≤ n) (sym sent.last_tick) behind)

-- no mark moves where a side is given what is owed
owed_marks : (owed : List Owed) (part : Part) → (with_owed owed part).marks ≡ part.marks
owed_marks [] part = refl
owed_marks (first ∷ rest) part = by (can_send part.client.peer request_channel) (owed_marks rest gone) where
  gone : Part
  gone = record part { client = acted (Send request_channel (owed_message first)) part.client }

  by : (b : Bool) → (with_owed rest gone).marks ≡ gone.marks
      → (cond {A = Part} b (with_owed rest gone) (record part { owed = first ∷ rest })).marks ≡ part.marks
  by true behind = behind
  by false behind = refl

pub settled_marks : (now : ℕ) (part : Part) → (settled_part now part).marks ≡ part.marks
unfolding settled_part
settled_marks now part = owed_marks part.owed part

-- how many datagrams there are of each kind
pub ends_are : (video audio up down : ℕ) (scene : Scene) (part : Part) → video ≡ length (video_of scene.ticks part)
    → audio ≡ length (audio_of scene.ticks part) → up ≡ length part.client.wrote → down ≡ length part.host.wrote
    → run_marks (record { video = video; audio = audio; up = up; down = down }) ≡ ends_of scene part
ends_are video audio up down scene part a b c d =
    let ends : run.PartMarks = ends_of scene part in
    ap (λ (n : ℕ). run_marks (record { video = n; audio = audio; up = up; down = down })) a
    ∙ ap (λ (n : ℕ). run_marks (record { video = ends.video; audio = n; up = up; down = down })) b
    ∙ ap (λ (n : ℕ). run_marks (record { video = ends.video; audio = ends.audio; up = n; down = down })) c
    ∙ ap (λ (n : ℕ). run_marks (record { video = ends.video; audio = ends.audio; up = ends.up; down = n })) d
