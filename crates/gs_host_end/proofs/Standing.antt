-- The part that a host's end stands for behind each of its calls.
use Rattle.std.specs.Prelude.{Result, Ok, Err, OnOk, slice_get}
use Rattle.std.proofs.Common.{◌≡◌, ◌+◌, ◌-◌, ℕ, Bool, true, false, cond, List, [], ◌∷◌, ◌++◌, length, refl, sym, ap, subst, ◌∙◌, arith}
use Rattle.std.specs.List.{flat_map}
use Rattle.std.proofs.lemmas.List.{append-nil, length-append}
use Rattle.std.proofs.lemmas.Grind.{flat_map-append}
use Rattle.gs_tape.specs.Tick.{Tick}
use Rattle.gs_rtp.specs.Stream.{StreamSettings}
use Rattle.gs_refs.specs.declared.entry.Entry.{Entry}
use Rattle.gs_frames.specs.Client.{ClientSettings}
use Rattle.gs_stream.specs.Video.{video_stream}
use Rattle.gs_stream.specs.Audio.{audio_stream, audio_units}
use Rattle.gs_client_core.specs.declared.asker.Owed.{Owed}
use Rattle.gs_client_core.specs.Owed.{request_channel, owed_message}
use Rattle.gs_enet.specs.declared.event.PeerEvent.{PeerEvent}
use Rattle.gs_enet.specs.Record.{accepting}
use Rattle.gs_enet.specs.Steps.{can_send}
use Rattle.gs_enet.specs.Sides.{new_side, written_out, all_told}
use Rattle.gs_enet.specs.World.{Side, Send, acted, came}
use Rattle.gs_store.specs.declared.store.Store.{Store}
use Rattle.gs_store.specs.Standing.{IsStoreOf}
use Rattle.gs_store.specs.Named.{is_nameable}
use Rattle.gs_sides.specs.declared.side.ControlSide.{ControlSide}
use Rattle.gs_sides.specs.Outcomes.{SideTellsAll, SideTakes}
use Rattle.gs_sides.specs.Standing.{IsSideOf}
use Rattle.gs_host_core.specs.Hosting.{Hosting, StandsOver}
use Rattle.gs_run.specs.Session.{Part, video_of, audio_of}
use Rattle.gs_run.specs.Report.{Acted}
use Rattle.gs_run.specs.Opening.{new_part}
use Rattle.gs_run.specs.Connection.{with_owed, settled_part}
use Rattle.gs_run.specs.Hearing.{all_heard, host_hears, up_taken}
use Rattle.gs_run.specs.Totals.{input_of}
use Rattle.gs_run.proofs.Standing.{kept_out}
use Rattle.gs_report.specs.Reporting.{Reporting, Did, with_reports}
use Rattle.gs_host_end.specs.declared.end.HostEnd.{HostEnd}
use Rattle.gs_host_end.specs.Heard.{KeepsHosting}
use Rattle.gs_host_end.specs.Standing.{IsHostEndOf}

-- ---- opening

pub opens : (new : HostEnd) (session now : ℕ) (ticks : List Tick) (c : ClientSettings) (settings : StreamSettings) → c.stream ≡ settings
    → c.stream.ssrc ≡ session → new.session ≡ session → new.host.settings ≡ settings → new.host.history ≡ [] → StandsOver new.host ticks
    → new.lost ≡ false → IsSideOf new.side (new_side (accepting (session - 1) 0 session now)) → IsStoreOf new.video [] → IsStoreOf new.audio []
    → new.inputs ≡ 0 → IsHostEndOf new session ticks (new_part (session - 1) now c)
unfolding video_stream audio_stream audio_units
opens new session now ticks c settings same ssrc is settings_are history over whole side video audio inputs = record {
  session_is = is;
  settings = settings_are ∙ sym same;
  history = history;
  over = over;
  whole = whole;
  side = subst (λ (n : ℕ). IsSideOf new.side (new_side (accepting (session - 1) 0 n now))) (sym ssrc) side;
  video = video;
  audio = audio;
  inputs = inputs;
}

-- ---- settling

-- what is owed changes the client's side and what is owed, and nothing else
record WithOwed (old new : Part) : Type 0 where
  pub client : Side
  pub owed : List Owed
  pub is : new ≡ record old { client = client; owed = owed }

with_owed-is : (os : List Owed) (part : Part) → WithOwed part (with_owed os part)
with_owed-is [] part = record { client = part.client; owed = []; is = refl }
with_owed-is (first ∷ rest) part =
    by (can_send part.client.peer request_channel)
    (with_owed-is rest (record part { client = acted (Send request_channel (owed_message first)) part.client }))
  where
    given : Part
    given = record part { client = acted (Send request_channel (owed_message first)) part.client }

    by : (b : Bool) → WithOwed (record part { client = acted (Send request_channel (owed_message first)) part.client })
        (with_owed rest (record part { client = acted (Send request_channel (owed_message first)) part.client }))
        → WithOwed part (cond {A = Part} b (with_owed rest (record part { client = acted (Send request_channel (owed_message first)) part.client }))
        (record part { owed = first ∷ rest }))
    by true w = record { client = w.client; owed = w.owed; is = w.is }
    by false w = record { client = part.client; owed = first ∷ rest; is = refl }

-- a side that wrote out
record Settled (now : ℕ) (old new : Part) : Type 0 where
  pub client : Side
  pub owed : List Owed
  pub is : new ≡ record old { client = client; owed = owed; host = written_out now old.host }

settled_part-is : (now : ℕ) (part : Part) → Settled now part (settled_part now part)
unfolding settled_part
settled_part-is now part =
    let w = with_owed-is part.owed part in
    record {
      client = written_out now w.client;
      owed = w.owed;
      is = ap (λ (p : Part). record p { client = written_out now p.client; host = written_out now p.host }) w.is;
    }

pub settles : (old new : HostEnd) (session now : ℕ) (ticks : List Tick) (part : Part) → IsHostEndOf old session ticks part
    → ((x : Side) → IsSideOf old.side x → IsSideOf new.side (written_out now x)) → new.session ≡ old.session → new.host ≡ old.host
    → new.lost ≡ old.lost → new.video ≡ old.video → new.audio ≡ old.audio → new.inputs ≡ old.inputs
    → IsHostEndOf new session ticks (settled_part now part)
settles old new session now ticks part s written is host lost video audio inputs =
    let w = settled_part-is now part in
    subst (IsHostEndOf new session ticks) (sym w.is) (record {
      session_is = is ∙ s.session_is;
      settings = ap (λ (h : Hosting). h.settings) host ∙ s.settings;
      history = ap (λ (h : Hosting). h.history) host ∙ s.history;
      over = subst (λ (h : Hosting). StandsOver h ticks) (sym host) s.over;
      whole = lost ∙ s.whole;
      side = written part.host s.side;
      video = subst (λ (t : Store (List ℕ)). IsStoreOf t (video_of ticks part)) (sym video) s.video;
      audio = subst (λ (t : Store (List ℕ)). IsStoreOf t (audio_of ticks part)) (sym audio) s.audio;
      inputs = inputs ∙ s.inputs ∙ sym (ap (λ (es : List PeerEvent). length (flat_map input_of es)) (kept_out now part.host).told);
    })

-- ---- hearing

-- a host whose side moved, and was told the same, hears what waits
pub hears : (old new : HostEnd) (session : ℕ) (ticks : List Tick) (part : Part) (x : Side) (es : List PeerEvent) (before after : Reporting)
    → IsHostEndOf old session ticks part → x.peer.told ≡ part.host.peer.told → es ≡ x.peer.waiting
    → IsSideOf new.side (record x { peer = all_told x.peer }) → KeepsHosting old.host new.host
    → Did (λ (h : List Entry). new.host.history ≡ h) (all_heard old.session es old.host.history) before after
    → new.inputs ≡ old.inputs + length (flat_map input_of es)
    → new.session ≡ old.session → new.lost ≡ old.lost → new.video ≡ old.video → new.audio ≡ old.audio
    → Did (IsHostEndOf new session ticks) (host_hears session (record part { host = x })) before after
hears old new session ticks part x es before after s same waits side keeps did counts is lost video audio =
    let all : Acted (List Entry) = all_heard session x.peer.waiting part.history in
    let all_is : all_heard old.session es old.host.history ≡ all =
    ap (λ (n : ℕ). all_heard n es old.host.history) s.session_is
    ∙ ap (λ (l : List PeerEvent). all_heard session l old.host.history) waits
    ∙ ap (λ (h : List Entry). all_heard session x.peer.waiting h) s.history in
    let history : new.host.history ≡ all.value = did.stands ∙ ap (λ (a : Acted (List Entry)). a.value) all_is in
    let told : length (flat_map input_of (x.peer.told ++ x.peer.waiting))
    ≡ length (flat_map input_of x.peer.told) + length (flat_map input_of x.peer.waiting) =
    ap length (flat_map-append input_of x.peer.told x.peer.waiting)
    ∙ length-append (flat_map input_of x.peer.told) (flat_map input_of x.peer.waiting) in
    let known : length (flat_map input_of x.peer.told) ≡ length (flat_map input_of part.host.peer.told) =
    ap (λ (l : List PeerEvent). length (flat_map input_of l)) same in
    let waiting : length (flat_map input_of es) ≡ length (flat_map input_of x.peer.waiting) =
    ap (λ (l : List PeerEvent). length (flat_map input_of l)) waits in
    let stream : StreamSettings = part.settings.stream in
    record {
      stands = record {
        session_is = is ∙ s.session_is;
        settings = keeps.settings ∙ s.settings;
        history = history;
        over = keeps.stands ticks s.over;
        whole = lost ∙ s.whole;
        side = side;
        video = subst (IsStoreOf new.video)
            (ap (video_stream stream ticks) (sym s.history) ∙ sym (keeps.video stream ticks) ∙ ap (video_stream stream ticks) history)
            (subst (λ (t : Store (List ℕ)). IsStoreOf t (video_stream stream ticks part.history)) (sym video) s.video);
        audio = subst (IsStoreOf new.audio)
            (ap (audio_stream stream ticks) (sym s.history) ∙ sym (keeps.audio stream ticks) ∙ ap (audio_stream stream ticks) history)
            (subst (λ (t : Store (List ℕ)). IsStoreOf t (audio_stream stream ticks part.history)) (sym audio) s.audio);
        inputs = omega (arith, counts, s.inputs, told, known, waiting);
      };
      text = did.text ∙ ap (with_reports before)
          (ap (λ (a : Acted (List Entry)). a.reports) all_is ∙ sym (append-nil all.reports));
    }

pub hears-up : (P : Part → Type 0) (session now k : ℕ) (part : Part) (before after : Reporting)
    → Did P (host_hears session (record part { host = came (slice_get part.client.wrote (k - 1)) now part.host })) before after
    → Did P (up_taken session now k part) before after
unfolding up_taken
hears-up P session now k part before after did = did

-- ---- what a call of its side answered

pub took-none : (b : Bool) (x y : Side) (k now : ℕ) (events : List PeerEvent) (new : ControlSide) → b ≡ false → SideTakes x y k now b events new
    → is_nameable y.wrote k ≡ false
took-none false x y k now events new e t = t.0
took-none true x y k now events new e t = absurd cc

pub took-one : (b : Bool) (x y : Side) (k now : ℕ) (events : List PeerEvent) (new : ControlSide) → b ≡ true → SideTakes x y k now b events new
    → (is_nameable y.wrote k ≡ true) × SideTellsAll (came (slice_get y.wrote (k - 1)) now x) events new
took-one true x y k now events new e t = t
took-one false x y k now events new e t = absurd cc

pub both-ok : {T E P Q R : Type 0} (r : Result T E) → (P → Q → R) → OnOk r P → OnOk r Q → OnOk r R
both-ok (Ok v) f p q = f p q
both-ok (Err e) f p q = tt
