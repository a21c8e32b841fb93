-- What the links of a turn gain, by what was put on them.
use Rattle.std.proofs.Common.{◌≡◌, ◌≤◌, ℕ, Bool, List, [], ◌∷◌, ◌++◌, length, map, Option, Some, sym, ap, subst, ◌∙◌, inl, inr}
use Rattle.std.specs.Prelude.{◌==◌}
use Rattle.std.specs.Option.{option_map}
use Rattle.std.specs.List.{All, find, flat_map}
use Rattle.std.proofs.lemmas.Bool.{cases_Bool, cond-true, cond-false}
use Rattle.std.proofs.lemmas.List.{append-nil}
use Rattle.std.proofs.lemmas.List.Elements.{All-head, All-tail}
use Rattle.std.proofs.lemmas.Option.{same_Some}
use Rattle.gs_bytes.specs.declared.addr.Addr.{Addr}
use Rattle.gs_rtp.specs.Stream.{StreamSettings}
use Rattle.gs_tape.specs.Limits.{most_unit}
use Rattle.gs_tape.specs.Tick.{Tick, Delta}
use Rattle.gs_refs.specs.declared.entry.Entry.{Entry}
use Rattle.gs_refs.specs.declared.sent.Sent.{Sent}
use Rattle.gs_refs.specs.Answers.{next_sent, sent_entry}
use Rattle.gs_frames.specs.Datagrams.{OutgoingFrame, frame_datagrams}
use Rattle.gs_split.specs.Splitting.{frame_behind}
use Rattle.gs_stream.specs.Video.{video_stream}
use Rattle.gs_stream.specs.Audio.{audio_units, audio_stream}
use Rattle.gs_host_core.specs.Units.{sent_unit_of}
use Rattle.gs_host_core.specs.Hosting.{IsSendable, IsTurn, SendsTick}
use Rattle.gs_host_core.specs.Puts.{LinkTold, PutsAll, PutsFront, Gains, GainsFront}
use Rattle.gs_host_core.specs.Sounds.{sound_behind}
use Rattle.gs_host_core.proofs.Puts.{front-none}
use Rattle.gs_host_core.proofs.Sounds.{sound-put, sound-failed, sound-behind}
use Rattle.gs_host_core.proofs.Turns.{video-gain, audio-gain}

-- ---- in general

pub gains-front : (a b : LinkTold) (to : Addr) (old new : List (List ℕ)) → Gains a b to old new → GainsFront a b to old new
gains-front a b to old new g = record {
  gained = g.gained;
  grows = g.grows;
  put = record { front = g.gained; is_front = ([], sym (append-nil g.gained)); put = g.put };
}

-- nothing was put, whatever the stream gained
pub gains-none : (a : LinkTold) (to : Addr) (old new gained : List (List ℕ)) → new ≡ old ++ gained → GainsFront a a to old new
gains-none a to old new gained grows = record { gained = gained; grows = grows; put = front-none a to gained }

-- the stream gained nothing either
pub gains-nothing : (a : LinkTold) (to : Addr) (old new : List (List ℕ)) → new ≡ old → GainsFront a a to old new
gains-nothing a to old new same = gains-none a to old new [] (same ∙ sym (append-nil old))

-- ---- the video

abbrev pub turn_frame : StreamSettings → List Tick → List Entry → Tick → Sent → List ℕ → OutgoingFrame
turn_frame s ticks h t sent u = frame_behind (length (video_stream s ticks h)) sent.frame sent.kind t.time u

pub video-whole : (a b : LinkTold) (to : Addr) (s : StreamSettings) (ticks : List Tick) (h : List Entry) (t : Tick) (sent : Sent) (u : List ℕ)
    → SendsTick ticks h t sent → sent_unit_of t sent ≡ Some u → PutsAll a b to (frame_datagrams s (turn_frame s ticks h t sent u))
    → Gains a b to (video_stream s ticks h) (video_stream s ticks (sent_entry sent ∷ h))
video-whole a b to s ticks h t sent u is has put = record {
  gained = frame_datagrams s (turn_frame s ticks h t sent u);
  grows = video-gain s ticks h t sent u is has;
  put = put;
}

pub video-part : (a b : LinkTold) (to : Addr) (s : StreamSettings) (ticks : List Tick) (h : List Entry) (t : Tick) (sent : Sent) (u : List ℕ)
    → SendsTick ticks h t sent → sent_unit_of t sent ≡ Some u → PutsFront a b to (frame_datagrams s (turn_frame s ticks h t sent u))
    → GainsFront a b to (video_stream s ticks h) (video_stream s ticks (sent_entry sent ∷ h))
video-part a b to s ticks h t sent u is has put = record {
  gained = frame_datagrams s (turn_frame s ticks h t sent u);
  grows = video-gain s ticks h t sent u is has;
  put = put;
}

-- ---- the audio

abbrev flat : {A : Type 0} → (A → Tick) → List A → List (List ℕ)
flat val ts = flat_map (λ t. (val t).audio) ts

module _ {A : Type 0} (s : StreamSettings) (ticks : List Tick) (h : List Entry) (newest : Tick) (ts : List A) (val : A → Tick)
    (is : IsTurn ticks h newest (map val ts)) where
  pub audio-whole : (a b c : LinkTold) (to : Addr) → PutsAll a b to (sound_behind s (audio_units ticks h) (flat val ts))
      → PutsAll b c to (sound_behind s (audio_units ticks h ++ flat val ts) newest.audio)
      → Gains a c to (audio_stream s ticks h) (audio_stream s ticks (sent_entry (next_sent h newest) ∷ h))
  audio-whole a b c to p q = record {
    gained = sound_behind s (audio_units ticks h) (flat val ts ++ newest.audio);
    grows = audio-gain s ticks h newest ts val is;
    put = sound-put a b c to s (audio_units ticks h) (flat val ts) newest.audio p q;
  }

  -- a link failed at a tick between, or at the newest, or before
  pub audio-first : (a b : LinkTold) (to : Addr) → PutsFront a b to (sound_behind s (audio_units ticks h) (flat val ts))
      → GainsFront a b to (audio_stream s ticks h) (audio_stream s ticks (sent_entry (next_sent h newest) ∷ h))
  audio-first a b to p = record {
    gained = sound_behind s (audio_units ticks h) (flat val ts ++ newest.audio);
    grows = audio-gain s ticks h newest ts val is;
    put = sound-behind a b to s (audio_units ticks h) (flat val ts) newest.audio p;
  }

  pub audio-last : (a b c : LinkTold) (to : Addr) → PutsAll a b to (sound_behind s (audio_units ticks h) (flat val ts))
      → PutsFront b c to (sound_behind s (audio_units ticks h ++ flat val ts) newest.audio)
      → GainsFront a c to (audio_stream s ticks h) (audio_stream s ticks (sent_entry (next_sent h newest) ∷ h))
  audio-last a b c to p q = record {
    gained = sound_behind s (audio_units ticks h) (flat val ts ++ newest.audio);
    grows = audio-gain s ticks h newest ts val is;
    put = sound-failed a b c to s (audio_units ticks h) (flat val ts) newest.audio p q;
  }

  pub audio-none : (a : LinkTold) (to : Addr)
      → GainsFront a a to (audio_stream s ticks h) (audio_stream s ticks (sent_entry (next_sent h newest) ∷ h))
  audio-none a to =
      gains-none a to (audio_stream s ticks h) (audio_stream s ticks (sent_entry (next_sent h newest) ∷ h))
      (sound_behind s (audio_units ticks h) (flat val ts ++ newest.audio)) (audio-gain s ticks h newest ts val is)

-- ---- the unit that goes out

found_most : (p : Delta → Bool) (ds : List Delta) (u : List ℕ) (most : ℕ) → option_map (λ d. d.unit) (find p ds) ≡ Some u
    → All (λ d. length d.unit ≤ most) ds → length u ≤ most
found_most p [] u most e all = cc
found_most p (d ∷ ds) u most e all =
    let unit : Option Delta → Option (List ℕ) = λ o. option_map (λ (x : Delta). x.unit) o in
    elim (cases_Bool (p d)) [
      | inl here ↦
          let same : d.unit ≡ u = same_Some d.unit u (sym (ap unit (cond-true (p d) (Some d) (find p ds) here)) ∙ e) in
          subst (λ (x : List ℕ). length x ≤ most) same (All-head (λ (x : Delta). length x.unit ≤ most) d ds all)
      | inr other ↦
          found_most p ds u most (sym (ap unit (cond-false (p d) (Some d) (find p ds) other)) ∙ e)
          (All-tail (λ (x : Delta). length x.unit ≤ most) d ds all)
    ]

-- is within its limit
pub unit-most : (s : StreamSettings) (t : Tick) (sent : Sent) (u : List ℕ) → IsSendable s t → sent_unit_of t sent ≡ Some u → length u ≤ most_unit
unit-most s t sent u is e =
    let found = option_map (λ (d : Delta). d.unit) (find (λ d. d.named == sent.named) t.deltas) in
    elim (cases_Bool (sent.kind == 2)) [
      | inl idr ↦
          let same : t.idr ≡ u = same_Some t.idr u (sym (cond-true (sent.kind == 2) (Some t.idr) found idr) ∙ e) in
          subst (λ (x : List ℕ). length x ≤ most_unit) same is.idr
      | inr other ↦
          found_most (λ d. d.named == sent.named) t.deltas u most_unit (sym (cond-false (sent.kind == 2) (Some t.idr) found other) ∙ e) is.deltas
    ]
