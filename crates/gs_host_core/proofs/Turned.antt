-- What stands at each step of a turn, by the choice that it began with.
use Rattle.std.proofs.Common.{◌≡◌, ◌<◌, ◌≤◌, ◌+◌, ◌*◌, ◌%◌, ◌^◌, ℕ, List, ◌∷◌, length, map, sym, ap, subst, ◌∙◌, arith}
use Rattle.std.specs.List.{All, flat_map}
use Rattle.std.proofs.lemmas.Simd.{map-map}
use Rattle.gs_bytes.specs.declared.addr.Addr.{Addr}
use Rattle.gs_rtp.specs.Stream.{StreamSettings}
use Rattle.gs_tape.specs.Tick.{Tick}
use Rattle.gs_refs.specs.declared.entry.Entry.{Entry}
use Rattle.gs_refs.specs.declared.sent.Sent.{Sent}
use Rattle.gs_refs.specs.History.{last_tick}
use Rattle.gs_refs.specs.Answers.{next_sent, sent_entry}
use Rattle.gs_audio.specs.Sending.{Sending, HasPushed}
use Rattle.gs_stream.specs.Video.{video_stream}
use Rattle.gs_stream.specs.Audio.{audio_stream, audio_units}
use Rattle.gs_host_core.specs.Hosting.{Hosting, AreOfCapture, IsSendable, IsTurn, StandsOver, numbers_between}
use Rattle.gs_host_core.specs.Puts.{LinkTold, Gains, GainsFront}
use Rattle.gs_host_core.proofs.Turns.{last-sent, turn-few}

abbrev with_sent : Hosting → Sent → Hosting
with_sent old sent = record old { history = sent_entry sent ∷ old.history }

module _ (n : Tick) (sent : Sent) (old s1 : Hosting) (ok : s1 ≡ with_sent old sent) (sent_is : sent ≡ next_sent old.history n) where
  abbrev next : List Entry
  next = sent_entry (next_sent old.history n) ∷ old.history

  pub history-is : (s2 : Hosting) → s2.history ≡ s1.history → s2.history ≡ next
  history-is s2 e = e ∙ ap (λ (v : Hosting). v.history) ok ∙ ap (λ (s : Sent). sent_entry s ∷ old.history) sent_is

  pub settings-are : (s2 : Hosting) → s2.settings ≡ s1.settings → s2.settings ≡ old.settings
  settings-are s2 e = e ∙ ap (λ (v : Hosting). v.settings) ok

  pub audio-is : (s2 : Hosting) → s2.audio ≡ s1.audio → s2.audio ≡ old.audio
  audio-is s2 e = e ∙ ap (λ (v : Hosting). v.audio) ok

  pub agrees : (ticks : List Tick) → StandsOver old ticks → length (video_stream s1.settings ticks old.history) % 2 ^ 32 ≡ s1.count
  agrees ticks stands =
      let P : Hosting → Type 0 = λ v. length (video_stream v.settings ticks old.history) % 2 ^ 32 ≡ v.count in subst P (sym ok) stands.video

  pub pushes : (ticks : List Tick) (s2 : Hosting) → s2.audio ≡ s1.audio → StandsOver old ticks → HasPushed s2.audio (audio_units ticks old.history)
  pushes ticks s2 e stands = subst (λ (x : Sending). HasPushed x (audio_units ticks old.history)) (sym (audio-is s2 e)) stands.audio

  -- what is said of the streams with the settings of a step is said with those of the host
  video_as : (ticks : List Tick) (now : List Entry) (Q : List (List ℕ) → List (List ℕ) → Type 0) → now ≡ next
      → Q (video_stream s1.settings ticks old.history) (video_stream s1.settings ticks (sent_entry sent ∷ old.history))
      → Q (video_stream old.settings ticks old.history) (video_stream old.settings ticks now)
  video_as ticks now Q e q =
      subst (λ (l : List Entry). Q (video_stream old.settings ticks old.history) (video_stream old.settings ticks l)) (sym e)
      (subst (λ (x : Sent). Q (video_stream old.settings ticks old.history) (video_stream old.settings ticks (sent_entry x ∷ old.history))) sent_is
      (subst (λ (s : StreamSettings). Q (video_stream s ticks old.history) (video_stream s ticks (sent_entry sent ∷ old.history)))
      (ap (λ (v : Hosting). v.settings) ok) q))

  audio_as : (ticks : List Tick) (s : StreamSettings) (now : List Entry) (Q : List (List ℕ) → List (List ℕ) → Type 0) → s ≡ old.settings
      → now ≡ next → Q (audio_stream s ticks old.history) (audio_stream s ticks next)
      → Q (audio_stream old.settings ticks old.history) (audio_stream old.settings ticks now)
  audio_as ticks s now Q same e q =
      subst (λ (l : List Entry). Q (audio_stream old.settings ticks old.history) (audio_stream old.settings ticks l)) (sym e)
      (subst (λ (x : StreamSettings). Q (audio_stream x ticks old.history) (audio_stream x ticks next)) same q)

  pub video-gains : (ticks : List Tick) (now : List Entry) (v w : LinkTold) (to : Addr) → now ≡ next
      → Gains v w to (video_stream s1.settings ticks old.history) (video_stream s1.settings ticks (sent_entry sent ∷ old.history))
      → Gains v w to (video_stream old.settings ticks old.history) (video_stream old.settings ticks now)
  video-gains ticks now v w to e q = video_as ticks now (Gains v w to) e q

  pub video-front : (ticks : List Tick) (now : List Entry) (v w : LinkTold) (to : Addr) → now ≡ next
      → GainsFront v w to (video_stream s1.settings ticks old.history) (video_stream s1.settings ticks (sent_entry sent ∷ old.history))
      → GainsFront v w to (video_stream old.settings ticks old.history) (video_stream old.settings ticks now)
  video-front ticks now v w to e q = video_as ticks now (GainsFront v w to) e q

  pub audio-gains : (ticks : List Tick) (s : StreamSettings) (now : List Entry) (a b : LinkTold) (to : Addr) → s ≡ old.settings → now ≡ next
      → Gains a b to (audio_stream s ticks old.history) (audio_stream s ticks next)
      → Gains a b to (audio_stream old.settings ticks old.history) (audio_stream old.settings ticks now)
  audio-gains ticks s now a b to same e q = audio_as ticks s now (Gains a b to) same e q

  pub audio-front : (ticks : List Tick) (s : StreamSettings) (now : List Entry) (a b : LinkTold) (to : Addr) → s ≡ old.settings → now ≡ next
      → GainsFront a b to (audio_stream s ticks old.history) (audio_stream s ticks next)
      → GainsFront a b to (audio_stream old.settings ticks old.history) (audio_stream old.settings ticks now)
  audio-front ticks s now a b to same e q = audio_as ticks s now (GainsFront a b to) same e q

  pub stands-again : (ticks : List Tick) (s2 s3 : Hosting) → s3.settings ≡ old.settings → s3.history ≡ next → s3.count ≡ s2.count
      → length (video_stream s1.settings ticks (sent_entry sent ∷ old.history)) % 2 ^ 32 ≡ s2.count → HasPushed s3.audio (audio_units ticks next)
      → StandsOver s3 ticks
  stands-again ticks s2 s3 settings history count video pushed = record {
    video = ap (λ (s : StreamSettings). length (video_stream s ticks s3.history) % 2 ^ 32) settings
        ∙ video_as ticks s3.history (λ before now. length now % 2 ^ 32 ≡ s2.count) history video
        ∙ sym count;
    audio = subst (λ (l : List Entry). HasPushed s3.audio (audio_units ticks l)) (sym history) pushed;
  }

-- ---- what the audio needs, over ticks that are shared

pub is-turn : {A : Type 0} (ticks : List Tick) (h : List Entry) (n : Tick) (ts : List A) (val : A → Tick) → AreOfCapture ticks n (map val ts)
    → map (λ t. (val t).number) ts ≡ numbers_between h n.number → last_tick h < n.number → IsTurn ticks h n (map val ts)
is-turn ticks h n ts val of numbers above = record {
  of_capture = of;
  numbers = map-map (λ (t : Tick). t.number) val ts ∙ numbers;
  above = above;
}

pub sizes-are : {A : Type 0} (s r : StreamSettings) (ts : List A) (val : A → Tick) → r ≡ s → All (λ t. IsSendable s (val t)) ts
    → All (λ t. All (λ unit. length unit ≡ r.audio) (val t).audio) ts
sizes-are {A} s r ts val same all =
    subst (λ (x : StreamSettings). All (λ (t : A). All (λ unit. length unit ≡ x.audio) (val t).audio) ts) (sym same) (λ k d h. (all k d h).sizes)

pub few-are : {A : Type 0} (s : StreamSettings) (h : List Entry) (n : Tick) (sent : Sent) (ts : List A) (val : A → Tick) (pushed before : ℕ) (now : List Entry)
    → IsSendable s n → All (λ t. IsSendable s (val t)) ts → map (λ t. (val t).number) ts ≡ numbers_between h n.number → last_tick h < n.number
    → before ≤ 16 * last_tick h → pushed ≡ before → now ≡ sent_entry (next_sent h n) ∷ h
    → pushed + (length (flat_map (λ t. (val t).audio) ts) + length n.audio) ≤ 16 * last_tick now
few-are s h n sent ts val pushed before now is all numbers above few same e =
    let last : last_tick now ≡ n.number = ap last_tick e ∙ last-sent h (next_sent h n) in
    omega (arith, turn-few ts val s h n before is all numbers above few, last, same)
