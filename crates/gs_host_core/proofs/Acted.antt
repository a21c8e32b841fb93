-- What stays as it was behind an act.
use Rattle.std.specs.Prelude.{unsigned_abs}
use Rattle.std.proofs.Common.{◌≡◌, ◌%◌, ◌^◌, arith, ℕ, ℤ, true, false, List, ◌∷◌, length, Result, Ok, Err, refl, sym, ap, subst, ◌∙◌, inl, inr}
use Rattle.std.proofs.lemmas.Bool.{cases_Bool, cond-true, cond-false}
use Rattle.gs_rtp.specs.Stream.{StreamSettings}
use Rattle.gs_tape.specs.Tick.{Tick}
use Rattle.gs_refs.specs.declared.entry.Entry.{Entry}
use Rattle.gs_refs.specs.declared.entry.Entry.TheVariants as entry
use Rattle.gs_refs.specs.History.{frames, last_tick, has_ended}
use Rattle.gs_refs.specs.declared.error.EndedError.{EndedError}
use Rattle.gs_refs.specs.declared.error.EndedError.TheVariants as ended_error
use Rattle.gs_refs.specs.Answers.{named_range, is_range_sent, ask_answer, invalidate_answer}
use Rattle.gs_audio.specs.Sending.{Sending, HasPushed}
use Rattle.gs_stream.specs.Video.{video_stream}
use Rattle.gs_stream.specs.Audio.{audio_units}
use Rattle.gs_host_core.specs.declared.act.Act.{Act}
use Rattle.gs_host_core.specs.declared.act.Act.TheVariants as act
use Rattle.gs_host_core.specs.Acts.{with_act, history_behind}
use Rattle.gs_host_core.specs.Hosting.{Hosting, IsHostingSound, StandsOver}

-- what no entry but Sent changes stays as it was
module _ {X : Type 0} (F : List Entry → X) (invalid : (first last : ℕ) (h : List Entry) → F (entry.Invalid first last ∷ h) ≡ F h)
    (asked : (h : List Entry) → F (entry.IdrAsked ∷ h) ≡ F h) (ended : (first last : ℤ) (h : List Entry) → F (entry.Ended first last ∷ h) ≡ F h) where
  named : (h : List Entry) (first last : ℤ) → F (named_range (frames h) first last ∷ h) ≡ F h
  named h first last =
      let b = is_range_sent (frames h) first last in
      let yes_entry = entry.Invalid (unsigned_abs first) (unsigned_abs last) in
      let no_entry = entry.Ended first last in
      elim (cases_Bool b) [
        | inl is ↦ ap (λ (e : Entry). F (e ∷ h)) (cond-true b yes_entry no_entry is) ∙ invalid (unsigned_abs first) (unsigned_abs last) h
        | inr other ↦ ap (λ (e : Entry). F (e ∷ h)) (cond-false b yes_entry no_entry other) ∙ ended first last h
      ]

  quiet_with : (h : List Entry) (a : Act) → F (with_act h a) ≡ F h
  quiet_with h (act.Invalidate first last) = named h first last
  quiet_with h act.AskIdr = asked h
  quiet_with h (act.Input event) = refl
  quiet_with h act.Nothing = refl

  pub quiet : (h : List Entry) (a : Act) → F (history_behind h a) ≡ F h
  quiet h a = elim (cases_Bool (has_ended h)) [
    | inl over ↦ ap F (cond-true (has_ended h) h (with_act h a) over)
    | inr goes_on ↦ ap F (cond-false (has_ended h) h (with_act h a) goes_on) ∙ quiet_with h a
  ]

pub frames-quiet : (h : List Entry) (a : Act) → frames (history_behind h a) ≡ frames h
frames-quiet h a = quiet frames (λ first last l. refl) (λ l. refl) (λ first last l. refl) h a

pub last-quiet : (h : List Entry) (a : Act) → last_tick (history_behind h a) ≡ last_tick h
last-quiet h a = quiet last_tick (λ first last l. refl) (λ l. refl) (λ first last l. refl) h a

pub video-quiet : (s : StreamSettings) (ticks : List Tick) (h : List Entry) (a : Act) → video_stream s ticks (history_behind h a) ≡ video_stream s ticks h
unfolding video_stream
video-quiet s ticks h a = quiet (video_stream s ticks) (λ first last l. refl) (λ l. refl) (λ first last l. refl) h a

units-quiet : (ticks : List Tick) (h : List Entry) (a : Act) → audio_units ticks (history_behind h a) ≡ audio_units ticks h
unfolding audio_units
units-quiet ticks h a = quiet (audio_units ticks) (λ first last l. refl) (λ l. refl) (λ first last l. refl) h a

pub stands-quiet : (old new : Hosting) (a : Act) (ticks : List Tick) → new.settings ≡ old.settings → new.count ≡ old.count → new.audio ≡ old.audio
    → new.history ≡ history_behind old.history a → StandsOver old ticks → StandsOver new ticks
stands-quiet old new a ticks settings count audio history stands = record {
  video =
      ap (λ (s : StreamSettings). length (video_stream s ticks new.history) % 2 ^ 32) settings
      ∙ ap (λ (h : List Entry). length (video_stream old.settings ticks h) % 2 ^ 32) history
      ∙ ap (λ (l : List (List ℕ)). length l % 2 ^ 32) (video-quiet old.settings ticks old.history a)
      ∙ stands.video
      ∙ sym count;
  audio = subst (λ (x : Sending). HasPushed x (audio_units ticks new.history)) (sym audio)
      (subst (HasPushed old.audio) (sym (ap (audio_units ticks) history ∙ units-quiet ticks old.history a)) stands.audio);
}

pub sound-quiet : (s : StreamSettings) (h now : List Entry) (x : Sending) (a : Act) → now ≡ history_behind h a → IsHostingSound s h x → IsHostingSound s now x
sound-quiet s h now x a e is =
    let n : frames now ≡ frames h = ap frames e ∙ frames-quiet h a in
    let l : last_tick now ≡ last_tick h = ap last_tick e ∙ last-quiet h a in
    record {
      packet = is.packet;
      same_settings = is.same_settings;
      few_frames = omega (arith, is.few_frames, n, l);
      few_ticks = omega (arith, is.few_ticks, l);
      few_units = omega (arith, is.few_units, l);
    }

-- the history behind a range, by whether the session has ended
pub range-behind : (h now : List Entry) (first last : ℤ) {p q : ℤ} → p ≡ first → q ≡ last → (has_ended h ≡ true → now ≡ h)
    → (has_ended h ≡ false → now ≡ named_range (frames h) p q ∷ h) → now ≡ history_behind h (act.Invalidate first last)
range-behind h now first last {p} {q} e f over goes_on = elim (cases_Bool (has_ended h)) [
  | inl is ↦ over is ∙ sym (cond-true (has_ended h) h (with_act h (act.Invalidate first last)) is)
  | inr is ↦
      goes_on is
      ∙ ap (λ (z : ℤ). named_range (frames h) z q ∷ h) e
      ∙ ap (λ (z : ℤ). named_range (frames h) first z ∷ h) f
      ∙ sym (cond-false (has_ended h) h (with_act h (act.Invalidate first last)) is)
]

-- what is answered to the same range
pub same-range : (h : List Entry) (first last : ℤ) {p q : ℤ} → p ≡ first → q ≡ last → invalidate_answer h p q ≡ invalidate_answer h first last
same-range h first last {p} {q} e f = ap (λ (z : ℤ). invalidate_answer h z q) e ∙ ap (λ (z : ℤ). invalidate_answer h first z) f

-- and the same act
pub same-act : (first last : ℤ) {p q : ℤ} → p ≡ first → q ≡ last → act.Invalidate p q ≡ act.Invalidate first last
same-act first last {p} {q} e f = ap (λ (z : ℤ). act.Invalidate z q) e ∙ ap (λ (z : ℤ). act.Invalidate first z) f

pub asked-behind : (h now : List Entry) → has_ended h ≡ false → now ≡ entry.IdrAsked ∷ h → now ≡ history_behind h act.AskIdr
asked-behind h now e is = is ∙ sym (cond-false (has_ended h) h (entry.IdrAsked ∷ h) e)

pub ended-behind : (h now : List Entry) → has_ended h ≡ true → now ≡ h → now ≡ history_behind h act.AskIdr
ended-behind h now e is = is ∙ sym (cond-true (has_ended h) h (entry.IdrAsked ∷ h) e)

-- an IDR unit that was refused, or asked for
pub ask-refused : (h : List Entry) (e : EndedError) → Err e ≡ ask_answer h → has_ended h ≡ true
ask-refused h e answer = elim (cases_Bool (has_ended h)) [
  | inl over ↦ over
  | inr goes_on ↦
      let none : ◌≡◌ {A = Result (Unit {0}) EndedError} (Err e) (Ok tt) =
      answer ∙ cond-false (has_ended h) (Err ended_error.Ended) (Ok tt) goes_on in
      absurd (cc none)
]

pub ask-done : (h : List Entry) → Ok tt ≡ ask_answer h → has_ended h ≡ false
ask-done h answer = elim (cases_Bool (has_ended h)) [
  | inl over ↦
      let none : ◌≡◌ {A = Result (Unit {0}) EndedError} (Ok tt) (Err ended_error.Ended) =
      answer ∙ cond-true (has_ended h) (Err ended_error.Ended) (Ok tt) over in
      absurd (cc none)
  | inr goes_on ↦ goes_on
]
