-- Each frame of a host's history is one that a host may send: its number, its kind and its unit keep the limits.
use Rattle.std.proofs.Common.{◌≡◌, ◌≤◌, ◌+◌, ℕ, zero, suc, Bool, List, [], ◌∷◌, length, Option, Some, None, sym, subst, arith, inl, inr}
use Rattle.std.specs.Prelude.{◌==◌}
use Rattle.std.specs.List.{All, find}
use Rattle.std.proofs.lemmas.Bool.{cond-true, cond-false, cases_Bool, cases_eq}
use Rattle.std.proofs.lemmas.List.Elements.{All-nil, All-cons, All-head, All-tail}
use Rattle.std.proofs.lemmas.Option.{get_or_from_slice_get, slice_get_within}
use Rattle.gs_gf256.specs.Field.{IsByte}
use Rattle.gs_rtp.specs.Stream.{StreamSettings}
use Rattle.gs_tape.specs.Tick.{Tick, Delta, tick_numbered}
use Rattle.gs_tape.specs.Limits.{HoldsBytes, IsWithinLimits, AreDeltasBetween, AreWithinLimits as AreTicksWithinLimits}
use Rattle.gs_tape.proofs.Ticks.{tick_of_number}
use Rattle.gs_refs.specs.declared.entry.Entry.{Entry}
use Rattle.gs_refs.specs.declared.entry.Entry.TheVariants.{Sent, Invalid, IdrAsked, Ended}
use Rattle.gs_refs.specs.History.{frames, SentFrame, kind_or_zero, tick_of, frame_kind}
use Rattle.gs_refs.specs.Choice.{Choice, choice, IsLegal}
use Rattle.gs_refs.proofs.Choices.{choice_is_sound}
use Rattle.gs_refs.proofs.Lookups.{sent_behind, sent_frame-sent, sent_frame-before}
use Rattle.gs_refs.proofs.Legal.{ticks_rise, frames_are_of_ticks}
use Rattle.gs_frames.specs.ImageLaws.{IsWrittenKind}
use Rattle.gs_frames.specs.FrameLaws.{IsSent}
use Rattle.gs_stream.proofs.FrameStreams.{sent_out}
use Rattle.gs_stream.specs.Video.{unit_or_none, sent_unit, unit_or_empty, unit_of}
use Rattle.gs_stream.specs.HandedLaws.{IsHostHistory}

-- ---- the number

-- the number of a tick
number_least : (ticks : List Tick) (k : ℕ) (t : Tick) → tick_numbered ticks k ≡ Some t → 1 ≤ k
number_least ticks zero t there = absurd (cc there)
number_least ticks (suc k) t there = omega arith

-- frame v is from a tick of this number at least
ticks_from : (ticks : List Tick) (h : List Entry) (v : ℕ) → IsLegal ticks h → 1 ≤ v → v ≤ frames h → v ≤ tick_of h v
ticks_from ticks h zero legal least most = omega arith
ticks_from ticks h (suc zero) legal least most =
    let there = frames_are_of_ticks ticks h 1 legal least most in number_least ticks (tick_of h 1) there.0 there.1
ticks_from ticks h (suc (suc v)) legal least most =
    let before = ticks_from ticks h (suc v) legal (omega arith) (omega arith) in
    let rise = ticks_rise ticks h (suc v) (suc (suc v)) legal (omega arith) (omega arith) most in
    omega arith

-- a frame's number is in the grammar
frames_within : (audio : ℕ) (ticks : List Tick) (h : List Entry) (v : ℕ) → AreTicksWithinLimits audio 1 0 ticks → IsLegal ticks h
    → 1 ≤ v → v ≤ frames h → v ≤ 1048576
frames_within audio ticks h v within legal least most =
    let there = frames_are_of_ticks ticks h v legal least most in
    let from = ticks_from ticks h v legal least most in
    let number = (tick_of_number audio (tick_of h v) ticks there.0 within there.1).within.number_most in
    omega arith

-- ---- the unit

-- a list of bytes in the limit of a unit
abbrev IsUnit : List ℕ → Type 0
IsUnit unit = (length unit ≤ 4000000) × All IsByte unit

-- deltas that keep the limits, and hold bytes
units_between : (above below : ℕ) (ds : List Delta) → AreDeltasBetween above below ds → All (λ d. All IsByte d.unit) ds → All (λ d. IsUnit d.unit) ds
units_between above below [] between bytes = All-nil (λ d. IsUnit d.unit)
units_between above below (d ∷ ds) between bytes =
    All-cons (λ d. IsUnit d.unit) d ds (between.2, All-head (λ d. All IsByte d.unit) d ds bytes)
    (units_between d.named below ds between.3 (All-tail (λ d. All IsByte d.unit) d ds bytes))

-- the unit of the first that passes a test
unit_found : (test : Delta → Bool) (ds : List Delta) → All (λ d. IsUnit d.unit) ds → IsUnit (unit_or_none (find test ds))
unit_found test [] are = (omega arith, All-nil IsByte)
unit_found test (d ∷ ds) are =
    let Found : Option Delta → Type 0 = λ o. IsUnit (unit_or_none o) in
    elim (cases_Bool (test d)) [
      | inl passes ↦ subst Found (sym (cond-true (test d) (Some d) (find test ds) passes)) (All-head (λ d. IsUnit d.unit) d ds are)
      | inr fails ↦ subst Found (sym (cond-false (test d) (Some d) (find test ds) fails)) (unit_found test ds (All-tail (λ d. IsUnit d.unit) d ds are))
    ]

-- what is sent of a tick within the limits
unit_sent : (audio number time : ℕ) (against : Option ℕ) (t : Tick) → IsWithinLimits audio number time t → HoldsBytes t
    → IsUnit (sent_unit (Some t) against)
unit_sent audio number time None t within bytes = (within.idr_most, bytes.idr)
unit_sent audio number time (Some named) t within bytes =
    unit_found (λ d. d.named == named) t.deltas (units_between 0 number t.deltas within.deltas_between bytes.deltas)

-- ---- the frame

-- a kind that is written, and a unit
abbrev IsFrame : ℕ → List ℕ → Type 0
IsFrame kind unit = IsWrittenKind kind × IsUnit unit

-- the tick of a number holds bytes
holds_bytes : (ticks : List Tick) (k : ℕ) (t : Tick) → All HoldsBytes ticks → tick_numbered ticks k ≡ Some t → HoldsBytes t
holds_bytes ticks zero t bytes there = absurd (cc there)
holds_bytes ticks (suc k) t bytes there =
    let Holds : Tick → Type 0 = HoldsBytes in
    subst Holds (get_or_from_slice_get ticks k t t there) (bytes k t (slice_get_within ticks k t there))

-- what is sent of the tick that a legal history chooses
chosen_frame : (audio : ℕ) (ticks : List Tick) (h : List Entry) (tick kind reference : ℕ) (against : Option ℕ) → AreTicksWithinLimits audio 1 0 ticks
    → All HoldsBytes ticks → (t : Tick) → tick_numbered ticks tick ≡ Some t → choice h t ≡ record { kind = kind; reference = reference }
    → IsFrame kind (sent_unit (tick_numbered ticks tick) against)
chosen_frame audio ticks h tick kind reference against within bytes t there chosen =
    let is = tick_of_number audio tick ticks t within there in
    let Known : Choice → Type 0 = λ c. IsWrittenKind c.kind in
    let Unit' : Option Tick → Type 0 = λ o. IsUnit (sent_unit o against) in (
      subst Known chosen (choice_is_sound h t).known,
      subst Unit' (sym there) (unit_sent audio tick is.before against t is.within (holds_bytes ticks tick t bytes there)),
    )

-- each frame
frames_are : (audio : ℕ) (ticks : List Tick) (h : List Entry) (f : ℕ) → AreTicksWithinLimits audio 1 0 ticks → All HoldsBytes ticks → IsLegal ticks h
    → 1 ≤ f → f ≤ frames h → IsFrame (frame_kind h f) (unit_of ticks h f)
frames_are audio ticks [] f within bytes legal least most = absurd (omega arith)
frames_are audio ticks (Sent tick kind reference ∷ h) f within bytes legal least most =
    let Is : Option SentFrame → Type 0 = λ o. IsFrame (kind_or_zero o) (unit_or_empty ticks o) in
    elim (cases_eq f (frames h + 1)) [
      | inl this ↦
          subst Is (sym (sent_frame-sent h tick kind reference f this))
          (chosen_frame audio ticks h tick kind reference (sent_behind h tick kind reference).against within bytes legal.2.1 legal.2.2 legal.2.3)
      | inr other ↦
          subst Is (sym (sent_frame-before h tick kind reference f other)) (frames_are audio ticks h f within bytes legal.0 least (omega arith))
    ]
frames_are audio ticks (Invalid first last ∷ h) f within bytes legal least most = frames_are audio ticks h f within bytes legal.0 least most
frames_are audio ticks (IdrAsked ∷ h) f within bytes legal least most = frames_are audio ticks h f within bytes legal.0 least most
frames_are audio ticks (Ended first last ∷ h) f within bytes legal least most = frames_are audio ticks h f within bytes legal.0 least most

-- each frame of a host's history is one that a host sends
pub frame_is_sent : (settings : StreamSettings) (ticks : List Tick) (h : List Entry) (f : ℕ) → IsHostHistory settings ticks h → 1 ≤ f → f ≤ frames h
    → IsSent settings (sent_out settings ticks h f)
frame_is_sent settings ticks h f host least most =
    let frame = frames_are settings.audio ticks h f host.capture host.bytes host.legal least most in
    record {
      limits = host.limits;
      frame_least = least;
      frame_greatest = frames_within settings.audio ticks h f host.capture host.legal least most;
      written = frame.0;
      unit_greatest = frame.1.0;
      unit_bytes = frame.1.1;
    }
