-- The audio units that a history puts are units that a session may have.
use Rattle.std.proofs.Common.{◌≡◌, ◌<◌, ◌≤◌, ◌+◌, ◌-◌, ◌*◌, ℕ, List, [], ◌∷◌, length, take, drop, refl, arith}
use Rattle.std.specs.Prelude.{◌==◌, if◌then◌else◌}
use Rattle.std.specs.List.{All, flat_map}
use Rattle.std.proofs.lemmas.Bool.{cond_both}
use Rattle.std.proofs.lemmas.List.{length-append, length-drop, length-take}
use Rattle.std.proofs.lemmas.List.Elements.{All-nil, All-cons, All-head, All-tail, All-append, All-take, All-drop, All-weaker}
use Rattle.gs_gf256.specs.Field.{IsByte}
use Rattle.gs_rtp.specs.Stream.{StreamSettings}
use Rattle.gs_tape.specs.Tick.{Tick}
use Rattle.gs_tape.specs.Limits.{HoldsBytes, AreWithinLimits}
use Rattle.gs_refs.specs.declared.entry.Entry.{Entry}
use Rattle.gs_refs.specs.declared.entry.Entry.TheVariants.{Sent, Invalid, IdrAsked, Ended}
use Rattle.gs_refs.specs.History.{frames, last_tick}
use Rattle.gs_refs.specs.Choice.{IsLegal}
use Rattle.gs_refs.proofs.Lookups.{tick_of-sent}
use Rattle.gs_audio.specs.PlayedLaws.{AreSessionUnits, AreOfUnits}
use Rattle.gs_stream.specs.Audio.{audio_between, audio_units, audio_stream}
use Rattle.gs_stream.specs.HandedLaws.{IsHostHistory}
use Rattle.gs_run.specs.RunLaws.{AreOfSound}
use Rattle.gs_run.proofs.Asking.{frames_and_ticks}

-- ---- the units of ticks

-- what all units of each tick have
All-flat_map : {X Y : Type 0} (P : Y → Type 0) (f : X → List Y) (xs : List X) → All (λ x. All P (f x)) xs → All P (flat_map f xs)
All-flat_map P f [] all = All-nil P
All-flat_map P f (x ∷ xs) all =
    All-append P (f x) (flat_map f xs) (All-head (λ y. All P (f y)) x xs all) (All-flat_map P f xs (All-tail (λ y. All P (f y)) x xs all))

abbrev OfEachTick : (List ℕ → Type 0) → List Tick → Type 0
OfEachTick P ticks = All (λ t. All P t.audio) ticks

-- the units have it that a history puts
units_have : (P : List ℕ → Type 0) (ticks : List Tick) (h : List Entry) → OfEachTick P ticks → All P (audio_units ticks h)
unfolding audio_units
units_have P ticks [] all = All-nil P
units_have P ticks (Sent tick kind reference ∷ h) all =
    let after = if frames h == 0 then tick - 1 else last_tick h in
    All-append P (audio_units ticks h) (audio_between ticks after tick) (units_have P ticks h all)
    (All-flat_map P (λ t. t.audio) (drop after (take tick ticks))
    (All-drop (λ t. All P t.audio) after (take tick ticks) (All-take (λ t. All P t.audio) tick ticks all)))
units_have P ticks (Invalid first last ∷ h) all = units_have P ticks h all
units_have P ticks (IdrAsked ∷ h) all = units_have P ticks h all
units_have P ticks (Ended first last ∷ h) all = units_have P ticks h all

-- each is as long as the file says
ticks_sized : (audio number time : ℕ) (ticks : List Tick) → AreWithinLimits audio number time ticks → OfEachTick (λ unit. length unit ≡ audio) ticks
ticks_sized audio number time [] within = All-nil (λ t. All (λ unit. length unit ≡ audio) t.audio)
ticks_sized audio number time (t ∷ ticks) within =
    All-cons (λ t'. All (λ unit. length unit ≡ audio) t'.audio) t ticks within.0.audio_whole (ticks_sized audio (number + 1) t.time ticks within.1)

-- ---- how many they are

ticks_few : (audio number time : ℕ) (ticks : List Tick) → AreWithinLimits audio number time ticks → All (λ t. length t.audio ≤ 16) ticks
ticks_few audio number time [] within = All-nil (λ t. length t.audio ≤ 16)
ticks_few audio number time (t ∷ ticks) within =
    All-cons (λ t'. length t'.audio ≤ 16) t ticks within.0.audio_most (ticks_few audio (number + 1) t.time ticks within.1)

few_of : (ticks : List Tick) → All (λ t. length t.audio ≤ 16) ticks → length (flat_map (λ t. t.audio) ticks) ≤ length ticks * 16
few_of [] few = omega arith
few_of (t ∷ ticks) few =
    let first : length t.audio ≤ 16 = All-head (λ t'. length t'.audio ≤ 16) t ticks few in
    let rest = few_of ticks (All-tail (λ t'. length t'.audio ≤ 16) t ticks few) in
    omega (arith, first, rest, length-append t.audio (flat_map (λ t'. t'.audio) ticks))

between_few : (ticks : List Tick) (after last : ℕ) → All (λ t. length t.audio ≤ 16) ticks → length (audio_between ticks after last) ≤ (last - after) * 16
between_few ticks after last few =
    let part = drop after (take last ticks) in
    let most = few_of part (All-drop (λ t. length t.audio ≤ 16) after (take last ticks) (All-take (λ t. length t.audio ≤ 16) last ticks few)) in
    omega (arith, most, length-drop after (take last ticks), length-take last ticks)

-- at most sixteen a tick
units_few : (audio : ℕ) (ticks : List Tick) (h : List Entry) → AreWithinLimits audio 1 0 ticks → IsLegal ticks h
    → length (audio_units ticks h) ≤ last_tick h * 16
unfolding audio_units
units_few audio ticks [] within legal = omega arith
units_few audio ticks (Sent tick kind reference ∷ h) within legal =
    let before = units_few audio ticks h within legal.0 in
    let last : last_tick (Sent tick kind reference ∷ h) ≡ tick = tick_of-sent h tick kind reference (frames h + 1) refl in
    let newer : last_tick h < tick = legal.2.0 in
    let after = if frames h == 0 then tick - 1 else last_tick h in
    let behind : last_tick h ≤ after =
    cond_both (frames h == 0) (tick - 1) (last_tick h) (λ n. last_tick h ≤ n) (λ first. omega (arith, newer)) (λ other. omega arith) in
    let more = between_few ticks after tick (ticks_few audio 1 0 ticks within) in
    omega (arith, before, last, newer, behind, more, length-append (audio_units ticks h) (audio_between ticks after tick))
units_few audio ticks (Invalid first last ∷ h) within legal = units_few audio ticks h within legal.0
units_few audio ticks (IdrAsked ∷ h) within legal = units_few audio ticks h within legal.0
units_few audio ticks (Ended first last ∷ h) within legal = units_few audio ticks h within legal.0

-- ---- all of it

pub session_units : (settings : StreamSettings) (ticks : List Tick) (h : List Entry) → IsHostHistory settings ticks h
    → AreSessionUnits settings (audio_units ticks h)
session_units settings ticks h is =
    let few = units_few settings.audio ticks h is.capture is.legal in
    let last = (frames_and_ticks settings.audio ticks h is.capture is.legal).1 in
    record {
      sizes = units_have (λ unit. length unit ≡ settings.audio) ticks h (ticks_sized settings.audio 1 0 ticks is.capture);
      bytes = units_have (All IsByte) ticks h (All-weaker HoldsBytes (λ t. All (All IsByte) t.audio) (λ t holds. holds.audio) ticks is.bytes);
      few = omega (arith, few, last);
    }

-- what came of a history's audio is of these units' datagrams
pub sound_is_of_units : (settings : StreamSettings) (ticks : List Tick) (h : List Entry) (sound : List (List ℕ)) → AreOfSound settings ticks h sound
    → AreOfUnits settings (audio_units ticks h) sound
unfolding audio_stream
sound_is_of_units settings ticks h sound sent = sent
