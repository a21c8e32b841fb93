-- What is generated has at most four audio units a tick, so that the audio of all ticks has few datagrams.
use Rattle.std.proofs.Common.{◌≡◌, ◌<◌, ◌≤◌, ◌+◌, ◌-◌, ◌*◌, ◌/◌, ◌%◌, ℕ, zero, suc, Bool, true, false, cond, List, [], ◌∷◌, length, take, drop, refl, ap, arith}
use Rattle.std.specs.Prelude.{◌==◌, if◌then◌else◌}
use Rattle.std.specs.List.{All, flat_map, range_with_len}
use Rattle.std.proofs.lemmas.Bool.{cond_both}
use Rattle.std.proofs.lemmas.List.{length-append, length-drop, length-take}
use Rattle.std.proofs.lemmas.List.Elements.{All-nil, All-cons, All-head, All-tail, All-take, All-drop}
use Rattle.gs_rtp.specs.Stream.{StreamSettings}
use Rattle.gs_rtp.specs.Audio.{block_units}
use Rattle.gs_rtp.specs.AudioDatagrams.{parity_datagram, unit_datagram, unit_datagrams}
use Rattle.gs_tape.specs.Tick.{Tick}
use Rattle.gs_tape.specs.Generated.{Drawn, drawn_unit, with_sound, three_sounds, sounds, deltas, unit_from, tick, ticks_from, generated}
use Rattle.gs_refs.specs.declared.entry.Entry.{Entry}
use Rattle.gs_refs.specs.declared.entry.Entry.TheVariants.{Sent, Invalid, IdrAsked, Ended}
use Rattle.gs_refs.specs.History.{frames, last_tick}
use Rattle.gs_refs.specs.Choice.{IsLegal}
use Rattle.gs_refs.proofs.Lookups.{tick_of-sent}
use Rattle.gs_stream.specs.Audio.{audio_between, audio_units, audio_stream}

-- ---- the ticks

abbrev pub IsQuiet : Tick → Type 0
IsQuiet t = length t.audio ≤ 4

sound_more : (x : Drawn (List (List ℕ))) → length (with_sound x).value ≡ length x.value + 1
unfolding with_sound
sound_more x = length-append x.value ((drawn_unit 240 x.state).value ∷ [])

three_are : (s : ℕ) → length (three_sounds s).value ≡ 3
three_are s =
    let none : Drawn (List (List ℕ)) = record { value = []; state = s } in
    let one = sound_more none in
    let two = sound_more (with_sound none) in
    let three = sound_more (with_sound (with_sound none)) in
    omega (arith, one, two, three)

sounds_few : (t s : ℕ) → length (sounds t s).value ≤ 4
sounds_few t s = by (t % 3 == 0) where
  by : (b : Bool) → length (cond {A = Drawn (List (List ℕ))} b (with_sound (three_sounds s)) (three_sounds s)).value ≤ 4
  by true = let more = sound_more (three_sounds s) in let three = three_are s in omega (arith, more, three)
  by false = let three = three_are s in omega (arith, three)

tick_is_quiet : (t s : ℕ) → IsQuiet (tick t s).value
unfolding tick
tick_is_quiet t s = sounds_few t (deltas t (unit_from 100000 20000 s).state).state

ticks_are_quiet : (n t s : ℕ) → All IsQuiet (ticks_from n t s)
unfolding ticks_from
ticks_are_quiet zero t s = All-nil IsQuiet
ticks_are_quiet (suc n) t s =
    All-cons IsQuiet (tick t s).value (ticks_from n (t + 1) (tick t s).state) (tick_is_quiet t s) (ticks_are_quiet n (t + 1) (tick t s).state)

pub generated_is_quiet : (number ticks : ℕ) → All IsQuiet (generated number ticks)
generated_is_quiet number ticks = ticks_are_quiet ticks 1 number

ticks_counted : (n t s : ℕ) → length (ticks_from n t s) ≡ n
unfolding ticks_from
ticks_counted zero t s = refl
ticks_counted (suc n) t s = ap (λ (k : ℕ). suc k) (ticks_counted n (t + 1) (tick t s).state)

pub generated_counted : (number ticks : ℕ) → length (generated number ticks) ≡ ticks
generated_counted number ticks = ticks_counted ticks 1 number

-- ---- the units of a history

units_of_ticks : (ticks : List Tick) → All IsQuiet ticks → length (flat_map (λ t. t.audio) ticks) ≤ length ticks * 4
units_of_ticks [] few = omega arith
units_of_ticks (t ∷ ticks) few =
    let first : length t.audio ≤ 4 = All-head IsQuiet t ticks few in
    let rest = units_of_ticks ticks (All-tail IsQuiet t ticks few) in
    omega (arith, first, rest, length-append t.audio (flat_map (λ t'. t'.audio) ticks))

units_between : (ticks : List Tick) (after last : ℕ) → All IsQuiet ticks → length (audio_between ticks after last) ≤ (last - after) * 4
units_between ticks after last few =
    let part = drop after (take last ticks) in
    let most = units_of_ticks part (All-drop IsQuiet after (take last ticks) (All-take IsQuiet last ticks few)) in
    omega (arith, most, length-drop after (take last ticks), length-take last ticks)

units_few : (ticks : List Tick) (h : List Entry) → All IsQuiet ticks → IsLegal ticks h → length (audio_units ticks h) ≤ last_tick h * 4
unfolding audio_units
units_few ticks [] few legal = omega arith
units_few ticks (Sent tick kind reference ∷ h) few legal =
    let before = units_few ticks h few legal.0 in
    let last : last_tick (Sent tick kind reference ∷ h) ≡ tick = tick_of-sent h tick kind reference (frames h + 1) refl in
    let newer : last_tick h < tick = legal.2.0 in
    let after = if frames h == 0 then tick - 1 else last_tick h in
    let behind : last_tick h ≤ after =
    cond_both (frames h == 0) (tick - 1) (last_tick h) (λ n. last_tick h ≤ n) (λ first. omega (arith, newer)) (λ other. omega arith) in
    let more = units_between ticks after tick few in
    omega (arith, before, last, newer, behind, more, length-append (audio_units ticks h) (audio_between ticks after tick))
units_few ticks (Invalid first last ∷ h) few legal = units_few ticks h few legal.0
units_few ticks (IdrAsked ∷ h) few legal = units_few ticks h few legal.0
units_few ticks (Ended first last ∷ h) few legal = units_few ticks h few legal.0

-- ---- their datagrams

unit_few : (settings : StreamSettings) (units : List (List ℕ)) (n : ℕ) → length (unit_datagrams settings units n) ≤ 3
unit_few settings units n = by (n % block_units == block_units - 1) where
  by : (b : Bool) → length (unit_datagram settings units n
      ∷ cond b (parity_datagram settings units (n / block_units) 0 ∷ parity_datagram settings units (n / block_units) 1 ∷ []) []) ≤ 3
  by true = omega arith
  by false = omega arith

from_few : (settings : StreamSettings) (units : List (List ℕ)) (a n : ℕ)
    → length (flat_map (unit_datagrams settings units) (range_with_len a n)) ≤ n * 3
from_few settings units a zero = omega arith
from_few settings units a (suc n) =
    let first = unit_few settings units a in
    let rest = from_few settings units (a + 1) n in
    omega (arith, first, rest, length-append (unit_datagrams settings units a) (flat_map (unit_datagrams settings units) (range_with_len (a + 1) n)))

-- at most twelve for each tick up to the last that was sent
pub few_sounds : (settings : StreamSettings) (ticks : List Tick) (h : List Entry) → All IsQuiet ticks → IsLegal ticks h
    → length (audio_stream settings ticks h) ≤ last_tick h * 12
unfolding audio_stream
few_sounds settings ticks h few legal =
    let units = units_few ticks h few legal in
    let datagrams = from_few settings (audio_units ticks h) 0 (length (audio_units ticks h)) in
    omega (arith, units, datagrams)
