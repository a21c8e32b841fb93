-- The bytes of a capture file, and what a number generates, give captures.
use Rattle.std.proofs.Common.{ℕ, ◌≡◌, ◌⊎◌, ◌<◌, ◌+◌, ◌%◌, ◌^◌, zero, suc, Bool, true, false, cond, List, [], ◌∷◌, ◌++◌, length, None, Result, Ok, Err, arith}
use Rattle.std.specs.Prelude.{nat_lt, ◌-◌, ◌==◌}
use Rattle.std.specs.List.{All, range_with_len}
use Rattle.std.proofs.lemmas.List.Elements.{All-nil, All-cons, All-push, All-map}
use Rattle.gs_tape.specs.Tick.{Delta}
use Rattle.gs_tape.specs.Limits.{HoldsBytes}
use Rattle.gs_tape.specs.Reading.{Fault, CaptureHead, head_at, duration_of_head}
use Rattle.gs_tape.specs.Generated.{Drawn, draw, next_state, pattern, drawn_unit, unit_from, with_delta, deltas, with_sound, three_sounds, sounds}
use Rattle.gs_tape.specs.Generated.{tick, ticks_from}
use Rattle.gs_tape.proofs.Results.{Gives}
use Rattle.gs_tape.proofs.Ticks.{IsHead, head_gives, AreBytes-from_All, ticks_keep_limits, ticks_hold_bytes, audio_length_keeps}
use Rattle.gs_tape.proofs.GeneratedWithin.{generated_is_writable}
use Rattle.gs_run.specs.CaptureFile.{fault_of_head}
use Rattle.gs_run.specs.WholeRun.{BytesAreCaptures, GeneratedFilesAreCaptures}

-- ---- the bytes of a file

-- a head without a fault has a known duration
known_duration : (bytes : List ℕ) (r : Result (CaptureHead × List ℕ) Fault) → Gives (IsHead bytes) r → fault_of_head r ≡ None
    → (duration_of_head r ≡ 5) ⊎ (duration_of_head r ≡ 10)
known_duration bytes (Err f) gives none = absurd cc
known_duration bytes (Ok head) gives none = gives.duration_known

pub bytes_are_captures : BytesAreCaptures
bytes_are_captures bytes all none = record {
  ticks = ticks_keep_limits bytes all;
  bytes = ticks_hold_bytes bytes all;
  audio = audio_length_keeps bytes all;
  duration = known_duration bytes (head_at (length bytes) bytes) (head_gives (length bytes) bytes (AreBytes-from_All bytes all)) none;
}

-- ---- what is generated

abbrev IsOfBytes : List ℕ → Type 0
IsOfBytes xs = All (λ b. b < 2 ^ 8) xs

abbrev AreOfBytes : List Delta → Type 0
AreOfBytes ds = All (λ d. All (λ b. b < 2 ^ 8) d.unit) ds

abbrev AreUnits : List (List ℕ) → Type 0
AreUnits us = All (All (λ b. b < 2 ^ 8)) us

pattern_bytes : (n base : ℕ) → IsOfBytes (pattern n base)
pattern_bytes n base = All-map (λ b. b < 2 ^ 8) (λ i. (base + i) % 251) (range_with_len 0 n) (λ k d within. omega arith)

unit_bytes : (n s : ℕ) → IsOfBytes (drawn_unit n s).value
unfolding drawn_unit
unit_bytes n s = pattern_bytes n (draw s % 251)

unit_from_bytes : (least span s : ℕ) → IsOfBytes (unit_from least span s).value
unfolding unit_from
unit_from_bytes least span s = unit_bytes (least + draw s % span) (next_state s)

delta_bytes : (t back : ℕ) (x : Drawn (List Delta)) → AreOfBytes x.value → AreOfBytes (with_delta t back x).value
unfolding with_delta
delta_bytes t back x are = by (nat_lt back t) where
  unit : Drawn (List ℕ)
  unit = unit_from 41000 2000 x.state

  more : List Delta
  more = x.value ++ record { named = t - back; unit = unit.value } ∷ []

  by : (b : Bool) → AreOfBytes (cond {A = Drawn (List Delta)} b (record { value = more; state = unit.state }) x).value
  by true = All-push (λ d. All (λ b. b < 2 ^ 8) d.unit) x.value (record { named = t - back; unit = unit.value }) are (unit_from_bytes 41000 2000 x.state)
  by false = are

deltas_bytes : (t s : ℕ) → AreOfBytes (deltas t s).value
deltas_bytes t s =
    let none : Drawn (List Delta) = record { value = []; state = s } in
    delta_bytes t 1 (with_delta t 2 (with_delta t 4 (with_delta t 8 none)))
    (delta_bytes t 2 (with_delta t 4 (with_delta t 8 none))
    (delta_bytes t 4 (with_delta t 8 none)
    (delta_bytes t 8 none (All-nil (λ (d : Delta). All (λ b. b < 2 ^ 8) d.unit)))))

sound_bytes : (x : Drawn (List (List ℕ))) → AreUnits x.value → AreUnits (with_sound x).value
unfolding with_sound
sound_bytes x are = All-push (All (λ b. b < 2 ^ 8)) x.value (drawn_unit 240 x.state).value are (unit_bytes 240 x.state)

three_bytes : (s : ℕ) → AreUnits (three_sounds s).value
three_bytes s =
    let none : Drawn (List (List ℕ)) = record { value = []; state = s } in
    sound_bytes (with_sound (with_sound none)) (sound_bytes (with_sound none) (sound_bytes none (All-nil (All (λ b. b < 2 ^ 8)))))

sounds_bytes : (t s : ℕ) → AreUnits (sounds t s).value
sounds_bytes t s = by (t % 3 == 0) where
  by : (b : Bool) → AreUnits (cond {A = Drawn (List (List ℕ))} b (with_sound (three_sounds s)) (three_sounds s)).value
  by true = sound_bytes (three_sounds s) (three_bytes s)
  by false = three_bytes s

tick_bytes : (t s : ℕ) → HoldsBytes (tick t s).value
unfolding tick
tick_bytes t s =
    let idr = unit_from 100000 20000 s in
    let behind = deltas t idr.state in
    record { idr = unit_from_bytes 100000 20000 s; deltas = deltas_bytes t idr.state; audio = sounds_bytes t behind.state }

ticks_bytes : (n t s : ℕ) → All HoldsBytes (ticks_from n t s)
unfolding ticks_from
ticks_bytes zero t s = All-nil HoldsBytes
ticks_bytes (suc n) t s =
    All-cons HoldsBytes (tick t s).value (ticks_from n (t + 1) (tick t s).state) (tick_bytes t s) (ticks_bytes n (t + 1) (tick t s).state)

pub generated_files_are_captures : GeneratedFilesAreCaptures
generated_files_are_captures number ticks most =
    let is = generated_is_writable number ticks most in
    record { ticks = is.within; bytes = ticks_bytes ticks 1 number; audio = is.audio_most; duration = is.duration_known }
