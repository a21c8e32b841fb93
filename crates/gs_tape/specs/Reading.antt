-- What the bytes of a capture file hold: its ticks, and the first fault in the order of the bytes.
use Rattle.std.specs.Prelude.{ℕ, zero, suc, ◌+◌, ◌-◌, ◌*◌, Bool, true, false, ◌&&◌, ◌||◌, not, List, [], ◌∷◌, length}
use Rattle.std.specs.Prelude.{take, drop, Option, Some, None, Result, Ok, Err, nat_lt, nat_le, ◌==◌, codes}
use Rattle.byteorder.specs.Endian.{little_number}
use Rattle.gs_tape.specs.Tick.{Tick, Delta}
pub use Rattle.gs_tape.specs.Limits.{most_ticks, most_bytes, most_unit, most_audio, most_count}
use Rattle.gs_tape.specs.Limits.{short_duration, long_duration}

-- Why the bytes are no capture file. The place is that of the first byte of the field at fault.
-- Kinds: 1 the head, 2 a tag, 3 a time below the one before, 4 a count, 5 a named tick,
-- 6 the end inside a field or where a tag is due, 7 a byte after the end mark.
pub data Fault : Type 0 where
  Malformed : (kind place : ℕ) → Fault
  Full : (tick : ℕ) → Fault
  UnitTooLarge : (tick : ℕ) → Fault
  AudioLength : (length : ℕ) → Fault

infixl 10 ◌>>=◌
abbrev pub ◌>>=◌ : {A B : Type 0} → Result A Fault → (A → Result B Fault) → Result B Fault
(Ok x) >>= f = f x
(Err e) >>= f = Err e

-- x, unless the test finds a fault
abbrev pub unless : {A : Type 0} → Bool → Fault → Result A Fault → Result A Fault
unless true fault x = Err fault
unless false fault x = x

-- Each reading below is given the file's length and what is left of it, so that the place of what is
-- left is one less the other; it answers its value and what is then left.
abbrev pub bytes_at : ℕ → ℕ → List ℕ → Result (List ℕ × List ℕ) Fault
bytes_at size n rest = unless (nat_lt (length rest) n) (Malformed 6 size) (Ok (take n rest, drop n rest))

-- a number of n bytes
abbrev pub number_at : ℕ → ℕ → List ℕ → Result (ℕ × List ℕ) Fault
number_at size n rest = unless (nat_lt (length rest) n) (Malformed 6 size) (Ok (little_number n rest, drop n rest))

-- the bytes that must stand there, judged one by one
unfoldable pub text_at : ℕ → List ℕ → List ℕ → Result (List ℕ) Fault
text_at size [] rest = Ok rest
text_at size (c ∷ cs) [] = Err (Malformed 6 size)
text_at size (c ∷ cs) (b ∷ bs) = unless (not (b == c)) (Malformed 1 (size - suc (length bs))) (text_at size cs bs)

pub record CaptureHead : Type 0 where
  pub audio : ℕ
  pub duration : ℕ

unfoldable pub head_at : ℕ → List ℕ → Result (CaptureHead × List ℕ) Fault
head_at size bytes = do
  behind_magic ← text_at size (codes "GSTAPE01") bytes
  (audio, behind_audio) ← number_at size 2 behind_magic
  known ← unless (nat_lt most_audio audio) (AudioLength audio) (Ok behind_audio)
  (duration, behind_duration) ← number_at size 1 known
  timed ← unless (not (duration == short_duration || duration == long_duration)) (Malformed 1 (size - length known))
      (Ok behind_duration)
  (last, behind) ← number_at size 1 timed
  unless (not (last == 0)) (Malformed 1 (size - length timed))
      (Ok (record { audio = audio; duration = duration }, behind))

-- A unit's length, and then its bytes. `held` is the sum of all units of the file so far.
unfoldable pub unit_at : ℕ → ℕ → ℕ → List ℕ → Result (List ℕ × List ℕ) Fault
unit_at size number held rest = do
  (long, behind_length) ← number_at size 4 rest
  fits ← unless (nat_lt most_unit long) (UnitTooLarge number) (Ok behind_length)
  room ← unless (nat_lt most_bytes (held + long)) (Full number) (Ok fits)
  bytes_at size long room

-- what is known before a delta: its tick's number, the tick that the delta before it names (0 before the first), all
-- units so far
pub record BeforeDelta : Type 0 where
  pub number : ℕ
  pub named : ℕ
  pub held : ℕ

-- So many deltas of a tick: named ticks rise, and are below the tick's own number. Behind the deltas stand the sum of
-- all units with theirs, and what is left.
unfoldable pub deltas_at : ℕ → ℕ → BeforeDelta → List ℕ → Result (List Delta × (ℕ × List ℕ)) Fault
deltas_at zero size before rest = Ok ([], (before.held, rest))
deltas_at (suc n) size before rest = do
  (named, behind_named) ← number_at size 4 rest
  known ← unless (nat_le named before.named || nat_le before.number named) (Malformed 5 (size - length rest))
      (Ok behind_named)
  (unit, behind_unit) ← unit_at size before.number before.held known
  (others, behind) ← deltas_at n size
      (record { number = before.number; named = named; held = before.held + length unit }) behind_unit
  Ok (record { named = named; unit = unit } ∷ others, behind)

-- audio units of one length
unfoldable pub audio_at : ℕ → ℕ → ℕ → List ℕ → Result (List (List ℕ) × List ℕ) Fault
audio_at zero size length rest = Ok ([], rest)
audio_at (suc n) size length rest = do
  (unit, behind_unit) ← bytes_at size length rest
  (others, behind) ← audio_at n size length behind_unit
  Ok (unit ∷ others, behind)

-- what is known before a tick: its number, the time of the one before, all units so far
pub record Before : Type 0 where
  pub number : ℕ
  pub time : ℕ
  pub held : ℕ

-- a tick behind its tag, the sum of all units with its own, and what is left
unfoldable pub tick_at : ℕ → ℕ → Before → List ℕ → Result (Tick × (ℕ × List ℕ)) Fault
tick_at size audio before rest = do
  (time, behind_time) ← number_at size 4 rest
  timed ← unless (nat_lt time before.time) (Malformed 3 (size - length rest)) (Ok behind_time)
  (sounds, behind_sounds) ← number_at size 1 timed
  few ← unless (nat_lt most_count sounds || (not (sounds == 0) && audio == 0)) (Malformed 4 (size - length timed))
      (Ok behind_sounds)
  room ← unless (nat_lt most_bytes (before.held + sounds * audio)) (Full before.number) (Ok few)
  (count, behind_count) ← number_at size 1 room
  counted ← unless (nat_lt most_count count) (Malformed 4 (size - length room)) (Ok behind_count)
  (idr, behind_idr) ← unit_at size before.number (before.held + sounds * audio) counted
  (deltas, (held, behind_deltas)) ← deltas_at count size
      (record { number = before.number; named = 0; held = before.held + sounds * audio + length idr }) behind_idr
  (units, behind) ← audio_at sounds size audio behind_deltas
  Ok (record { number = before.number; time = time; idr = idr; deltas = deltas; audio = units }, (held, behind))

-- The ticks that end before the first fault, and that fault where there is one.
pub record ReadTape : Type 0 where
  pub ticks : List Tick
  pub fault : Option Fault

abbrev pub ends_with : Option Fault → ReadTape
ends_with fault = record { ticks = []; fault = fault }

abbrev pub and_then : Tick → ReadTape → ReadTape
and_then t r = record { ticks = t ∷ r.ticks; fault = r.fault }

-- the tick, and what the bytes behind it give
abbrev pub with_tick : Result (Tick × (ℕ × List ℕ)) Fault → (Tick → ℕ → List ℕ → ReadTape) → ReadTape
with_tick (Err e) next = ends_with (Some e)
with_tick (Ok x) next = and_then x.0 (next x.0 x.1.0 x.1.1)

-- Ticks up to the end mark. Each takes a byte at least, so as many steps as there are bytes are enough.
unfoldable pub ticks_at : ℕ → ℕ → ℕ → Before → List ℕ → ReadTape
ticks_at zero size audio before rest = ends_with (Some (Malformed 6 size))
ticks_at (suc steps) size audio before [] = ends_with (Some (Malformed 6 size))
ticks_at (suc steps) size audio before (tag ∷ rest) =
    elim (tag == 0x45) [
      | true ↦ elim (length rest == 0) [
        | true ↦ ends_with None
        | false ↦ ends_with (Some (Malformed 7 (size - length rest)))
      ]
      | false ↦ elim (tag == 0x54) [
        | true ↦ elim (nat_lt most_ticks before.number) [
          | true ↦ ends_with (Some (Full before.number))
          | false ↦ with_tick (tick_at size audio before rest)
              (λ t held left. ticks_at steps size audio
              (record { number = before.number + 1; time = t.time; held = held }) left)
        ]
        | false ↦ ends_with (Some (Malformed 2 (size - suc (length rest))))
      ]
    ]

abbrev pub before_first : Before
before_first = record { number = 1; time = 0; held = 0 }

abbrev pub read_behind : ℕ → Result (CaptureHead × List ℕ) Fault → ReadTape
read_behind size (Err e) = ends_with (Some e)
read_behind size (Ok h) = ticks_at size size h.0.audio before_first h.1

unfoldable pub read_tape : List ℕ → ReadTape
read_tape bytes = read_behind (length bytes) (head_at (length bytes) bytes)

-- the ticks that end before the first fault
abbrev pub ticks_of : List ℕ → List Tick
ticks_of bytes = (read_tape bytes).ticks

abbrev pub first_fault : List ℕ → Option Fault
first_fault bytes = (read_tape bytes).fault

-- the length of an audio unit, 0 where the head has a fault
abbrev pub audio_of_head : Result (CaptureHead × List ℕ) Fault → ℕ
audio_of_head (Err e) = 0
audio_of_head (Ok h) = h.0.audio

abbrev pub audio_length : List ℕ → ℕ
audio_length bytes = audio_of_head (head_at (length bytes) bytes)

-- the duration of an audio unit in ms, 0 where the head has a fault
abbrev pub duration_of_head : Result (CaptureHead × List ℕ) Fault → ℕ
duration_of_head (Err e) = 0
duration_of_head (Ok h) = h.0.duration

abbrev pub audio_duration : List ℕ → ℕ
audio_duration bytes = duration_of_head (head_at (length bytes) bytes)
