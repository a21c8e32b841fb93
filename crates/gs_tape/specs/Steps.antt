-- The reading of a capture file in the steps in which a program makes it. A step is given the file's length and what
-- is left of it, and answers a value and what is left then, or a fault.
use Rattle.std.specs.Prelude.{ℕ, zero, suc, ◌+◌, ◌-◌, ◌*◌, ◌||◌, ◌&&◌, Bool, List, [], ◌∷◌, length, Result, Ok, nat_lt}
use Rattle.std.specs.Prelude.{nat_le, ◌==◌, not, codes}
use Rattle.gs_tape.specs.Tick.{Tick, Delta}
use Rattle.gs_tape.specs.Limits.{most_audio, most_unit, most_bytes, most_count, short_duration, long_duration}
use Rattle.gs_tape.specs.Reading.{Fault, Malformed, Full, UnitTooLarge, AudioLength, ◌>>=◌, unless, bytes_at, number_at}
use Rattle.gs_tape.specs.Reading.{text_at, Before}

abbrev pub StepOf : Type 0 → Type 0
StepOf A = ℕ → List ℕ → Result (A × List ℕ) Fault

-- this value, with nothing read
unfoldable pub gives : {A : Type 0} → A → StepOf A
gives x size rest = Ok (x, rest)

-- a step, and then one that its value leads to
unfoldable pub then_read : {A B : Type 0} → StepOf A → (A → StepOf B) → StepOf B
then_read step next size rest = step size rest >>= (λ y. next y.0 size y.1)

-- a step whose value has a fault where the test says so; the fault is told the place where the step began
unfoldable pub refused : {A : Type 0} → StepOf A → (A → Bool) → (A → ℕ → Fault) → StepOf A
refused step bad fault size rest = step size rest >>= (λ y. unless (bad y.0) (fault y.0 (size - length rest)) (Ok y))

-- the bytes of a field
abbrev pub field : ℕ → StepOf (List ℕ)
field n size rest = bytes_at size n rest

-- a number of n bytes
abbrev pub number : ℕ → StepOf ℕ
number n size rest = number_at size n rest

-- the bytes that must stand there
unfoldable pub text : List ℕ → StepOf (Unit {0})
text bytes size rest = text_at size bytes rest >>= (λ behind. Ok (tt, behind))

-- the length of a unit of a tick, where all units before it have `held` bytes
abbrev pub length_in_tick : ℕ → ℕ → StepOf ℕ
length_in_tick tick held =
    refused (refused (number 4) (λ n. nat_lt most_unit n) (λ n place. UnitTooLarge tick))
    (λ n. nat_lt most_bytes (held + n)) (λ n place. Full tick)

abbrev pub unit : ℕ → ℕ → StepOf (List ℕ)
unit tick held = then_read (length_in_tick tick held) field

-- the tick that a delta of a tick names, behind a delta that names `after`
abbrev pub named_tick : ℕ → ℕ → StepOf ℕ
named_tick tick after = refused (number 4) (λ n. nat_le n after || nat_le tick n) (λ n place. Malformed 5 place)

abbrev pub delta : ℕ → ℕ → ℕ → StepOf Delta
delta tick after held =
    then_read (named_tick tick after) (λ n. then_read (unit tick held) (λ u. gives (record { named = n; unit = u })))

-- so many deltas
unfoldable pub deltas : ℕ → ℕ → ℕ → ℕ → StepOf (List Delta)
deltas zero tick after held = gives []
deltas (suc n) tick after held =
    then_read (delta tick after held)
    (λ d. then_read (deltas n tick d.named (held + length d.unit)) (λ ds. gives (d ∷ ds)))

-- so many audio units of one length
unfoldable pub sounds : ℕ → ℕ → StepOf (List (List ℕ))
sounds zero each = gives []
sounds (suc n) each = then_read (field each) (λ u. then_read (sounds n each) (λ us. gives (u ∷ us)))

-- the time of a tick, no earlier than that of the one before
abbrev pub time : ℕ → StepOf ℕ
time earliest = refused (number 4) (λ t. nat_lt t earliest) (λ t place. Malformed 3 place)

-- how many audio units a tick has, where there is room for them
abbrev pub sound_count : ℕ → ℕ → ℕ → StepOf ℕ
sound_count audio tick held =
    refused
    (refused (number 1) (λ n. nat_lt most_count n || (not (n == 0) && audio == 0)) (λ n place. Malformed 4 place))
    (λ n. nat_lt most_bytes (held + n * audio)) (λ n place. Full tick)

-- how many deltas a tick has
abbrev pub delta_count : StepOf ℕ
delta_count = refused (number 1) (λ n. nat_lt most_count n) (λ n place. Malformed 4 place)

-- what is known before a tick: its number, the time of the one before, all units so far
abbrev pub before : ℕ → ℕ → ℕ → Before
before number time held = record { number = number; time = time; held = held }

-- more bytes than a tick has with its tag
abbrev pub most_tick : ℕ
most_tick = 70000000

-- a tick behind its tag
unfoldable pub tick : ℕ → Before → StepOf Tick
tick audio known =
    then_read (time known.time) (λ t.
    then_read (sound_count audio known.number known.held) (λ heard.
    then_read delta_count (λ count.
    then_read (unit known.number (known.held + heard * audio)) (λ idr.
    then_read (deltas count known.number 0 (known.held + heard * audio + length idr)) (λ ds.
    then_read (sounds heard audio) (λ us.
    gives (record { number = known.number; time = t; idr = idr; deltas = ds; audio = us })))))))

-- the bytes of a head
abbrev pub head_length : ℕ
head_length = 12

-- the length of an audio unit
abbrev pub audio_length : StepOf ℕ
audio_length = refused (number 2) (λ n. nat_lt most_audio n) (λ n place. AudioLength n)

-- the duration of an audio unit
abbrev pub duration : StepOf ℕ
duration = refused (number 1) (λ n. not (n == short_duration || n == long_duration)) (λ n place. Malformed 1 place)

-- the zero behind them
abbrev pub last : StepOf ℕ
last = refused (number 1) (λ n. not (n == 0)) (λ n place. Malformed 1 place)

-- the head: the length and the duration of an audio unit
unfoldable pub head : StepOf (ℕ × ℕ)
head =
    then_read (text (codes "GSTAPE01")) (λ _.
    then_read audio_length (λ long.
    then_read duration (λ ms.
    then_read last (λ _. gives (long, ms)))))
