-- The definitions at small files, computed.
use Rattle.std.specs.Prelude.{ℕ, ◌≡◌, List, [], ◌∷◌, ◌++◌, codes, refl, replicate, Some, None}
use Rattle.gs_tape.specs.Tick.{Tick}
use Rattle.gs_tape.specs.Capture.{file}
use Rattle.gs_tape.specs.Reading.{ReadTape, read_tape, ends_with, and_then, Malformed, Full, UnitTooLarge, AudioLength, text_at, head_at, unit_at, deltas_at}
use Rattle.gs_tape.specs.Reading.{audio_at}
use Rattle.gs_tape.specs.Reading.{tick_at, ticks_at}

small : List ℕ
small =
    codes "GSTAPE01" ++ 0 ∷ 0 ∷ 5 ∷ 0 ∷ 0x54 ∷ 0 ∷ 0 ∷ 0 ∷ 0 ∷ 0 ∷ 0 ∷ 3 ∷ 0 ∷ 0 ∷ 0 ∷ 0x41 ∷ 0x42 ∷ 0x43 ∷ 0x45 ∷ []

one : Tick
one = record { number = 1; time = 0; idr = codes "ABC"; deltas = []; audio = [] }

spelled : file 0 5 (one ∷ []) ≡ small
unfolding one small
spelled = refl

whole : read_tape small ≡ record { ticks = one ∷ []; fault = None }
unfolding small one read_tape text_at head_at unit_at deltas_at audio_at tick_at ticks_at
whole = refl

-- A file cut at 7 bytes of its magic, one cut at 2, an empty one, one with another byte in its magic, and
-- one with a byte behind its end.
cut : read_tape (codes "GSTAPE0") ≡ record { ticks = []; fault = Some (Malformed 6 7) }
unfolding read_tape text_at head_at unit_at deltas_at audio_at tick_at ticks_at
cut = refl

cut_early : read_tape (codes "GS") ≡ ends_with (Some (Malformed 6 2))
unfolding read_tape text_at head_at
cut_early = refl

empty : read_tape [] ≡ ends_with (Some (Malformed 6 0))
unfolding read_tape text_at head_at
empty = refl

other : read_tape (codes "GSX") ≡ record { ticks = []; fault = Some (Malformed 1 2) }
unfolding read_tape text_at head_at unit_at deltas_at audio_at tick_at ticks_at
other = refl

behind : read_tape (small ++ 0 ∷ []) ≡ record { ticks = one ∷ []; fault = Some (Malformed 7 27) }
unfolding small one read_tape text_at head_at unit_at deltas_at audio_at tick_at ticks_at
behind = refl

-- A head of 12 bytes: the two bytes of the audio length, and the duration.
abbrev head : ℕ → ℕ → ℕ → List ℕ
head low high duration = codes "GSTAPE01" ++ low ∷ high ∷ duration ∷ 0 ∷ []

abbrev silent : List ℕ
silent = head 0 0 5

-- a number below 256 in four bytes
abbrev four : ℕ → List ℕ
four n = n ∷ 0 ∷ 0 ∷ 0 ∷ []

-- 4,000,001 in four bytes
abbrev too_large : List ℕ
too_large = 0x01 ∷ 0x09 ∷ 0x3D ∷ 0x00 ∷ []

-- The first 7 bytes of a tick: its tag, its time below 256, its counts. In the first tick the tag is at 12, the
-- time at 13, the counts at 17 and 18, the IDR length at 19.
abbrev tick_of : ℕ → ℕ → ℕ → List ℕ
tick_of time audio deltas = 0x54 ∷ four time ++ audio ∷ deltas ∷ []

-- A first tick of 14 bytes, 12 to 25, and what is read of it. A second one has its tag at 26, its time at 27,
-- its IDR length at 33.
abbrev first_bytes : List ℕ
first_bytes = tick_of 5 0 0 ++ four 3 ++ codes "ABC"

abbrev first : Tick
first = record { number = 1; time = 5; idr = codes "ABC"; deltas = []; audio = [] }

-- A duration of 7, and a last byte of the head that isn't 0.
other_duration : read_tape (head 0 0 7 ++ 0x45 ∷ []) ≡ ends_with (Some (Malformed 1 10))
unfolding read_tape text_at head_at
other_duration = refl

no_zero : read_tape (codes "GSTAPE01" ++ 0 ∷ 0 ∷ 5 ∷ 1 ∷ 0x45 ∷ []) ≡ ends_with (Some (Malformed 1 11))
unfolding read_tape text_at head_at
no_zero = refl

-- An audio length of 1,401, and the same before a duration of 7.
long_audio : read_tape (head 0x79 0x05 5 ++ 0x45 ∷ []) ≡ ends_with (Some (AudioLength 1401))
unfolding read_tape text_at head_at
long_audio = refl

long_before_duration : read_tape (head 0x79 0x05 7 ++ 0x45 ∷ []) ≡ ends_with (Some (AudioLength 1401))
unfolding read_tape text_at head_at
long_before_duration = refl

-- A wrong tag at once, and one behind a tick.
wrong_tag : read_tape (silent ++ 0x55 ∷ 0x45 ∷ []) ≡ ends_with (Some (Malformed 2 12))
unfolding read_tape text_at head_at ticks_at
wrong_tag = refl

wrong_second_tag : read_tape (silent ++ first_bytes ++ 0x44 ∷ 0x45 ∷ []) ≡ and_then first (ends_with (Some (Malformed 2 26)))
unfolding read_tape text_at head_at unit_at deltas_at audio_at tick_at ticks_at
wrong_second_tag = refl

-- a second tick at 4 ms, behind one at 5 ms
earlier : read_tape (silent ++ first_bytes ++ tick_of 4 0 0 ++ four 0 ++ 0x45 ∷ []) ≡ and_then first (ends_with (Some (Malformed 3 27)))
unfolding read_tape text_at head_at unit_at deltas_at audio_at tick_at ticks_at
earlier = refl

-- 17 audio units of a byte, one audio unit where their length is 0, and 17 deltas
many_sounds : read_tape (head 1 0 5 ++ tick_of 0 17 0 ++ four 0 ++ replicate 17 0 ++ 0x45 ∷ []) ≡ ends_with (Some (Malformed 4 17))
unfolding read_tape text_at head_at tick_at ticks_at
many_sounds = refl

sound_in_silence : read_tape (silent ++ tick_of 0 1 0 ++ four 0 ++ 0x45 ∷ []) ≡ ends_with (Some (Malformed 4 17))
unfolding read_tape text_at head_at tick_at ticks_at
sound_in_silence = refl

many_deltas : read_tape (silent ++ tick_of 0 0 17 ++ four 0 ++ 0x45 ∷ []) ≡ ends_with (Some (Malformed 4 18))
unfolding read_tape text_at head_at tick_at ticks_at
many_deltas = refl

-- A delta of 9 bytes: the tick that it names, its length and a byte. Behind an IDR unit of no bytes the first
-- delta of the first tick is at 23; that of the second tick is at 37, and the next one at 46.
abbrev delta_of : ℕ → List ℕ
delta_of named = four named ++ four 1 ++ codes "D"

named_zero : read_tape (silent ++ tick_of 0 0 1 ++ four 0 ++ delta_of 0 ++ 0x45 ∷ []) ≡ ends_with (Some (Malformed 5 23))
unfolding read_tape text_at head_at unit_at deltas_at tick_at ticks_at
named_zero = refl

named_itself : read_tape (silent ++ tick_of 0 0 1 ++ four 0 ++ delta_of 1 ++ 0x45 ∷ []) ≡ ends_with (Some (Malformed 5 23))
unfolding read_tape text_at head_at unit_at deltas_at tick_at ticks_at
named_itself = refl

named_again : read_tape (silent ++ first_bytes ++ tick_of 5 0 2 ++ four 0 ++ delta_of 1 ++ delta_of 1 ++ 0x45 ∷ [])
    ≡ and_then first (ends_with (Some (Malformed 5 46)))
unfolding read_tape text_at head_at unit_at deltas_at audio_at tick_at ticks_at
named_again = refl

-- an IDR length of 4,000,001 in the second tick
large_unit : read_tape (silent ++ first_bytes ++ tick_of 5 0 0 ++ too_large) ≡ and_then first (ends_with (Some (UnitTooLarge 2)))
unfolding read_tape text_at head_at unit_at deltas_at audio_at tick_at ticks_at
large_unit = refl

-- Fields whose first bytes decide already, cut: an IDR length after three bytes, a named tick after one.
cut_length : read_tape (silent ++ tick_of 0 0 0 ++ 0x00 ∷ 0xFF ∷ 0xFF ∷ []) ≡ ends_with (Some (Malformed 6 22))
unfolding read_tape text_at head_at unit_at tick_at ticks_at
cut_length = refl

cut_name : read_tape (silent ++ tick_of 0 0 1 ++ four 0 ++ 9 ∷ []) ≡ ends_with (Some (Malformed 6 24))
unfolding read_tape text_at head_at unit_at deltas_at tick_at ticks_at
cut_name = refl

-- The end of a file of 1,012 bytes, with this audio length, from a tick of this number on, behind units of so
-- many bytes in all. Where 12 bytes are left, the tag is at 1,000 and the audio count at 1,005.
abbrev late : ℕ → ℕ → ℕ → List ℕ → ReadTape
late audio number held rest = ticks_at 1012 1012 audio (record { number = number; time = 0; held = held }) rest

-- tick 1,048,577
full_of_ticks : late 0 1048577 0 (tick_of 0 0 0 ++ four 0 ++ 0x45 ∷ []) ≡ ends_with (Some (Full 1048577))
unfolding ticks_at
full_of_ticks = refl

-- More than 1,073,741,824 bytes by one, in tick 9: by an IDR length, by an audio count, by a delta's length.
full_by_idr : late 0 9 1073741822 (tick_of 0 0 0 ++ four 3 ++ codes "ABC" ++ 0x45 ∷ []) ≡ ends_with (Some (Full 9))
unfolding unit_at tick_at ticks_at
full_by_idr = refl

full_by_audio : late 2 9 1073741821 (tick_of 0 2 0 ++ four 0 ++ codes "abcd" ++ 0x45 ∷ []) ≡ ends_with (Some (Full 9))
unfolding tick_at ticks_at
full_by_audio = refl

full_by_delta : late 0 9 1073741821 (tick_of 0 0 1 ++ four 3 ++ codes "ABC" ++ delta_of 1 ++ 0x45 ∷ []) ≡ ends_with (Some (Full 9))
unfolding unit_at deltas_at tick_at ticks_at
full_by_delta = refl

-- Where two are at fault in one field: a unit too large before a full tape, and a count before a full tape.
large_before_full : late 0 9 1073741824 (tick_of 0 0 0 ++ too_large ++ 0x45 ∷ []) ≡ ends_with (Some (UnitTooLarge 9))
unfolding unit_at tick_at ticks_at
large_before_full = refl

count_before_full : late 2 9 1073741824 (tick_of 0 17 0 ++ four 0 ++ 0x45 ∷ []) ≡ ends_with (Some (Malformed 4 1005))
unfolding tick_at ticks_at
count_before_full = refl
