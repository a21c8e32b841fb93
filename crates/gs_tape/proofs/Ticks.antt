-- The ticks that any bytes give keep the limits, and without a fault the bytes are their file.
use Rattle.std.proofs.Common.{◌≡◌, ◌⊎◌, ◌<◌, ◌≤◌, ◌+◌, ◌-◌, ◌*◌, ◌%◌, ◌^◌, ℕ, zero, suc, Bool, true, false, not, ◌&&◌, ◌||◌, List, [], ◌∷◌, ◌++◌, length, Some}
use Rattle.std.proofs.Common.{None, Result, Ok, Err, refl, sym, ap, subst, ◌∙◌, arith, inl, inr, append_assoc}
use Rattle.std.specs.Prelude.{nat_lt, ◌==◌, codes}
use Rattle.std.specs.List.{All, AllByRecursion, slice_get, flat_map, concat, sum_by}
use Rattle.std.proofs.lemmas.Bool.{ltb-false, or_parts, or_cases, cases_lt, and_cases, not-false, eqb-true, eqb-false}
use Rattle.std.proofs.lemmas.List.{get_or_past}
use Rattle.std.proofs.lemmas.List.Elements.{All-nil, All-cons, recursion_from_All}
use Rattle.std.proofs.lemmas.List.Sums.{sum_by-cons}
use Rattle.byteorder.specs.Endian.{little_bytes}
use Rattle.gs_tape.specs.Tick.{Tick, Delta, tick_numbered, unit_bytes}
use Rattle.gs_tape.specs.Limits.{most_ticks, most_bytes, most_audio, most_count, IsWithinLimits, AreWithinLimits, IsTickWithinLimits, HoldsBytes, AreWritable}
use Rattle.gs_tape.specs.Capture.{head, unit, delta, tick, file}
use Rattle.gs_tape.specs.Reading.{Fault, Malformed, Full, AudioLength, unless, number_at, text_at, CaptureHead, head_at, unit_at, deltas_at, audio_at, Before}
use Rattle.gs_tape.specs.Reading.{tick_at}
use Rattle.gs_tape.specs.Reading.{ReadTape, ends_with, with_tick, ticks_at, before_first, read_behind, read_tape, ticks_of, audio_of_head, duration_of_head}
use Rattle.gs_tape.specs.Reading.{audio_length}
use Rattle.gs_tape.specs.Laws.{TicksKeepLimits, AudioLengthKeepsLimit, EachTickIsWithinLimits, TicksHoldBytes, FaultlessBytesAreFiles}
use Rattle.gs_tape.proofs.Results.{Gives, gives_then, gives_unless, gives_weaker}
use Rattle.gs_tape.proofs.Readings.{AreBytes, IsNumber, number_gives, IsUnit, unit_gives, AreDeltas, deltas_give, AreSounds, sounds_give}

-- ---- one tick

-- a tick's bytes behind its tag, and what is left
abbrev pub tick_rest : Tick → List ℕ → List ℕ
tick_rest t rest =
    little_bytes 4 t.time ++ (length t.audio ∷ length t.deltas ∷ (unit t.idr ++ (flat_map delta t.deltas ++ (concat t.audio ++ rest))))

pub tick-parts : (t : Tick) (rest : List ℕ) → tick t ++ rest ≡ 0x54 ∷ tick_rest t rest
tick-parts t rest = simp append_assoc

-- the bytes of audio units that have one length
pub audio_bytes : (each : ℕ) (us : List (List ℕ)) → AllByRecursion (λ u. length u ≡ each) us → sum_by (λ u. length u) us ≡ length us * each
audio_bytes each [] all = omega arith
audio_bytes each (u ∷ us) all =
    let rest = audio_bytes each us all.1 in
    let first : length u ≡ each = all.0 in
    omega (arith, sum_by-cons (λ (v : List ℕ). length v) u us)

pub record IsTick (audio : ℕ) (before : Before) (rest : List ℕ) (x : Tick × (ℕ × List ℕ)) : Type 0 where
  pub within : IsWithinLimits audio before.number before.time x.0
  pub holds : HoldsBytes x.0
  pub held_is : x.1.0 ≡ before.held + unit_bytes x.0
  pub room : x.1.0 ≤ most_bytes
  pub spelled : rest ≡ tick_rest x.0 x.1.1
  pub bytes : AreBytes x.1.1

silent_is : (sounds audio : ℕ) → (not (sounds == 0) && audio == 0) ≡ false → audio ≡ 0 → sounds ≡ 0
silent_is sounds audio e none = elim (and_cases (not (sounds == 0)) (audio == 0) e) [
  | inl zero_sounds ↦ eqb-true sounds 0 (not-false (sounds == 0) zero_sounds)
  | inr some ↦ absurd (eqb-false audio 0 some none)
]

-- a byte is its number
byte_spells : (x : ℕ) (rest : List ℕ) → x < 256 ^ 1 → little_bytes 1 x ++ rest ≡ x ∷ rest
byte_spells x rest fits = let low : x % 256 ≡ x = omega arith in ap (λ (b : ℕ). b ∷ rest) low

-- what was read of a tick, with the facts of each step
record Steps (audio : ℕ) (before : Before) (rest : List ℕ) (time sounds count : ℕ × List ℕ) (later few counted : List ℕ)
    (idr : List ℕ × List ℕ) (deltas : List Delta × (ℕ × List ℕ)) (units : List (List ℕ) × List ℕ) : Type 0 where
  number_most : before.number ≤ most_ticks
  time_read : IsNumber 4 rest time
  not_earlier : before.time ≤ time.0
  later_is : later ≡ time.1
  sounds_read : IsNumber 1 later sounds
  sounds_most : sounds.0 ≤ most_count
  silent : audio ≡ 0 → sounds.0 ≡ 0
  few_is : few ≡ sounds.1
  count_read : IsNumber 1 few count
  count_most : count.0 ≤ most_count
  counted_is : counted ≡ count.1
  idr_read : IsUnit (before.held + sounds.0 * audio) counted idr
  deltas_read : AreDeltas count.0 0 before.number (before.held + sounds.0 * audio + length idr.0) idr.1 deltas
  units_read : AreSounds sounds.0 audio deltas.1.1 units

is_tick : (audio : ℕ) (before : Before) (rest : List ℕ) (time sounds count : ℕ × List ℕ) (later few counted : List ℕ)
    (idr : List ℕ × List ℕ) (deltas : List Delta × (ℕ × List ℕ)) (units : List (List ℕ) × List ℕ)
    → Steps audio before rest time sounds count later few counted idr deltas units
    → IsTick audio before rest (record { number = before.number; time = time.0; idr = idr.0; deltas = deltas.0; audio = units.0 }, (deltas.1.0, units.1))
is_tick audio before rest time sounds count later few counted idr deltas units h =
    let all = recursion_from_All (λ u. length u ≡ audio) units.0 h.units_read.whole in
    let heard = audio_bytes audio units.0 all in
    let heard_many : length units.0 * audio ≡ sounds.0 * audio = ap (λ (n : ℕ). n * audio) h.units_read.count in
    let behind_counts : List ℕ = unit idr.0 ++ (flat_map delta deltas.0 ++ (concat units.0 ++ units.1)) in
    let units_spelled : count.1 ≡ behind_counts =
    sym h.counted_is ∙ h.idr_read.spelled
    ∙ ap (λ (l : List ℕ). unit idr.0 ++ l) (h.deltas_read.spelled ∙ ap (λ (l : List ℕ). flat_map delta deltas.0 ++ l) h.units_read.spelled) in
    let counts_spelled : time.1 ≡ sounds.0 ∷ count.0 ∷ count.1 =
    sym h.later_is ∙ h.sounds_read.spelled ∙ byte_spells sounds.0 sounds.1 h.sounds_read.fits
    ∙ ap (λ (l : List ℕ). sounds.0 ∷ l) (sym h.few_is ∙ h.count_read.spelled ∙ byte_spells count.0 count.1 h.count_read.fits) in
    record {
      within = record {
        number_is = refl;
        number_most = h.number_most;
        not_earlier = h.not_earlier;
        time_fits = h.time_read.fits;
        idr_most = h.idr_read.most;
        deltas_most = omega (arith, h.deltas_read.count, h.count_most);
        deltas_between = h.deltas_read.between;
        audio_most = omega (arith, h.units_read.count, h.sounds_most);
        silent = λ none. h.units_read.count ∙ h.silent none;
        audio_whole = h.units_read.whole;
      };
      holds = record { idr = h.idr_read.holds; deltas = h.deltas_read.hold; audio = h.units_read.hold };
      held_is = omega (arith, h.deltas_read.held_is, heard, heard_many);
      room = h.deltas_read.room;
      spelled = h.time_read.spelled
          ∙ ap (λ (l : List ℕ). little_bytes 4 time.0 ++ l) (counts_spelled ∙ ap (λ (l : List ℕ). sounds.0 ∷ count.0 ∷ l) units_spelled)
          ∙ ap (λ (n : ℕ). little_bytes 4 time.0 ++ (n ∷ count.0 ∷ behind_counts)) (sym h.units_read.count)
          ∙ ap (λ (n : ℕ). little_bytes 4 time.0 ++ (length units.0 ∷ n ∷ behind_counts)) (sym h.deltas_read.count);
      bytes = h.units_read.bytes;
    }

pub tick_gives : (size audio : ℕ) (before : Before) (rest : List ℕ) → before.number ≤ most_ticks → AreBytes rest
    → Gives (IsTick audio before rest) (tick_at size audio before rest)
unfolding tick_at
tick_gives size audio before rest most are =
    let T = IsTick audio before rest in
    gives_then (IsNumber 4 rest) T (number_at size 4 rest) _ (number_gives size 4 rest are) (λ time ht.
    gives_then (λ left. (before.time ≤ time.0) × (left ≡ time.1)) T (unless (nat_lt time.0 before.time) (Malformed 3 (size - length rest)) (Ok time.1)) _
    (gives_unless (λ left. (before.time ≤ time.0) × (left ≡ time.1)) (nat_lt time.0 before.time) (Malformed 3 (size - length rest)) (Ok time.1)
    (λ e. (ltb-false time.0 before.time e, refl))) (λ later hl.
    gives_then (IsNumber 1 later) T (number_at size 1 later) _ (number_gives size 1 later (subst AreBytes (sym hl.1) ht.bytes)) (λ sounds hs.
    gives_then (λ left. (sounds.0 ≤ most_count) × (audio ≡ 0 → sounds.0 ≡ 0) × (left ≡ sounds.1)) T
    (unless (nat_lt most_count sounds.0 || (not (sounds.0 == 0) && audio == 0)) (Malformed 4 (size - length later)) (Ok sounds.1)) _
    (gives_unless (λ left. (sounds.0 ≤ most_count) × (audio ≡ 0 → sounds.0 ≡ 0) × (left ≡ sounds.1))
    (nat_lt most_count sounds.0 || (not (sounds.0 == 0) && audio == 0))
    (Malformed 4 (size - length later)) (Ok sounds.1)
    (λ e. let parts = or_parts (nat_lt most_count sounds.0) (not (sounds.0 == 0) && audio == 0) e in
    (ltb-false most_count sounds.0 parts.0, silent_is sounds.0 audio parts.1, refl))) (λ few hf.
    gives_then (λ left. left ≡ sounds.1) T (unless (nat_lt most_bytes (before.held + sounds.0 * audio)) (Full before.number) (Ok few)) _
    (gives_unless (λ left. left ≡ sounds.1) (nat_lt most_bytes (before.held + sounds.0 * audio)) (Full before.number) (Ok few) (λ e. hf.2)) (λ room hr.
    gives_then (IsNumber 1 room) T (number_at size 1 room) _ (number_gives size 1 room (subst AreBytes (sym hr) hs.bytes)) (λ count hc.
    gives_then (λ left. (count.0 ≤ most_count) × (left ≡ count.1)) T (unless (nat_lt most_count count.0) (Malformed 4 (size - length room)) (Ok count.1)) _
    (gives_unless (λ left. (count.0 ≤ most_count) × (left ≡ count.1)) (nat_lt most_count count.0) (Malformed 4 (size - length room)) (Ok count.1)
    (λ e. (ltb-false most_count count.0 e, refl))) (λ counted hk.
    gives_then (IsUnit (before.held + sounds.0 * audio) counted) T (unit_at size before.number (before.held + sounds.0 * audio) counted) _
    (unit_gives size before.number (before.held + sounds.0 * audio) counted (subst AreBytes (sym hk.1) hc.bytes)) (λ idr hi.
    gives_then (AreDeltas count.0 0 before.number (before.held + sounds.0 * audio + length idr.0) idr.1) T
    (deltas_at count.0 size (record { number = before.number; named = 0; held = before.held + sounds.0 * audio + length idr.0 }) idr.1) _
    (deltas_give count.0 size before.number 0 (before.held + sounds.0 * audio + length idr.0) idr.1 hi.room hi.bytes) (λ deltas hd.
    gives_then (AreSounds sounds.0 audio deltas.1.1) T (audio_at sounds.0 size audio deltas.1.1) _ (sounds_give sounds.0 size audio deltas.1.1 hd.bytes)
    (λ units hu.
    is_tick audio before rest time sounds count later room counted idr deltas units (record {
      number_most = most;
      time_read = ht;
      not_earlier = hl.0;
      later_is = hl.1;
      sounds_read = hs;
      sounds_most = hf.0;
      silent = hf.1;
      few_is = hr;
      count_read = hc;
      count_most = hk.0;
      counted_is = hk.1;
      idr_read = hi;
      deltas_read = hd;
      units_read = hu;
    })))))))))))

-- ---- all of them

-- the end mark, and nothing behind it
abbrev pub end : List ℕ
end = 0x45 ∷ []

-- The ticks read from here on are within the limits; without a fault, the bytes are theirs and then the end mark.
record AreTicks (audio : ℕ) (before : Before) (bytes : List ℕ) (r : ReadTape) : Type 0 where
  within : AreWithinLimits audio before.number before.time r.ticks
  hold : All HoldsBytes r.ticks
  spelled : r.fault ≡ None → bytes ≡ flat_map tick r.ticks ++ end
  room : r.fault ≡ None → before.held + sum_by unit_bytes r.ticks ≤ most_bytes

abbrev after : Before → Tick → ℕ → Before
after before t held = record { number = before.number + 1; time = t.time; held = held }

-- no ticks, and a fault
no_ticks : (audio : ℕ) (before : Before) (bytes : List ℕ) (fault : Fault) → AreTicks audio before bytes (ends_with (Some fault))
no_ticks audio before bytes fault = record { within = tt; hold = All-nil HoldsBytes; spelled = λ none. cc; room = λ none. cc }

with_tick_is : (audio : ℕ) (before : Before) (rest : List ℕ) (r : Result (Tick × (ℕ × List ℕ)) Fault) (next : Tick → ℕ → List ℕ → ReadTape)
    → Gives (IsTick audio before rest) r
    → ((t : Tick) (held : ℕ) (left : List ℕ) → held ≤ most_bytes → AreBytes left → AreTicks audio (after before t held) left (next t held left))
    → AreTicks audio before (0x54 ∷ rest) (with_tick r next)
with_tick_is audio before rest (Err e) next h keeps = no_ticks audio before (0x54 ∷ rest) e
with_tick_is audio before rest (Ok x) next h keeps =
    let more = keeps x.0 x.1.0 x.1.1 h.room h.bytes in
    let r = next x.0 x.1.0 x.1.1 in
    record {
      within = (h.within, more.within);
      hold = All-cons HoldsBytes x.0 r.ticks h.holds more.hold;
      spelled = λ none. ap (λ (l : List ℕ). 0x54 ∷ l) (h.spelled ∙ ap (tick_rest x.0) (more.spelled none))
          ∙ sym (tick-parts x.0 (flat_map tick r.ticks ++ end)) ∙ sym (append_assoc (tick x.0) (flat_map tick r.ticks) end);
      room = λ none. omega (arith, more.room none, h.held_is, sum_by-cons unit_bytes x.0 r.ticks);
    }

-- what the tag of a tick leads to
abbrev chosen : Bool → Bool → Bool → Bool → Fault → Fault → Fault → ReadTape → ReadTape
chosen end empty tag full behind many other next =
    elim end [
      | true ↦ elim empty [ true ↦ ends_with None | false ↦ ends_with (Some behind) ]
      | false ↦ elim tag [
        | true ↦ elim full [ true ↦ ends_with (Some many) | false ↦ next ]
        | false ↦ ends_with (Some other)
      ]
    ]

chosen_is : (audio : ℕ) (before : Before) (bytes : List ℕ) (is_end empty tag full : Bool) (behind many other : Fault) (next : ReadTape)
    → before.held ≤ most_bytes → (is_end ≡ true → empty ≡ true → bytes ≡ end) → (tag ≡ true → full ≡ false → AreTicks audio before bytes next)
    → AreTicks audio before bytes (chosen is_end empty tag full behind many other next)
chosen_is audio before bytes true true tag full behind many other next room last h =
    record { within = tt; hold = All-nil HoldsBytes; spelled = λ none. last refl refl; room = λ none. omega (arith, room) }
chosen_is audio before bytes true false tag full behind many other next room last h = no_ticks audio before bytes behind
chosen_is audio before bytes false empty true true behind many other next room last h = no_ticks audio before bytes many
chosen_is audio before bytes false empty true false behind many other next room last h = h refl refl
chosen_is audio before bytes false empty false full behind many other next room last h = no_ticks audio before bytes other

empty_is : (rest : List ℕ) → (length rest == 0) ≡ true → rest ≡ []
empty_is [] e = refl
empty_is (b ∷ rest) e = let none : length (b ∷ rest) ≡ 0 = eqb-true (length (b ∷ rest)) 0 e in absurd (omega arith)

ticks_are : (steps size audio : ℕ) (before : Before) (bytes : List ℕ) → before.held ≤ most_bytes → AreBytes bytes
    → AreTicks audio before bytes (ticks_at steps size audio before bytes)
unfolding ticks_at
ticks_are zero size audio before bytes room are = no_ticks audio before bytes (Malformed 6 size)
ticks_are (suc steps) size audio before [] room are = no_ticks audio before [] (Malformed 6 size)
ticks_are (suc steps) size audio before (tag ∷ rest) room are =
    let behind : AreBytes rest = λ i. are (suc i) in
    let next : ReadTape = with_tick (tick_at size audio before rest) (λ t held left. ticks_at steps size audio (after before t held) left) in
    let Ticks : ℕ → Type 0 = λ b. AreTicks audio before (b ∷ rest) next in
    chosen_is audio before (tag ∷ rest) (tag == 0x45) (length rest == 0) (tag == 0x54) (nat_lt most_ticks before.number)
    (Malformed 7 (size - length rest)) (Full before.number) (Malformed 2 (size - suc (length rest))) next room
    (λ is_end empty. ap (λ (b : ℕ). b ∷ rest) (eqb-true tag 0x45 is_end) ∙ ap (λ (l : List ℕ). 0x45 ∷ l) (empty_is rest empty))
    (λ is_tick few. subst Ticks (sym (eqb-true tag 0x54 is_tick))
    (with_tick_is audio before rest (tick_at size audio before rest) (λ t held left. ticks_at steps size audio (after before t held) left)
    (tick_gives size audio before rest (ltb-false most_ticks before.number few) behind)
    (λ t held left fits bs. ticks_are steps size audio (after before t held) left fits bs)))

-- ---- the head

text_gives : (size : ℕ) (text rest : List ℕ) → AreBytes rest → Gives (λ left. (rest ≡ text ++ left) × AreBytes left) (text_at size text rest)
unfolding text_at
text_gives size [] rest are = (refl, are)
text_gives size (c ∷ cs) [] are = tt
text_gives size (c ∷ cs) (b ∷ bs) are =
    let Is : List ℕ → Type 0 = λ left. (b ∷ bs ≡ c ∷ cs ++ left) × AreBytes left in
    gives_unless Is (not (b == c)) (Malformed 1 (size - suc (length bs))) (text_at size cs bs)
    (λ e. gives_weaker (λ left. (bs ≡ cs ++ left) × AreBytes left) Is (text_at size cs bs) (text_gives size cs bs (λ i. are (suc i)))
    (λ left h. (ap (λ (x : ℕ). x ∷ bs) (eqb-true b c (not-false (b == c) e)) ∙ ap (λ (l : List ℕ). c ∷ l) h.0, h.1)))

pub record IsHead (file : List ℕ) (h : CaptureHead × List ℕ) : Type 0 where
  pub audio_most : h.0.audio ≤ most_audio
  pub duration_known : (h.0.duration ≡ 5) ⊎ (h.0.duration ≡ 10)
  pub spelled : file ≡ head h.0.audio h.0.duration ++ h.1
  pub bytes : AreBytes h.1

known_is : (duration : ℕ) → not (duration == 5 || duration == 10) ≡ false → (duration ≡ 5) ⊎ (duration ≡ 10)
known_is duration e = elim (or_cases (duration == 5) (duration == 10) (not-false (duration == 5 || duration == 10) e)) [
  | inl short ↦ inl (eqb-true duration 5 short)
  | inr long ↦ inr (eqb-true duration 10 long)
]

pub head_gives : (size : ℕ) (bytes : List ℕ) → AreBytes bytes → Gives (IsHead bytes) (head_at size bytes)
unfolding head_at
head_gives size bytes are =
    let H = IsHead bytes in
    gives_then (λ left. (bytes ≡ codes "GSTAPE01" ++ left) × AreBytes left) H (text_at size (codes "GSTAPE01") bytes) _
    (text_gives size (codes "GSTAPE01") bytes are) (λ rest hr.
    gives_then (IsNumber 2 rest) H (number_at size 2 rest) _ (number_gives size 2 rest hr.1) (λ audio ha.
    gives_then (λ left. (audio.0 ≤ most_audio) × (left ≡ audio.1)) H (unless (nat_lt most_audio audio.0) (AudioLength audio.0) (Ok audio.1)) _
    (gives_unless (λ left. (audio.0 ≤ most_audio) × (left ≡ audio.1)) (nat_lt most_audio audio.0) (AudioLength audio.0) (Ok audio.1)
    (λ e. (ltb-false most_audio audio.0 e, refl))) (λ within hw.
    gives_then (IsNumber 1 within) H (number_at size 1 within) _ (number_gives size 1 within (subst AreBytes (sym hw.1) ha.bytes)) (λ duration hd.
    gives_then (λ left. ((duration.0 ≡ 5) ⊎ (duration.0 ≡ 10)) × (left ≡ duration.1)) H
    (unless (not (duration.0 == 5 || duration.0 == 10)) (Malformed 1 (size - length within)) (Ok duration.1)) _
    (gives_unless (λ left. ((duration.0 ≡ 5) ⊎ (duration.0 ≡ 10)) × (left ≡ duration.1)) (not (duration.0 == 5 || duration.0 == 10))
    (Malformed 1 (size - length within)) (Ok duration.1)
    (λ e. (known_is duration.0 e, refl))) (λ known hk.
    gives_then (IsNumber 1 known) H (number_at size 1 known) _ (number_gives size 1 known (subst AreBytes (sym hk.1) hd.bytes)) (λ last hl.
    gives_unless H (not (last.0 == 0)) (Malformed 1 (size - length known)) (Ok (record { audio = audio.0; duration = duration.0 }, last.1))
    (λ e. record {
      audio_most = hw.0;
      duration_known = hk.0;
      spelled = hr.0 ∙ ap (λ (l : List ℕ). codes "GSTAPE01" ++ l) (ha.spelled ∙ ap (λ (l : List ℕ). little_bytes 2 audio.0 ++ l)
          (sym hw.1 ∙ hd.spelled ∙ byte_spells duration.0 duration.1 hd.fits ∙ ap (λ (l : List ℕ). duration.0 ∷ l)
          (sym hk.1 ∙ hl.spelled ∙ byte_spells last.0 last.1 hl.fits ∙ ap (λ (b : ℕ). b ∷ last.1) (eqb-true last.0 0 (not-false (last.0 == 0) e)))));
      bytes = hl.bytes;
    })))))))

-- ---- the file

pub AreBytes-from_All : (xs : List ℕ) → All (λ b. b < 2 ^ 8) xs → AreBytes xs
AreBytes-from_All xs all i = elim (cases_lt i (length xs)) [
  | inl within ↦ all i 0 within
  | inr past ↦ let Below : ℕ → Type 0 = λ x. x < 256 in subst Below (sym (get_or_past xs i 0 past)) (omega arith)
]

-- what is read of a file, by what is read of its head
record IsReadOf (bytes : List ℕ) (h : Result (CaptureHead × List ℕ) Fault) (r : ReadTape) : Type 0 where
  within : AreWithinLimits (audio_of_head h) 1 0 r.ticks
  hold : All HoldsBytes r.ticks
  audio_most : audio_of_head h ≤ most_audio
  spelled : r.fault ≡ None → bytes ≡ file (audio_of_head h) (duration_of_head h) r.ticks
  writable : r.fault ≡ None → AreWritable (audio_of_head h) (duration_of_head h) r.ticks

behind_is : (size : ℕ) (bytes : List ℕ) (h : Result (CaptureHead × List ℕ) Fault) → Gives (IsHead bytes) h → IsReadOf bytes h (read_behind size h)
behind_is size bytes (Err e) is =
    record { within = tt; hold = All-nil HoldsBytes; audio_most = omega arith; spelled = λ none. cc; writable = λ none. cc }
behind_is size bytes (Ok h) is =
    let r = ticks_at size size h.0.audio before_first h.1 in
    let ticks = ticks_are size size h.0.audio before_first h.1 (omega arith) is.bytes in
    record {
      within = ticks.within;
      hold = ticks.hold;
      audio_most = is.audio_most;
      spelled = λ none. is.spelled ∙ ap (λ (l : List ℕ). head h.0.audio h.0.duration ++ l) (ticks.spelled none)
          ∙ sym (append_assoc (head h.0.audio h.0.duration) (flat_map tick r.ticks) end);
      writable = λ none. record {
        audio_most = is.audio_most;
        duration_known = is.duration_known;
        within = ticks.within;
        bytes_most = omega (arith, ticks.room none);
      };
    }

read_is : (bytes : List ℕ) → All (λ b. b < 2 ^ 8) bytes → IsReadOf bytes (head_at (length bytes) bytes) (read_tape bytes)
unfolding read_tape
read_is bytes all =
    behind_is (length bytes) bytes (head_at (length bytes) bytes) (head_gives (length bytes) bytes (AreBytes-from_All bytes all))

-- the ticks of any bytes keep the limits
pub ticks_keep_limits : TicksKeepLimits
ticks_keep_limits bytes all = (read_is bytes all).within

-- the units of these ticks are lists of bytes
pub ticks_hold_bytes : TicksHoldBytes
ticks_hold_bytes bytes all = (read_is bytes all).hold

pub audio_length_keeps : AudioLengthKeepsLimit
audio_length_keeps bytes all = (read_is bytes all).audio_most

pub faultless_bytes_are_files : FaultlessBytesAreFiles
faultless_bytes_are_files bytes all none =
    let is = read_is bytes all in record { spelled = is.spelled none; writable = is.writable none }

-- the tick at a place
pub tick_at_place : (audio number time : ℕ) (ts : List Tick) (i : ℕ) (t : Tick) → AreWithinLimits audio number time ts → slice_get ts i ≡ Some t
    → IsTickWithinLimits audio (number + i) t
tick_at_place audio number time [] i t within e = cc
tick_at_place audio number time (x ∷ ts) zero t within e =
    let same : x ≡ t = cc in
    let place : number ≡ number + 0 = omega arith in
    let Within : Tick → Type 0 = IsTickWithinLimits audio number in
    let Placed : ℕ → Type 0 = λ n. IsTickWithinLimits audio n t in
    subst Placed place (subst Within same (record { before = time; within = within.0 }))
tick_at_place audio number time (x ∷ ts) (suc i) t within e =
    let place : number + 1 + i ≡ number + suc i = omega arith in
    let Placed : ℕ → Type 0 = λ n. IsTickWithinLimits audio n t in
    subst Placed place (tick_at_place audio (number + 1) x.time ts i t within.1 e)

-- the tick of a number
pub tick_of_number : (audio k : ℕ) (ts : List Tick) (t : Tick) → AreWithinLimits audio 1 0 ts → tick_numbered ts k ≡ Some t → IsTickWithinLimits audio k t
tick_of_number audio zero ts t within e = cc
tick_of_number audio (suc i) ts t within e =
    let place : 1 + i ≡ suc i = omega arith in
    let Placed : ℕ → Type 0 = λ n. IsTickWithinLimits audio n t in
    subst Placed place (tick_at_place audio 1 0 ts i t within e)

pub each_tick_keeps : EachTickIsWithinLimits
each_tick_keeps bytes k t all e = tick_of_number (audio_length bytes) k (ticks_of bytes) t (ticks_keep_limits bytes all) e
