-- A capture file that was written is read as the ticks that it was written of.
use Rattle.std.proofs.Common.{◌≡◌, ◌⊎◌, ◌<◌, ◌≤◌, ◌+◌, ◌-◌, ◌*◌, ℕ, zero, suc, Bool, true, false, not, ◌&&◌, ◌||◌, List, [], ◌∷◌, ◌++◌, length, Some, None}
use Rattle.std.proofs.Common.{Result, Ok, refl, sym, ap, subst, ◌∙◌, arith, inl, inr, append_assoc, length-append}
use Rattle.std.specs.Prelude.{nat_lt, ◌==◌, codes}
use Rattle.std.specs.List.{flat_map, concat, sum_by}
use Rattle.std.proofs.lemmas.Bool.{le-ltb, or_from, cases_eq, eq-eqb, ne_eqb, and_right}
use Rattle.std.proofs.lemmas.List.Elements.{recursion_from_All}
use Rattle.std.proofs.lemmas.List.Sums.{sum_by-cons}
use Rattle.byteorder.specs.Endian.{little_bytes, little_number}
use Rattle.gs_tape.specs.Tick.{Tick}
use Rattle.gs_tape.specs.Capture.{head, unit, delta, tick, file}
use Rattle.gs_tape.specs.Reading.{Fault, Malformed, Full, AudioLength, unless, number_at, text_at, head_at, most_bytes, most_count, most_ticks, most_audio}
use Rattle.gs_tape.specs.Reading.{unit_at, deltas_at, audio_at, Before, tick_at, ends_with, and_then, with_tick, ticks_at, before_first, read_behind, read_tape}
use Rattle.gs_tape.specs.Limits.{IsWithinLimits, AreWithinLimits, AreWritable}
use Rattle.gs_tape.specs.Tick.{unit_bytes}
use Rattle.gs_tape.proofs.Readings.{delta_bytes}
use Rattle.gs_tape.proofs.Ticks.{tick_rest, tick-parts, audio_bytes, end}
use Rattle.gs_tape.proofs.Written.{then_ok, unless_ok, number_read, unit_read, deltas_read, sounds_read}

byte_read : (size x : ℕ) (rest : List ℕ) → x < 256 → number_at size 1 (x ∷ rest) ≡ Ok (x, rest)
byte_read size x rest fits =
    let same : x + 0 ≡ x = omega arith in
    unless_ok (nat_lt (length (x ∷ rest)) 1) (Malformed 6 size) (Ok (little_number 1 (x ∷ rest), rest)) (le-ltb (length (x ∷ rest)) 1 (omega arith))
    ∙ ap (λ (n : ℕ). Ok (n, rest)) same

no_sound : (n audio : ℕ) → (audio ≡ 0 → n ≡ 0) → (not (n == 0) && audio == 0) ≡ false
no_sound n audio silent = elim (cases_eq audio 0) [
  | inl none ↦ rw (eq-eqb n 0 (silent none)) refl
  | inr some ↦ and_right (not (n == 0)) (audio == 0) (ne_eqb audio 0 some)
]

tick_read : (size audio : ℕ) (before : Before) (t : Tick) (rest : List ℕ) → IsWithinLimits audio before.number before.time t
    → before.held + unit_bytes t ≤ most_bytes
    → tick_at size audio before (tick_rest t rest) ≡ Ok (t, (before.held + unit_bytes t, rest))
unfolding tick_at
tick_read size audio before t rest is room =
    let behind_deltas : List ℕ = concat t.audio ++ rest in
    let behind_idr : List ℕ = flat_map delta t.deltas ++ behind_deltas in
    let behind_counts : List ℕ = unit t.idr ++ behind_idr in
    let sounds = length t.audio in
    let count = length t.deltas in
    let all = recursion_from_All (λ u. length u ≡ audio) t.audio is.audio_whole in
    let heard = audio_bytes audio t.audio all in
    let few : sounds ≤ most_count = is.audio_most in
    let counted : count ≤ most_count = is.deltas_most in
    let sums : before.held + sounds * audio + length t.idr + delta_bytes t.deltas ≡ before.held + unit_bytes t = omega (arith, heard) in
    then_ok (number_at size 4 (tick_rest t rest)) (t.time, sounds ∷ count ∷ behind_counts) _ _
    (number_read size 4 t.time (sounds ∷ count ∷ behind_counts) is.time_fits)
    (then_ok (unless (nat_lt t.time before.time) (Malformed 3 (size - length (tick_rest t rest))) (Ok (sounds ∷ count ∷ behind_counts)))
    (sounds ∷ count ∷ behind_counts) _ _
    (unless_ok (nat_lt t.time before.time) (Malformed 3 (size - length (tick_rest t rest))) (Ok (sounds ∷ count ∷ behind_counts))
    (le-ltb t.time before.time is.not_earlier))
    (then_ok (number_at size 1 (sounds ∷ count ∷ behind_counts)) (sounds, count ∷ behind_counts) _ _
    (byte_read size sounds (count ∷ behind_counts) (omega arith))
    (then_ok
    (unless (nat_lt most_count sounds || (not (sounds == 0) && audio == 0)) (Malformed 4 (size - length (sounds ∷ count ∷ behind_counts)))
    (Ok (count ∷ behind_counts))) (count ∷ behind_counts) _ _
    (unless_ok (nat_lt most_count sounds || (not (sounds == 0) && audio == 0)) (Malformed 4 (size - length (sounds ∷ count ∷ behind_counts)))
    (Ok (count ∷ behind_counts))
    (or_from (nat_lt most_count sounds) (not (sounds == 0) && audio == 0) (le-ltb most_count sounds few) (no_sound sounds audio is.silent)))
    (then_ok (unless (nat_lt most_bytes (before.held + sounds * audio)) (Full before.number) (Ok (count ∷ behind_counts))) (count ∷ behind_counts) _ _
    (unless_ok (nat_lt most_bytes (before.held + sounds * audio)) (Full before.number) (Ok (count ∷ behind_counts))
    (le-ltb most_bytes (before.held + sounds * audio) (omega (arith, sums, room))))
    (then_ok (number_at size 1 (count ∷ behind_counts)) (count, behind_counts) _ _ (byte_read size count behind_counts (omega arith))
    (then_ok (unless (nat_lt most_count count) (Malformed 4 (size - length (count ∷ behind_counts))) (Ok behind_counts)) behind_counts _ _
    (unless_ok (nat_lt most_count count) (Malformed 4 (size - length (count ∷ behind_counts))) (Ok behind_counts) (le-ltb most_count count counted))
    (then_ok (unit_at size before.number (before.held + sounds * audio) behind_counts) (t.idr, behind_idr) _ _
    (unit_read size before.number (before.held + sounds * audio) t.idr behind_idr is.idr_most (omega (arith, sums, room)))
    (then_ok (deltas_at count size (record { number = before.number; named = 0; held = before.held + sounds * audio + length t.idr }) behind_idr)
    (t.deltas, (before.held + sounds * audio + length t.idr + delta_bytes t.deltas, behind_deltas)) _ _
    (deltas_read size before.number 0 (before.held + sounds * audio + length t.idr) t.deltas behind_deltas is.number_most is.deltas_between
    (omega (arith, sums, room)))
    (then_ok (audio_at sounds size audio behind_deltas) (t.audio, rest) _ _ (sounds_read size audio t.audio rest all)
    (ap
    (λ (n : ℕ). Ok (
      record { number = n; time = t.time; idr = t.idr; deltas = t.deltas; audio = t.audio },
      (before.held + sounds * audio + length t.idr + delta_bytes t.deltas, rest),
    )) (sym is.number_is)
    ∙ ap (λ (n : ℕ). Ok (t, (n, rest))) sums))))))))))

-- ---- all ticks

abbrev after : Before → Tick → Before
after before t = record { number = before.number + 1; time = t.time; held = before.held + unit_bytes t }

ticks_read : (steps size audio : ℕ) (before : Before) (ts : List Tick) → suc (length ts) ≤ steps
    → AreWithinLimits audio before.number before.time ts → before.held + sum_by unit_bytes ts ≤ most_bytes
    → ticks_at steps size audio before (flat_map tick ts ++ end) ≡ record { ticks = ts; fault = None }
unfolding ticks_at
ticks_read zero size audio before ts enough within room = absurd (omega arith)
ticks_read (suc steps) size audio before [] enough within room = refl
ticks_read (suc steps) size audio before (t ∷ ts) enough within room =
    let rest : List ℕ = flat_map tick ts ++ end in
    let next = λ (x : Tick) (held : ℕ) (left : List ℕ). ticks_at steps size audio (record { number = before.number + 1; time = x.time; held = held }) left in
    let sums : before.held + unit_bytes t + sum_by unit_bytes ts ≡ before.held + sum_by unit_bytes (t ∷ ts) = omega (arith, sum_by-cons unit_bytes t ts) in
    let most : nat_lt most_ticks before.number ≡ false = le-ltb most_ticks before.number within.0.number_most in
    ap (ticks_at (suc steps) size audio before) (append_assoc (tick t) (flat_map tick ts) end ∙ tick-parts t rest)
    ∙ ap (λ (b : Bool). elim b [ true ↦ ends_with (Some (Full before.number)) | false ↦ with_tick (tick_at size audio before (tick_rest t rest)) next ]) most
    ∙ ap (λ (r : Result (Tick × (ℕ × List ℕ)) Fault). with_tick r next) (tick_read size audio before t rest within.0 (omega (arith, sums, room)))
    ∙ ap (and_then t) (ticks_read steps size audio (after before t) ts (omega arith) within.1 (omega (arith, sums, room)))

-- each tick has a byte at least
length-ticks : (ts : List Tick) (rest : List ℕ) → length ts + length rest ≤ length (flat_map tick ts ++ rest)
length-ticks [] rest = omega arith
length-ticks (t ∷ ts) rest =
    let more = length-ticks ts rest in
    let parts : length (flat_map tick (t ∷ ts) ++ rest) ≡ length (tick t) + length (flat_map tick ts ++ rest) =
    ap (λ (l : List ℕ). length l) (append_assoc (tick t) (flat_map tick ts) rest) ∙ length-append (tick t) (flat_map tick ts ++ rest) in
    let some : 1 ≤ length (tick t) = omega arith in
    omega (arith, parts)

-- ---- the file

duration_fits : (duration : ℕ) → (duration ≡ 5) ⊎ (duration ≡ 10) → (not (duration == 5 || duration == 10) ≡ false) × (duration < 256)
duration_fits duration known =
    let Fits : ℕ → Type 0 = λ d. (not (d == 5 || d == 10) ≡ false) × (d < 256) in
    elim known [ inl short ↦ subst Fits (sym short) (refl, omega arith) | inr long ↦ subst Fits (sym long) (refl, omega arith) ]

pub magic_read : (size : ℕ) (rest : List ℕ) → text_at size (codes "GSTAPE01") (codes "GSTAPE01" ++ rest) ≡ Ok rest
unfolding text_at
magic_read size rest = refl

head_read : (size audio duration : ℕ) (rest : List ℕ) → audio ≤ most_audio → (duration ≡ 5) ⊎ (duration ≡ 10)
    → head_at size (head audio duration ++ rest) ≡ Ok (record { audio = audio; duration = duration }, rest)
unfolding head_at
head_read size audio duration rest most known =
    let fits = duration_fits duration known in
    let behind_audio : List ℕ = duration ∷ 0 ∷ rest in
    then_ok (text_at size (codes "GSTAPE01") (head audio duration ++ rest)) (little_bytes 2 audio ++ behind_audio) _ _
    (magic_read size (little_bytes 2 audio ++ behind_audio))
    (then_ok (number_at size 2 (little_bytes 2 audio ++ behind_audio)) (audio, behind_audio) _ _ (number_read size 2 audio behind_audio (omega arith))
    (then_ok (unless (nat_lt most_audio audio) (AudioLength audio) (Ok behind_audio)) behind_audio _ _
    (unless_ok (nat_lt most_audio audio) (AudioLength audio) (Ok behind_audio) (le-ltb most_audio audio most))
    (then_ok (number_at size 1 behind_audio) (duration, 0 ∷ rest) _ _ (byte_read size duration (0 ∷ rest) fits.1)
    (then_ok (unless (not (duration == 5 || duration == 10)) (Malformed 1 (size - length behind_audio)) (Ok (0 ∷ rest))) (0 ∷ rest) _ _
    (unless_ok (not (duration == 5 || duration == 10)) (Malformed 1 (size - length behind_audio)) (Ok (0 ∷ rest)) fits.0)
    (then_ok (number_at size 1 (0 ∷ rest)) (0, rest) _ _ (byte_read size 0 rest (omega arith)) refl)))))

pub files_are_read : (audio duration : ℕ) (ticks : List Tick) → AreWritable audio duration ticks
    → read_tape (file audio duration ticks) ≡ record { ticks = ticks; fault = None }
unfolding read_tape
files_are_read audio duration ticks is =
    let bytes = file audio duration ticks in
    let parts : bytes ≡ head audio duration ++ (flat_map tick ticks ++ end) = append_assoc (head audio duration) (flat_map tick ticks) end in
    let size = length bytes in
    let long : length ticks + 1 ≤ length bytes =
    omega (arith, ap (λ (l : List ℕ). length l) parts, length-append (head audio duration) (flat_map tick ticks ++ end), length-ticks ticks end) in
    ap (λ (l : List ℕ). read_behind size (head_at size l)) parts
    ∙ ap (read_behind size) (head_read size audio duration (flat_map tick ticks ++ end) is.audio_most is.duration_known)
    ∙ ticks_read size size audio before_first ticks (omega (arith, long)) is.within (omega (arith, is.bytes_most))
