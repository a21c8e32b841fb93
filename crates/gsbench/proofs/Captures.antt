-- The ticks of a capture file, read one after another, and the captures that numbers generate.
use Rattle.std.proofs.Common.{◌≡◌, ◌+◌, ◌*◌, ◌%◌, ◌^◌, ◌<◌, ◌≤◌, ℕ, zero, suc, List, [], ◌∷◌, ◌++◌, Option, Some, None, Result, Ok, length, refl, sym, ap}
use Rattle.std.proofs.Common.{subst, ◌∙◌, arith, append_assoc}
use Rattle.std.specs.List.{fold, sum_by}
use Rattle.std.specs.Io.KnownBytes.{Appends}
use Rattle.std.proofs.lemmas.List.{append-nil}
use Rattle.std.proofs.lemmas.List.FromFn.{length-map-range_with_len}
use Rattle.std.proofs.Math.Nat.{le-mul_of_pos_right, mul-le-mul_right}
use Rattle.std.proofs.lemmas.List.Sums.{sum_by-append, sum_by-cons, fold-append}
use Rattle.gs_tape.specs.declared.error.TapeError.{TapeError}
use Rattle.gs_tape.specs.Tick.{Tick, unit_bytes}
use Rattle.gs_tape.specs.Capture.{file}
use Rattle.gs_tape.specs.Limits.{most_bytes}
use Rattle.gs_tape.specs.Reading.{ReadTape, read_tape, ticks_of}
use Rattle.gs_tape.specs.Tape.{IsFirstTick}
use Rattle.gs_tape.specs.Generated.{generated, draw, next_state, ticks_from, tick, unit_from, drawn_unit}
use Rattle.gs_tape.proofs.GeneratedWithin.{generated_is_writable}
use Rattle.gs_tape.proofs.WrittenFiles.{files_are_read}
use Rattle.gsbench.specs.Ticks.{last_unit}

-- ---- what was read so far

-- Ticks in front were read, whose units have so many bytes and of which the last has this IDR unit, and the others are
-- still to be read.
pub record ReadSoFar (bytes : List ℕ) (units : ℕ) (last : List ℕ) (left : Option ReadTape) : Type 0 where
  front : List Tick
  rest : ReadTape
  left_is : left ≡ Some rest
  parts : front ++ rest.ticks ≡ ticks_of bytes
  units_is : units ≡ sum_by unit_bytes front
  last_is : last ≡ last_unit front

abbrev pub gave : Tick → Result (Option Tick) TapeError
gave t = Ok (Some t)

abbrev pub ended : Result (Option Tick) TapeError
ended = Ok None

pub none_yet : (bytes last : List ℕ) (left : Option ReadTape) → left ≡ Some (read_tape bytes) → last ≡ [] → ReadSoFar bytes 0 last left
none_yet bytes last left is empty =
    record { front = []; rest = read_tape bytes; left_is = is; parts = refl; units_is = refl; last_is = empty }

-- the reading goes on by the tick that was read
pub one_more : (bytes last : List ℕ) (units : ℕ) (left after : Option ReadTape) (r : Result (Option Tick) TapeError) (t : Tick)
    → r ≡ gave t → ReadSoFar bytes units last left → IsFirstTick left after r → ReadSoFar bytes (units + unit_bytes t) t.idr after
one_more bytes last units left after r t given so_far first =
    let Is : Option ReadTape → Type 0 = λ x. IsFirstTick x after (gave t) in
    let Of : Result (Option Tick) TapeError → Type 0 = λ x. IsFirstTick left after x in
    let h = subst Is so_far.left_is (subst Of given first) in
    record {
      front = so_far.front ++ t ∷ [];
      rest = h.0;
      left_is = h.1;
      parts = append_assoc so_far.front (t ∷ []) h.0.ticks ∙ ap (λ (r : ReadTape). so_far.front ++ r.ticks) (sym h.2) ∙ so_far.parts;
      units_is = omega (arith, so_far.units_is, sum_by-append unit_bytes so_far.front (t ∷ []), sum_by-cons unit_bytes t []);
      last_is = sym (fold-append (λ (unit : List ℕ) (x : Tick). x.idr) [] so_far.front (t ∷ []));
    }

-- the bytes of the units so far are no more than those of all
pub no_more_than_all : (bytes last : List ℕ) (units : ℕ) (left : Option ReadTape) → ReadSoFar bytes units last left
    → units ≤ sum_by unit_bytes (ticks_of bytes)
no_more_than_all bytes last units left so_far =
    let all : sum_by unit_bytes (so_far.front ++ so_far.rest.ticks) ≡ sum_by unit_bytes (ticks_of bytes) = ap (sum_by unit_bytes) so_far.parts in
    omega (arith, so_far.units_is, all, sum_by-append unit_bytes so_far.front so_far.rest.ticks)

pub adds_no_more : (bytes last : List ℕ) (units : ℕ) (left after : Option ReadTape) (r : Result (Option Tick) TapeError) (t : Tick)
    → r ≡ gave t → ReadSoFar bytes units last left → IsFirstTick left after r → units + unit_bytes t ≤ sum_by unit_bytes (ticks_of bytes)
adds_no_more bytes last units left after r t given so_far first =
    no_more_than_all bytes t.idr (units + unit_bytes t) after (one_more bytes last units left after r t given so_far first)

-- how many ticks are still to be read
abbrev pub ticks_left : Option ReadTape → ℕ
ticks_left None = 0
ticks_left (Some rest) = length rest.ticks

pub fewer_left : (bytes last : List ℕ) (units : ℕ) (left after : Option ReadTape) (r : Result (Option Tick) TapeError) (t : Tick)
    → r ≡ gave t → ReadSoFar bytes units last left → IsFirstTick left after r → ticks_left after < ticks_left left
fewer_left bytes last units left after r t given so_far first =
    let Is : Option ReadTape → Type 0 = λ x. IsFirstTick x after (gave t) in
    let Of : Result (Option Tick) TapeError → Type 0 = λ x. IsFirstTick left after x in
    let h = subst Is so_far.left_is (subst Of given first) in
    let later : ticks_left after ≡ length h.0.ticks = ap ticks_left h.1 in
    let now : ticks_left left ≡ length so_far.rest.ticks = ap ticks_left so_far.left_is in
    let more : length so_far.rest.ticks ≡ suc (length h.0.ticks) = ap (λ (r : ReadTape). length r.ticks) h.2 in
    omega (arith, later, now, more)

-- at the end all are read
pub all_read : (bytes last : List ℕ) (units : ℕ) (left after : Option ReadTape) (r : Result (Option Tick) TapeError)
    → r ≡ ended → ReadSoFar bytes units last left → IsFirstTick left after r
    → (units ≡ sum_by unit_bytes (ticks_of bytes)) × (last ≡ last_unit (ticks_of bytes))
all_read bytes last units left after r given so_far first =
    let Is : Option ReadTape → Type 0 = λ x. IsFirstTick x after ended in
    let Of : Result (Option Tick) TapeError → Type 0 = λ x. IsFirstTick left after x in
    let h = subst Is so_far.left_is (subst Of given first) in
    let none : so_far.rest.ticks ≡ [] = ap (λ (r : ReadTape). r.ticks) h in
    let all : so_far.front ≡ ticks_of bytes =
    sym (append-nil so_far.front) ∙ ap (λ (l : List Tick). so_far.front ++ l) (sym none) ∙ so_far.parts in
    (so_far.units_is ∙ ap (sum_by unit_bytes) all, so_far.last_is ∙ ap last_unit all)

-- ---- generated captures

-- a file that was written of generated ticks is read as these
pub generated_read : (number ticks : ℕ) (written : List ℕ) → ticks ≤ 2000 → Appends (Some []) (Some written) (file 240 5 (generated number ticks))
    → ticks_of written ≡ generated number ticks
generated_read number ticks written most done =
    let ts : List Tick = generated number ticks in
    ap ticks_of done ∙ ap (λ (r : ReadTape). r.ticks) (files_are_read 240 5 ts (generated_is_writable number ticks most))

pub generated_most : (number ticks : ℕ) → ticks ≤ 2000 → sum_by unit_bytes (generated number ticks) ≤ most_bytes
generated_most number ticks most = (generated_is_writable number ticks most).bytes_most

long_idr : (t s : ℕ) → 100000 ≤ length (tick t s).value.idr
unfolding tick unit_from drawn_unit
long_idr t s =
    let long = 100000 + draw s % 20000 in
    let is = length-map-range_with_len (λ (i : ℕ). (draw (next_state s) % 251 + i) % 251) 0 long in
    omega (arith, is)

pub generated_some : (number ticks : ℕ) → 1 ≤ ticks → 0 < sum_by unit_bytes (generated number ticks)
unfolding ticks_from
generated_some number zero some = absurd (omega (arith, some))
generated_some number (suc n) some =
    let t : Tick = (tick 1 number).value in
    omega (arith, long_idr 1 number, sum_by-cons unit_bytes t (ticks_from n 2 (tick 1 number).state))

-- ---- how many bytes all turns go through

pub product_fits : (u c : ℕ) → u ≤ most_bytes → c < 2 ^ 32 → u * c < 2 ^ 64
product_fits u c most low = let product : u * c ≤ most_bytes * c = mul-le-mul_right c most in omega (arith, product, low)

pub product_some : (u c : ℕ) → 0 < u → 1 ≤ c → 0 < u * c
product_some u c some once = let product : u ≤ u * c = le-mul_of_pos_right u once in omega (arith, product, some)
