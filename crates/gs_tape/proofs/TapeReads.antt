-- What the bytes to come of an open file give.
use Rattle.std.proofs.Common.{inl, inr, ◌⊎◌, ◌≡◌, ◌≢◌, ◌+◌, ◌-◌, ◌<◌, ◌≤◌, ◌∷◌, ◌++◌, ℕ, zero, suc, Bool, true, false, Option, Some, None, Result, Ok, Err}
use Rattle.std.proofs.Common.{List, [], length, refl, sym, ap, subst, ◌∙◌, arith}
use Rattle.std.specs.Prelude.{nat_lt, ◌==◌, IfSome}
use Rattle.std.specs.Result.{IsErrAnd}
use Rattle.std.specs.Io.KnownBytes.{Consumes, IsAtEnd}
use Rattle.std.proofs.lemmas.Result.{err_from_is_err_and}
use Rattle.std.proofs.lemmas.Bool.{lt-ltb, le-ltb, ne_eqb}
use Rattle.gs_tape.specs.Tick.{Tick, unit_bytes}
use Rattle.gs_tape.specs.Limits.{most_ticks}
use Rattle.gs_tape.specs.Reading.{Fault, Malformed, Full, ◌>>=◌, Before, tick_at, ReadTape, ends_with, with_tick, and_then, ticks_at}
use Rattle.gs_tape.specs.declared.error.TapeError.{TapeError}
use Rattle.gs_tape.specs.declared.error.TapeError.TheVariants as error
use Rattle.gs_tape.specs.Errors.{fault_of}
use Rattle.gs_tape.specs.Steps.{tick}
use Rattle.gs_tape.specs.Streaming.{ReadsStep}
use Rattle.gs_tape.specs.Tape.{reading, to_read, known_behind, IsFirstTick}
use Rattle.gs_tape.proofs.Streams.{Fails}
use Rattle.gs_tape.proofs.SameSteps.{bind_of, tick_same, with_held}
use Rattle.gs_tape.proofs.Shrinks.{enough_steps, step_left}

-- ---- the bytes behind a tag

-- what a tag leads to
abbrev chosen : Bool → Bool → Bool → Bool → Fault → Fault → Fault → ReadTape → ReadTape
chosen end empty tag full behind many other next =
    elim end [
      | true ↦ elim empty [ true ↦ ends_with None | false ↦ ends_with (Some behind) ]
      | false ↦ elim tag [
        | true ↦ elim full [ true ↦ ends_with (Some many) | false ↦ next ]
        | false ↦ ends_with (Some other)
      ]
    ]

-- what is read behind the tag of a tick
abbrev rest_read : ℕ → ℕ → ℕ → Before → List ℕ → ReadTape
rest_read steps size audio before rest =
    with_tick (tick_at size audio before rest)
    (λ t held left. ticks_at steps size audio (record { number = before.number + 1; time = t.time; held = held }) left)

opened : (place audio tag : ℕ) (before : Before) (rest : List ℕ)
    → reading place audio before (tag ∷ rest)
    ≡ chosen (tag == 0x45) (length rest == 0) (tag == 0x54) (nat_lt most_ticks before.number)
    (Malformed 7 (place + suc (length rest) - length rest)) (Full before.number) (Malformed 2 (place + suc (length rest) - suc (length rest)))
    (rest_read (length rest) (place + suc (length rest)) audio before rest)
unfolding ticks_at
opened place audio tag before rest = refl

cut_read : (place audio : ℕ) (before : Before) → reading place audio before [] ≡ ends_with (Some (Malformed 6 place))
unfolding ticks_at
cut_read place audio before = let e : place + 0 ≡ place = omega arith in ap (λ (s : ℕ). ends_with (Some (Malformed 6 s))) e

pub end_read : (place audio : ℕ) (before : Before) → reading place audio before (0x45 ∷ []) ≡ ends_with None
end_read place audio before = opened place audio 0x45 before []

behind_read : (place audio b : ℕ) (before : Before) (rest : List ℕ)
    → reading place audio before (0x45 ∷ b ∷ rest) ≡ ends_with (Some (Malformed 7 (place + 1)))
behind_read place audio b before rest =
    let e : place + suc (length (b ∷ rest)) - length (b ∷ rest) ≡ place + 1 = omega arith in
    let some : (length (b ∷ rest) == 0) ≡ false = ne_eqb (length (b ∷ rest)) 0 (λ none. absurd (omega (arith, none))) in
    opened place audio 0x45 before (b ∷ rest)
    ∙ ap (λ (empty : Bool). elim empty [
      | true ↦ ends_with None
      | false ↦ ends_with (Some (Malformed 7 (place + suc (length (b ∷ rest)) - length (b ∷ rest))))
    ]) some
    ∙ ap (λ (p : ℕ). ends_with (Some (Malformed 7 p))) e

other_read : (place audio tag : ℕ) (before : Before) (rest : List ℕ) → tag ≢ 0x45 → tag ≢ 0x54
    → reading place audio before (tag ∷ rest) ≡ ends_with (Some (Malformed 2 place))
other_read place audio tag before rest no_end no_tick =
    let e : place + suc (length rest) - suc (length rest) ≡ place = omega arith in
    let next = rest_read (length rest) (place + suc (length rest)) audio before rest in
    let at : Bool → Bool → ReadTape = λ end is_tick. chosen end (length rest == 0) is_tick (nat_lt most_ticks before.number)
    (Malformed 7 (place + suc (length rest) - length rest)) (Full before.number)
    (Malformed 2 (place + suc (length rest) - suc (length rest))) next in
    opened place audio tag before rest
    ∙ ap (λ (end : Bool). at end (tag == 0x54)) (ne_eqb tag 0x45 no_end)
    ∙ ap (λ (is_tick : Bool). at false is_tick) (ne_eqb tag 0x54 no_tick)
    ∙ ap (λ (p : ℕ). ends_with (Some (Malformed 2 p))) e

full_read : (place audio : ℕ) (before : Before) (rest : List ℕ) → most_ticks < before.number
    → reading place audio before (0x54 ∷ rest) ≡ ends_with (Some (Full before.number))
full_read place audio before rest many =
    opened place audio 0x54 before rest
    ∙ ap (λ (full : Bool). elim full [
      | true ↦ ends_with (Some (Full before.number))
      | false ↦ rest_read (length rest) (place + suc (length rest)) audio before rest
    ]) (lt-ltb most_ticks before.number many)

few_read : (place audio : ℕ) (before : Before) (rest : List ℕ) → before.number ≤ most_ticks
    → reading place audio before (0x54 ∷ rest) ≡ rest_read (length rest) (place + suc (length rest)) audio before rest
few_read place audio before rest few =
    opened place audio 0x54 before rest
    ∙ ap (λ (full : Bool). elim full [
      | true ↦ ends_with (Some (Full before.number))
      | false ↦ rest_read (length rest) (place + suc (length rest)) audio before rest
    ]) (le-ltb most_ticks before.number few)

pub fault_read : (place audio : ℕ) (before : Before) (rest : List ℕ) (fault : Fault) → before.number ≤ most_ticks
    → tick audio before (place + suc (length rest)) rest ≡ Err fault
    → reading place audio before (0x54 ∷ rest) ≡ ends_with (Some fault)
fault_read place audio before rest fault few is =
    let size = place + suc (length rest) in
    let next : Tick → ℕ → List ℕ → ReadTape =
    λ t held left. ticks_at (length rest) size audio (record { number = before.number + 1; time = t.time; held = held }) left in
    let found : tick_at size audio before rest ≡ Err fault =
    sym (tick_same size audio before rest) ∙ bind_of (tick audio before size rest) (Err fault) (with_held before.held) is in
    few_read place audio before rest few ∙ ap (λ (r : Result (Tick × (ℕ × List ℕ)) Fault). with_tick r next) found

pub tick_read : (place place' audio : ℕ) (before : Before) (rest left : List ℕ) (t : Tick) → before.number ≤ most_ticks
    → tick audio before (place + 1 + length rest) rest ≡ Ok (t, left) → place + 1 + length rest ≡ place' + length left → length left ≤ length rest
    → reading place audio before (0x54 ∷ rest) ≡ and_then t (reading place' audio (known_behind before t) left)
tick_read place place' audio before rest left t few is size short =
    let whole = place + suc (length rest) in
    let same : place + 1 + length rest ≡ whole = omega arith in
    let next : Tick → ℕ → List ℕ → ReadTape =
    λ x held l. ticks_at (length rest) whole audio (record { number = before.number + 1; time = x.time; held = held }) l in
    let given : tick audio before whole rest ≡ Ok (t, left) = sym (ap (λ (s : ℕ). tick audio before s rest) same) ∙ is in
    let found : tick_at whole audio before rest ≡ Ok (t, (before.held + unit_bytes t, left)) =
    sym (tick_same whole audio before rest) ∙ bind_of (tick audio before whole rest) (Ok (t, left)) (with_held before.held) given in
    let sizes : whole ≡ place' + length left = sym same ∙ size in
    few_read place audio before rest few
    ∙ ap (λ (r : Result (Tick × (ℕ × List ℕ)) Fault). with_tick r next) found
    ∙ ap (λ (r : ReadTape). and_then t r)
    (enough_steps (length rest) (length left) whole audio (known_behind before t) left short (omega arith)
    ∙ ap (λ (s : ℕ). ticks_at (length left) s audio (known_behind before t) left) sizes)

-- ---- the first of what is to be read, where it is told

pub first_cut : (place audio : ℕ) (before : Before) (coming : Option (List ℕ)) (after : Option ReadTape) → IsAtEnd coming
    → IsFirstTick (to_read place audio before coming) after (Err (error.BadTape 6 place))
first_cut place audio before None after end = tt
first_cut place audio before (Some bytes) after end = ap (reading place audio before) end ∙ cut_read place audio before

pub first_end : (place audio tag : ℕ) (before : Before) (coming behind : Option (List ℕ)) (after : Option ReadTape)
    → Consumes coming behind (tag ∷ []) → tag ≡ 0x45 → IsAtEnd behind → IsFirstTick (to_read place audio before coming) after (Ok None)
first_end place audio tag before None behind after gone is end = tt
first_end place audio tag before (Some bytes) None after gone is end = absurd gone
first_end place audio tag before (Some bytes) (Some rest) after gone is end =
    ap (reading place audio before) (gone ∙ ap (λ (b : ℕ). b ∷ rest) is ∙ ap (λ (l : List ℕ). 0x45 ∷ l) end) ∙ end_read place audio before

pub first_behind : (place here audio tag b : ℕ) (before : Before) (coming behind left : Option (List ℕ)) (after : Option ReadTape)
    → Consumes coming behind (tag ∷ []) → tag ≡ 0x45 → Consumes behind left (b ∷ []) → here ≡ place + 1
    → IsFirstTick (to_read place audio before coming) after (Err (error.BadTape 7 here))
first_behind place here audio tag b before None behind left after gone is more moved = tt
first_behind place here audio tag b before (Some bytes) None left after gone is more moved = absurd gone
first_behind place here audio tag b before (Some bytes) (Some rest) None after gone is more moved = absurd more
first_behind place here audio tag b before (Some bytes) (Some rest) (Some left) after gone is more moved =
    ap (reading place audio before) (gone ∙ ap (λ (x : ℕ). x ∷ rest) is ∙ ap (λ (l : List ℕ). 0x45 ∷ l) more)
    ∙ behind_read place audio b before left ∙ ap (λ (p : ℕ). ends_with (Some (Malformed 7 p))) (sym moved)

pub first_other : (place audio tag : ℕ) (before : Before) (coming behind : Option (List ℕ)) (after : Option ReadTape)
    → Consumes coming behind (tag ∷ []) → tag ≢ 0x45 → tag ≢ 0x54
    → IsFirstTick (to_read place audio before coming) after (Err (error.BadTape 2 place))
first_other place audio tag before None behind after gone no_end no_tick = tt
first_other place audio tag before (Some bytes) None after gone no_end no_tick = absurd gone
first_other place audio tag before (Some bytes) (Some rest) after gone no_end no_tick =
    ap (reading place audio before) gone ∙ other_read place audio tag before rest no_end no_tick

pub first_full : (place audio tag : ℕ) (before : Before) (coming behind : Option (List ℕ)) (after : Option ReadTape)
    → Consumes coming behind (tag ∷ []) → tag ≡ 0x54 → most_ticks < before.number
    → IsFirstTick (to_read place audio before coming) after (Err (error.TapeFull before.number))
first_full place audio tag before None behind after gone is many = tt
first_full place audio tag before (Some bytes) None after gone is many = absurd gone
first_full place audio tag before (Some bytes) (Some rest) after gone is many =
    ap (reading place audio before) (gone ∙ ap (λ (b : ℕ). b ∷ rest) is) ∙ full_read place audio before rest many

pub first_failed : (place here audio tag : ℕ) (before : Before) (coming behind left : Option (List ℕ)) (after : Option ReadTape) (e : TapeError)
    → Consumes coming behind (tag ∷ []) → tag ≡ 0x54 → before.number ≤ most_ticks → here ≡ place + 1
    → Fails (tick audio before) behind left here e → IsFirstTick (to_read place audio before coming) after (Err e)
first_failed place here audio tag before None behind left after e gone is few moved failed = tt
first_failed place here audio tag before (Some bytes) None left after e gone is few moved failed = absurd gone
first_failed place here audio tag before (Some bytes) (Some rest) left after e gone is few moved failed =
    by_fault (fault_of e) failed.known
  where
    by_fault : (o : Option Fault) → IfSome o (λ fault. tick audio before (here + length rest) rest ≡ Err fault)
        → IfSome o (λ fault. reading place audio before bytes ≡ ends_with (Some fault))
    by_fault None known = tt
    by_fault (Some fault) known =
        let size : here + length rest ≡ place + suc (length rest) = omega arith in
        ap (reading place audio before) (gone ∙ ap (λ (b : ℕ). b ∷ rest) is)
        ∙ fault_read place audio before rest fault few (sym (ap (λ (s : ℕ). tick audio before s rest) size) ∙ known)

pub first_tick : (place here place' audio tag : ℕ) (before next : Before) (coming behind left : Option (List ℕ)) (t : Tick)
    → Consumes coming behind (tag ∷ []) → tag ≡ 0x54 → before.number ≤ most_ticks → here ≡ place + 1
    → ReadsStep (tick audio before) behind left here place' (Ok t) → next ≡ known_behind before t
    → IsFirstTick (to_read place audio before coming) (to_read place' audio next left) (Ok (Some t))
first_tick place here place' audio tag before next None behind left t gone is few moved read known = tt
first_tick place here place' audio tag before next (Some bytes) None left t gone is few moved read known = absurd gone
first_tick place here place' audio tag before next (Some bytes) (Some rest) left t gone is few moved read known =
    let l : List ℕ = read.told.0 in
    let size : place + 1 + length rest ≡ here + length rest = omega arith in
    let given : tick audio before (place + 1 + length rest) rest ≡ Ok (t, l) = ap (λ (s : ℕ). tick audio before s rest) size ∙ read.told.3 in
    let short : length l ≤ length rest = step_left (place + 1 + length rest) audio before rest l t given in (
      reading place' audio (known_behind before t) l,
      ap (to_read place' audio next) read.told.1 ∙ ap (λ (b : Before). Some (reading place' audio b l)) known,
      ap (reading place audio before) (gone ∙ ap (λ (b : ℕ). b ∷ rest) is)
          ∙ tick_read place place' audio before rest l t few given (size ∙ read.told.2) short,
    )

-- an error that is handed on
pub first_handed : (all after : Option ReadTape) (r : Result (Option Tick) TapeError) (e : TapeError) → IsErrAnd r (λ y. y ≡ e)
    → IsFirstTick all after (Err e) → IsFirstTick all after r
first_handed all after r e is h =
    let p = err_from_is_err_and r is in
    let Failed : TapeError → Result (Option Tick) TapeError = λ y. Err y in
    let P : Result (Option Tick) TapeError → Type 0 = IsFirstTick all after in
    subst P (sym (p.1 ∙ ap Failed p.2)) h
