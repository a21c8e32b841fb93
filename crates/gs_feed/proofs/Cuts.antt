-- How far a capture file's bytes are taken.
use Rattle.std.proofs.Common.{◌≡◌, ◌+◌, ◌∷◌, ◌++◌, ℕ, Bool, true, false, Option, Some, None, Result, Ok, Err, List, [], length, refl, sym, ap, subst}
use Rattle.std.proofs.Common.{inl, inr, ◌∙◌, ◌⊎◌, arith, append-nil, append_assoc, length-append}
use Rattle.std.specs.Result.{IsErrAnd}
use Rattle.std.specs.Io.KnownBytes.{Consumes}
use Rattle.std.proofs.KnownBytes.{Consumes-trans}
use Rattle.std.proofs.lemmas.Result.{err_from_is_err_and}
use Rattle.gs_reader.specs.Buffered.{to_come}
use Rattle.gs_tape.specs.Tick.{Tick}
use Rattle.gs_tape.specs.Reading.{Before, Fault, ReadTape, and_then, ends_with, read_tape}
use Rattle.gs_tape.specs.Tape.{Opened, reading}
use Rattle.gs_tape.specs.Cuts.{MayGoOn, Takes, TakesHead, TakesTick}
use Rattle.gs_tape.proofs.Cuts.{all_left}
use Rattle.gs_tape.specs.declared.error.TapeError.{TapeError}
use Rattle.gs_tape.specs.declared.error.TapeError.TheVariants as error
use Rattle.gs_feed.specs.Cuts.{CapturesBytes, HasTaken, OpensBytes, StopsBehind, StopsInHead, StopsInRest, behind_ticks}
use Rattle.gs_tape.specs.declared.stage.Stage.TheVariants.{Open}
use Rattle.std.specs.Prelude.{IsErrOf, is_some}
use Rattle.gs_feed.specs.Feeding.{Feeding}

-- ---- one more tick

-- what a tick took, where what was to come is told
record TakesOne (place audio : ℕ) (before : Before) (bytes coming' : Option (List ℕ)) (taken : List ℕ) (place' : ℕ) (before' : Before) (t : Tick) : Type 0 where
  front : List ℕ
  rest : Consumes bytes coming' (taken ++ front)
  place_is : place' ≡ place + length front
  reads : (more : List ℕ) → reading place audio before (front ++ more) ≡ and_then t (reading place' audio before' more)

takes_one : (place audio : ℕ) (before : Before) (bytes : List ℕ) (coming coming' : Option (List ℕ)) (taken : List ℕ) (place' : ℕ) (before' : Before) (t : Tick)
    → Consumes (Some bytes) coming taken → TakesTick place audio before coming coming' place' before' (Ok (Some t))
    → TakesOne place audio before (Some bytes) coming' taken place' before' t
takes_one place audio before bytes None coming' taken place' before' t gone takes = absurd gone
takes_one place audio before bytes (Some xs) coming' taken place' before' t gone takes = record {
  front = takes.0;
  rest = Consumes-trans (Some bytes) (Some xs) coming' taken takes.0 gone takes.1;
  place_is = takes.2;
  reads = takes.3;
}

pub taken_more : (bytes : List ℕ) (count : ℕ) (tape tape' : Opened) (left left' : Option (List ℕ)) (t : Tick) → HasTaken bytes tape count left
    → Takes tape left tape' left' (Ok (Some t)) → tape'.audio ≡ tape.audio → HasTaken bytes tape' (count + 1) left'
taken_more bytes count tape tape' left left' t had takes same =
    let one = takes_one tape.place tape.audio tape.before bytes (to_come tape.held left) (to_come tape'.held left') had.taken tape'.place
    tape'.before t had.rest takes in
    record {
      taken = had.taken ++ one.front;
      ticks = had.ticks ++ t ∷ [];
      rest = one.rest;
      place = omega (arith, one.place_is, had.place, length-append had.taken one.front);
      count_is = omega (arith, had.count_is, length-append had.ticks (t ∷ []));
      reads = λ more.
          let rest : ReadTape = reading tape'.place tape.audio tape'.before more in
          ap read_tape (append_assoc had.taken one.front more) ∙ had.reads (one.front ++ more)
          ∙ ap (λ (r : ReadTape). behind_ticks had.ticks r) (one.reads more)
          ∙ ap (λ (l : List Tick). let r : ReadTape = record { ticks = l; fault = rest.fault } in r) (sym (append_assoc had.ticks (t ∷ []) rest.ticks))
          ∙ ap (λ (a : ℕ). behind_ticks (had.ticks ++ t ∷ []) (reading tape'.place a tape'.before more)) (sym same);
    }

-- ---- where the source failed

stops_at : (bytes : List ℕ) (count : ℕ) (tape : Opened) (left : Option (List ℕ)) (taken : List ℕ) (ticks : List Tick) (front : List ℕ)
    (fault : Option Fault) → tape.place ≡ length taken → length ticks ≡ count
    → ((more : List ℕ) → read_tape (taken ++ more) ≡ behind_ticks ticks (reading tape.place tape.audio tape.before more))
    → Consumes (Some bytes) left (taken ++ front) → reading tape.place tape.audio tape.before front ≡ ends_with fault
    → MayGoOn (tape.place + length front) fault → StopsBehind bytes left count
stops_at bytes count tape left taken ticks front fault place many reads rest is may =
    let all : read_tape (taken ++ front) ≡ record { ticks = ticks ++ []; fault = fault } =
    reads front ∙ ap (λ (r : ReadTape). behind_ticks ticks r) is in
    let long : tape.place + length front ≡ length (taken ++ front) = omega (arith, place, length-append taken front) in
    let May : ℕ → Option Fault → Type 0 = λ n f. MayGoOn n f in
    record {
      front = taken ++ front;
      rest = rest;
      count_is = ap (λ (r : ReadTape). length r.ticks) all ∙ ap (λ (l : List Tick). length l) (append-nil ticks) ∙ many;
      cut = subst (λ (f : Option Fault). May (length (taken ++ front)) f) (sym (ap (λ (r : ReadTape). r.fault) all))
          (subst (λ (n : ℕ). May n fault) long may);
    }

stops_now : (bytes : List ℕ) (count : ℕ) (tape : Opened) (coming left : Option (List ℕ)) (held taken : List ℕ) (ticks : List Tick)
    (place' : ℕ) (before' : Before) → tape.place ≡ length taken → length ticks ≡ count
    → ((more : List ℕ) → read_tape (taken ++ more) ≡ behind_ticks ticks (reading tape.place tape.audio tape.before more))
    → Consumes (Some bytes) coming taken → held ≡ []
    → TakesTick tape.place tape.audio tape.before coming (to_come held left) place' before' (Err error.TapeFault)
    → StopsBehind bytes left count
stops_now bytes count tape None left held taken ticks place' before' place many reads gone none takes = absurd gone
stops_now bytes count tape (Some xs) left held taken ticks place' before' place many reads gone none takes =
    let rest = Consumes-trans (Some bytes) (Some xs) (to_come held left) taken takes.0 gone takes.1 in
    stops_at bytes count tape left taken ticks takes.0 takes.2 place many reads
    (all_left held (Some bytes) left (taken ++ takes.0) none rest) takes.3 takes.4

pub stops_behind : (bytes : List ℕ) (count : ℕ) (tape tape' : Opened) (left left' : Option (List ℕ)) → HasTaken bytes tape count left
    → tape'.held ≡ [] → Takes tape left tape' left' (Err error.TapeFault) → StopsBehind bytes left' count
stops_behind bytes count tape tape' left left' had none takes =
    stops_now bytes count tape (to_come tape.held left) left' tape'.held had.taken had.ticks tape'.place tape'.before had.place had.count_is
    had.reads had.rest none takes

captures_stops : (bytes : List ℕ) (count : ℕ) (tape tape' : Opened) (left left' : Option (List ℕ)) (e : TapeError) → HasTaken bytes tape count left
    → (e ≡ error.TapeFault → tape'.held ≡ []) → Takes tape left tape' left' (Err e) → CapturesBytes bytes count tape' left' (Err e)
captures_stops bytes count tape tape' left left' error.TapeFault had none takes = stops_behind bytes count tape tape' left left' had (none refl) takes
captures_stops bytes count tape tape' left left' (error.BadTape kind at) had none takes = tt
captures_stops bytes count tape tape' left left' (error.TapeFull number) had none takes = tt
captures_stops bytes count tape tape' left left' (error.UnitTooLarge number) had none takes = tt
captures_stops bytes count tape tape' left left' (error.AudioLength long) had none takes = tt
captures_stops bytes count tape tape' left left' error.OutOfMemory had none takes = tt

-- an error that is handed on
pub captures_handed : (bytes : List ℕ) (count : ℕ) (tape tape' : Opened) (left left' : Option (List ℕ)) (r : Result Bool TapeError) (e : TapeError)
    → IsErrAnd r (λ y. y ≡ e) → HasTaken bytes tape count left → (e ≡ error.TapeFault → tape'.held ≡ []) → Takes tape left tape' left' (Err e)
    → CapturesBytes bytes count tape' left' r
captures_handed bytes count tape tape' left left' r e is had none takes =
    let p = err_from_is_err_and r is in
    let Fails : TapeError → Result Bool TapeError = λ y. Err y in
    subst (CapturesBytes bytes count tape' left') (sym (p.1 ∙ ap Fails p.2)) (captures_stops bytes count tape tape' left left' e had none takes)

-- ---- the head

pub opens_bytes : (old new : Option (List ℕ)) (tape : Opened) → TakesHead old new (Ok tape)
    → OpensBytes old new (Ok (record { tape = tape; lost = false; count = 0; kept = [] }))
opens_bytes None new tape takes = tt
opens_bytes (Some bytes) new tape takes = record {
  taken = takes.0;
  ticks = [];
  rest = takes.1;
  place = takes.2;
  count_is = refl;
  reads = takes.3;
}

opens_stops : (old new : Option (List ℕ)) (e : TapeError) → TakesHead old new (Err e) → OpensBytes old new (Err e)
opens_stops None new error.TapeFault takes = tt
opens_stops (Some bytes) new error.TapeFault takes = record { front = takes.0; rest = takes.1; cut = takes.2 }
opens_stops old new (error.BadTape kind at) takes = tt
opens_stops old new (error.TapeFull number) takes = tt
opens_stops old new (error.UnitTooLarge number) takes = tt
opens_stops old new (error.AudioLength long) takes = tt
opens_stops old new error.OutOfMemory takes = tt

pub opens_handed : (old new : Option (List ℕ)) (r : Result Feeding TapeError) (e : TapeError) → IsErrAnd r (λ y. y ≡ e)
    → TakesHead old new (Err e) → OpensBytes old new r
opens_handed old new r e is takes =
    let p = err_from_is_err_and r is in
    let Fails : TapeError → Result Feeding TapeError = λ y. Err y in
    subst (OpensBytes old new) (sym (p.1 ∙ ap Fails p.2)) (opens_stops old new e takes)

-- ---- the clauses of a capture, where `feed` is what was seen before

pub captures_err_bytes : (feed old : Feeding) (tape' : Opened) (left left' : Option (List ℕ)) (bytes : List ℕ) (r : Result Bool TapeError) (e : TapeError)
    → feed ≡ old → IsErrAnd r (λ y. y ≡ e) → (feed.tape.stage ≡ Open → IsErrOf {T = Option Tick} (Err e) error.TapeFault → tape'.held ≡ [])
    → (feed.tape.stage ≡ Open → Takes feed.tape left tape' left' (Err e)) → old.tape.stage ≡ Open → HasTaken bytes old.tape old.count left
    → CapturesBytes bytes old.count tape' left' r
captures_err_bytes feed old tape' left left' bytes r e same is none takes opened had =
    let at : feed.tape.stage ≡ Open = ap (λ (f : Feeding). f.tape.stage) same ∙ opened in
    let Takes_of : Feeding → Type 0 = λ f. Takes f.tape left tape' left' (Err e) in
    let F : TapeError → Result (Option Tick) TapeError = λ x. Err x in
    captures_handed bytes old.count old.tape tape' left left' r e is had (λ fault. none at (ap F fault)) (subst Takes_of same (takes at))

pub captured_bytes : (feed old : Feeding) (tape' : Opened) (left left' : Option (List ℕ)) (t : Tick) (bytes : List ℕ)
    → feed ≡ old → (feed.tape.stage ≡ Open → Takes feed.tape left tape' left' (Ok (Some t))) → tape'.audio ≡ feed.tape.audio
    → old.tape.stage ≡ Open → HasTaken bytes old.tape old.count left → HasTaken bytes tape' (old.count + 1) left'
captured_bytes feed old tape' left left' t bytes same takes audio opened had =
    let at : feed.tape.stage ≡ Open = ap (λ (f : Feeding). f.tape.stage) same ∙ opened in
    let Takes_of : Feeding → Type 0 = λ f. Takes f.tape left tape' left' (Ok (Some t)) in
    taken_more bytes old.count old.tape tape' left left' t had (subst Takes_of same (takes at))
    (audio ∙ ap (λ (f : Feeding). f.tape.audio) same)

-- ---- the rest of a file, tick by tick

-- ticks were read behind those that were taken
pub record Rests (tape tape' : Opened) (left left' : Option (List ℕ)) : Type 0 where
  pub taken : (bytes : List ℕ) (count : ℕ) → tape.stage ≡ Open → HasTaken bytes tape count left
      → (more : ℕ) × HasTaken bytes tape' (count + more) left'

pub rests_none : (tape : Opened) (left : Option (List ℕ)) → Rests tape tape left left
rests_none tape left = record {
  taken = λ bytes count opened had.
      let same : count ≡ count + 0 = omega arith in
      (0, subst (λ (n : ℕ). HasTaken bytes tape n left) same had);
}

pub rests_more : (tape tape' tape'' : Opened) (left left' left'' : Option (List ℕ)) (o : Option Tick) → Rests tape tape' left left'
    → (tape.stage ≡ Open → tape'.stage ≡ Open) → (tape'.stage ≡ Open → Takes tape' left' tape'' left'' (Ok o)) → is_some o ≡ true
    → tape''.audio ≡ tape'.audio → Rests tape tape'' left left''
rests_more tape tape' tape'' left left' left'' None rests opens takes some audio = cc
rests_more tape tape' tape'' left left' left'' (Some t) rests opens takes some audio = record {
  taken = λ bytes count opened had.
      let before = rests.taken bytes count opened had in
      let more = before.0 in
      let same : count + more + 1 ≡ count + (more + 1) = omega arith in (
        more + 1,
        subst (λ (n : ℕ). HasTaken bytes tape'' n left'') same
            (taken_more bytes (count + more) tape' tape'' left' left'' t before.1 (takes (opens opened)) audio),
      );
}

pub rests_stop : (tape tape' tape'' : Opened) (left left' left'' : Option (List ℕ)) (r : Result (Unit {0}) TapeError) (e : TapeError)
    → Rests tape tape' left left' → (tape.stage ≡ Open → tape'.stage ≡ Open) → IsErrAnd r (λ y. y ≡ e)
    → (tape'.stage ≡ Open → Takes tape' left' tape'' left'' (Err e))
    → (tape'.stage ≡ Open → IsErrOf {T = Option Tick} (Err e) error.TapeFault → tape''.held ≡ [])
    → (bytes : List ℕ) (count : ℕ) → tape.stage ≡ Open → HasTaken bytes tape count left → IsErrOf r error.TapeFault → StopsInRest bytes left'' count
rests_stop tape tape' tape'' left left' left'' r e rests opens is takes none bytes count opened had fault =
    let before = rests.taken bytes count opened had in
    let at : tape'.stage ≡ Open = opens opened in
    let p = err_from_is_err_and r is in
    let U : TapeError → Result (Unit {0}) TapeError = λ x. Err x in
    let F : TapeError → Result (Option Tick) TapeError = λ x. Err x in
    let both : U e ≡ U error.TapeFault = sym (p.1 ∙ ap U p.2) ∙ fault in
    let one : e ≡ error.TapeFault = cc in
    let Takes_of : TapeError → Type 0 = λ x. Takes tape' left' tape'' left'' (Err x) in
    (before.0, stops_behind bytes (count + before.0) tape' tape'' left' left'' before.1 (none at (ap F one)) (subst Takes_of one (takes at)))

pub finished_bytes : (feed old : Feeding) (left left' : Option (List ℕ)) (r : Result (Unit {0}) TapeError) → feed ≡ old
    → ((bytes : List ℕ) (count : ℕ) → feed.tape.stage ≡ Open → HasTaken bytes feed.tape count left → IsErrOf r error.TapeFault
    → StopsInRest bytes left' count)
    → (bytes : List ℕ) → old.tape.stage ≡ Open → HasTaken bytes old.tape old.count left → IsErrOf r error.TapeFault → StopsInRest bytes left' old.count
finished_bytes feed old left left' r same stops bytes opened had fault =
    let Stops : Feeding → Type 0 = λ f. (count : ℕ) → f.tape.stage ≡ Open → HasTaken bytes f.tape count left → IsErrOf r error.TapeFault
    → StopsInRest bytes left' count in
    subst Stops same (stops bytes) old.count opened had fault
