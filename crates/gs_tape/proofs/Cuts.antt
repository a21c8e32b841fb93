-- What calls took of a capture file's bytes.
use Rattle.std.proofs.Common.{◌≡◌, ◌≤◌, ◌+◌, ◌∷◌, ◌++◌, ℕ, suc, Option, Some, None, Result, Ok, Err, List, [], length, refl, sym, ap, subst}
use Rattle.std.proofs.Common.{inl, inr, ◌∙◌, arith, length-append}
use Rattle.std.specs.Result.{IsErrAnd}
use Rattle.std.specs.Io.KnownBytes.{Consumes}
use Rattle.std.proofs.KnownBytes.{Consumes-trans}
use Rattle.std.proofs.lemmas.Result.{err_from_is_err_and}
use Rattle.gs_reader.specs.Buffered.{to_come}
use Rattle.gs_tape.specs.Tick.{Tick}
use Rattle.gs_tape.specs.Limits.{most_ticks}
use Rattle.gs_tape.specs.Reading.{Malformed, Before, and_then, before_first, ticks_at, read_tape}
use Rattle.gs_tape.specs.declared.error.TapeError.{TapeError}
use Rattle.gs_tape.specs.declared.error.TapeError.TheVariants as error
use Rattle.gs_tape.specs.Steps.{StepOf, head, tick}
use Rattle.gs_tape.specs.Streaming.{ReadsStep, StopsInside}
use Rattle.gs_tape.specs.Tape.{Opened, reading, known_behind}
use Rattle.gs_tape.specs.declared.stage.Stage.TheVariants.{Open}
use Rattle.gs_tape.specs.Cuts.{TakesHead, TakesTick}
use Rattle.gs_tape.proofs.HeadReads.{fault_in_head, head_read}
use Rattle.gs_tape.proofs.TapeReads.{end_read, fault_read, tick_read}

-- where nothing is held, what is to come is what the source has left
pub all_left : (held : List ℕ) (old left : Option (List ℕ)) (bytes : List ℕ) → held ≡ [] → Consumes old (to_come held left) bytes
    → Consumes old left bytes
all_left held None left bytes none gone = tt
all_left held (Some xs) None bytes none gone = gone
all_left held (Some xs) (Some ys) bytes none gone = gone ∙ ap (λ (l : List ℕ). bytes ++ (l ++ ys)) none

-- the place behind the bytes that were taken
taken_long : {A : Type 0} (d : StepOf A) (bytes : List ℕ) (new : Option (List ℕ)) (place place' : ℕ) (x : A)
    → (r : ReadsStep d (Some bytes) new place place' (Ok x)) → place' ≡ place + length r.front.0
taken_long d bytes new place place' x r =
    let Gone : Option (List ℕ) → Type 0 = λ o. Consumes (Some bytes) o r.front.0 in
    let gone : bytes ≡ r.front.0 ++ r.told.0 = subst Gone r.told.1 r.front.1 in
    omega (arith, ap (λ (l : List ℕ). length l) gone, length-append r.front.0 r.told.0, r.told.2)

-- ---- a tick

pub takes_tick : (place here place' audio tag : ℕ) (before next : Before) (coming behind left : Option (List ℕ)) (t : Tick)
    → Consumes coming behind (tag ∷ []) → tag ≡ 0x54 → before.number ≤ most_ticks → here ≡ place + 1
    → ReadsStep (tick audio before) behind left here place' (Ok t) → next ≡ known_behind before t
    → TakesTick place audio before coming left place' next (Ok (Some t))
takes_tick place here place' audio tag before next None behind left t gone is few moved r known = tt
takes_tick place here place' audio tag before next (Some bytes) None left t gone is few moved r known = absurd gone
takes_tick place here place' audio tag before next (Some bytes) (Some rest) left t gone is few moved r known =
    let b : List ℕ = r.front.0 in
    let long : place' ≡ here + length b = taken_long (tick audio before) rest left here place' t r in (
      tag ∷ b,
      Consumes-trans (Some bytes) (Some rest) left (tag ∷ []) b gone r.front.1,
      omega (arith, long, moved),
      λ more.
          let size : length (b ++ more) ≡ length b + length more = length-append b more in
          ap (λ (x : ℕ). reading place audio before (x ∷ (b ++ more))) is
          ∙ tick_read place place' audio before (b ++ more) more t few (r.front.2 (place + 1 + length (b ++ more)) more)
          (omega (arith, long, moved, size)) (omega (arith, size))
          ∙ ap (λ (k : Before). and_then t (reading place' audio k more)) (sym known),
    )

-- the source failed behind its tag
pub stops_tick : (place place' audio tag : ℕ) (before next : Before) (coming behind left : Option (List ℕ)) (e : TapeError)
    → Consumes coming behind (tag ∷ []) → tag ≡ 0x54 → before.number ≤ most_ticks → StopsInside (tick audio before) behind left e
    → TakesTick place audio before coming left place' next (Err e)
stops_tick place place' audio tag before next None behind left error.TapeFault gone is few s = tt
stops_tick place place' audio tag before next (Some bytes) None left error.TapeFault gone is few s = absurd gone
stops_tick place place' audio tag before next (Some bytes) (Some rest) left error.TapeFault gone is few s = (
  tag ∷ s.0,
  Consumes-trans (Some bytes) (Some rest) left (tag ∷ []) s.0 gone s.1,
  Some (Malformed 6 (place + suc (length s.0))),
  ap (λ (x : ℕ). reading place audio before (x ∷ s.0)) is
      ∙ fault_read place audio before s.0 (Malformed 6 (place + suc (length s.0))) few (s.2 (place + suc (length s.0))),
  inl refl,
)
stops_tick place place' audio tag before next coming behind left (error.BadTape kind at) gone is few s = tt
stops_tick place place' audio tag before next coming behind left (error.TapeFull number) gone is few s = tt
stops_tick place place' audio tag before next coming behind left (error.UnitTooLarge number) gone is few s = tt
stops_tick place place' audio tag before next coming behind left (error.AudioLength long) gone is few s = tt
stops_tick place place' audio tag before next coming behind left error.OutOfMemory gone is few s = tt

-- it failed behind the end mark
pub stops_end : (place place' audio tag : ℕ) (before next : Before) (coming behind left : Option (List ℕ)) (e : TapeError)
    → Consumes coming behind (tag ∷ []) → tag ≡ 0x45 → (e ≡ error.TapeFault → Consumes behind left [])
    → TakesTick place audio before coming left place' next (Err e)
stops_end place place' audio tag before next None behind left error.TapeFault gone is none = tt
stops_end place place' audio tag before next (Some bytes) None left error.TapeFault gone is none = absurd gone
stops_end place place' audio tag before next (Some bytes) (Some rest) left error.TapeFault gone is none = (
  tag ∷ [],
  Consumes-trans (Some bytes) (Some rest) left (tag ∷ []) [] gone (none refl),
  None,
  ap (λ (x : ℕ). reading place audio before (x ∷ [])) is ∙ end_read place audio before,
  inr refl,
)
stops_end place place' audio tag before next coming behind left (error.BadTape kind at) gone is none = tt
stops_end place place' audio tag before next coming behind left (error.TapeFull number) gone is none = tt
stops_end place place' audio tag before next coming behind left (error.UnitTooLarge number) gone is none = tt
stops_end place place' audio tag before next coming behind left (error.AudioLength long) gone is none = tt
stops_end place place' audio tag before next coming behind left error.OutOfMemory gone is none = tt

-- it failed where a tag is due
pub stops_tag : (place place' audio : ℕ) (before next : Before) (coming left : Option (List ℕ)) (e : TapeError)
    → (e ≡ error.TapeFault → Consumes coming left []) → TakesTick place audio before coming left place' next (Err e)
unfolding ticks_at
stops_tag place place' audio before next None left error.TapeFault none = tt
stops_tag place place' audio before next (Some bytes) left error.TapeFault none =
    ([], none refl, Some (Malformed 6 (place + 0)), refl, inl refl)
stops_tag place place' audio before next coming left (error.BadTape kind at) none = tt
stops_tag place place' audio before next coming left (error.TapeFull number) none = tt
stops_tag place place' audio before next coming left (error.UnitTooLarge number) none = tt
stops_tag place place' audio before next coming left (error.AudioLength long) none = tt
stops_tag place place' audio before next coming left error.OutOfMemory none = tt

-- an error that is handed on
pub takes_handed : (place place' audio : ℕ) (before next : Before) (coming left : Option (List ℕ)) (r : Result (Option Tick) TapeError) (e : TapeError)
    → IsErrAnd r (λ y. y ≡ e) → TakesTick place audio before coming left place' next (Err e)
    → TakesTick place audio before coming left place' next r
takes_handed place place' audio before next coming left r e is h =
    let p = err_from_is_err_and r is in
    let Failed : TapeError → Result (Option Tick) TapeError = λ y. Err y in
    let P : Result (Option Tick) TapeError → Type 0 = TakesTick place audio before coming left place' next in
    subst P (sym (p.1 ∙ ap Failed p.2)) h

-- ---- the head

pub takes_head : (held held' : List ℕ) (left coming now : Option (List ℕ)) (place place' audio duration : ℕ) (known : Before) → held ≡ [] → place ≡ 0
    → ReadsStep head (to_come held left) coming place place' (Ok (audio, duration)) → known ≡ before_first → coming ≡ to_come held' now
    → TakesHead left now (Ok (record { audio = audio; duration = duration; place = place'; before = known; held = held'; stage = Open }))
takes_head held held' None coming now place place' audio duration known none start r first here = tt
takes_head held held' (Some bytes) coming now place place' audio duration known none start r first here =
    let b : List ℕ = r.front.0 in
    let long : place' ≡ place + length b = taken_long head (held ++ bytes) coming place place' (audio, duration) r in
    let At : Option (List ℕ) → Type 0 = λ o. Consumes (Some (held ++ bytes)) o b in
    let Of : List ℕ → Type 0 = λ l. Consumes (Some (l ++ bytes)) (to_come held' now) b in (
      b,
      subst Of none (subst At here r.front.1),
      omega (arith, long, start),
      λ more.
          (head_read (b ++ more) more place' audio duration (omega (arith, long, start, length-append b more)) (r.front.2 (length (b ++ more)) more)).0
          ∙ ap (λ (k : Before). reading place' audio k more) (sym first),
    )

stops_head : (held held' : List ℕ) (left now : Option (List ℕ)) (e : TapeError) → held ≡ [] → (e ≡ error.TapeFault → held' ≡ [])
    → StopsInside head (to_come held left) (to_come held' now) e → TakesHead left now (Err e)
stops_head held held' None now error.TapeFault none spent s = tt
stops_head held held' (Some bytes) now error.TapeFault none spent s =
    let Gone : List ℕ → Type 0 = λ l. Consumes (Some (l ++ bytes)) now s.0 in (
      s.0,
      subst Gone none (all_left held' (Some (held ++ bytes)) now s.0 (spent refl) s.1),
      fault_in_head s.0 (Malformed 6 (length s.0)) (s.2 (length s.0)),
    )
stops_head held held' left now (error.BadTape kind at) none spent s = tt
stops_head held held' left now (error.TapeFull number) none spent s = tt
stops_head held held' left now (error.UnitTooLarge number) none spent s = tt
stops_head held held' left now (error.AudioLength long) none spent s = tt
stops_head held held' left now error.OutOfMemory none spent s = tt

pub head_handed : (held held' : List ℕ) (left now : Option (List ℕ)) (r : Result Opened TapeError) (e : TapeError) → held ≡ []
    → IsErrAnd r (λ y. y ≡ e) → (e ≡ error.TapeFault → held' ≡ []) → StopsInside head (to_come held left) (to_come held' now) e
    → TakesHead left now r
head_handed held held' left now r e none is spent s =
    let p = err_from_is_err_and r is in
    let Failed : TapeError → Result Opened TapeError = λ y. Err y in
    let P : Result Opened TapeError → Type 0 = TakesHead left now in
    subst P (sym (p.1 ∙ ap Failed p.2)) (stops_head held held' left now e none spent s)
