-- How readings from a source follow one another.
use Rattle.std.proofs.Common.{inl, inr, ◌≡◌, ◌<◌, ◌≤◌, ◌+◌, ◌-◌, ℕ, suc, Bool, true, false, Option, Some, None, Result, Ok, Err, List, [], ◌∷◌, ◌++◌, length}
use Rattle.std.proofs.Common.{take, drop, refl, sym, ap, subst, ◌∙◌, arith, append-nil, append_assoc, length-append}
use Rattle.std.specs.Prelude.{nat_lt, IfSome}
use Rattle.std.specs.Result.{IsErrAnd}
use Rattle.std.proofs.lemmas.Result.{err_from_is_err_and}
use Rattle.std.proofs.lemmas.Bool.{le-ltb, lt-ltb, cases_eq}
use Rattle.std.proofs.lemmas.List.{take_at, drop_at}
use Rattle.byteorder.specs.Endian.{little_number}
use Rattle.byteorder.specs.Numbers.{little_from-take}
use Rattle.gs_reader.specs.Buffered.{to_come, HandsOn, HasNothingLeft, IsShort}
use Rattle.gs_reader.proofs.BufferedLemmas.{handing_on_is_as_told}
use Rattle.gs_tape.specs.declared.error.TapeError.{TapeError}
use Rattle.gs_tape.specs.declared.error.TapeError.TheVariants as error
use Rattle.gs_tape.specs.Reading.{Fault, Malformed, Full, UnitTooLarge, AudioLength, ◌>>=◌, unless, bytes_at, number_at}
use Rattle.gs_tape.proofs.Written.{unless_ok}
use Rattle.gs_tape.specs.Errors.{TellsFault, fault_of, read_error}
use Rattle.gs_tape.specs.Steps.{StepOf, gives, then_read, refused, field, number}
use Rattle.gs_tape.specs.Streaming.{ReadsStep, ReadsTold, LeavesSource, StopsInside}
use Rattle.gs_tape.proofs.Fronts.{stops_alike, stops_behind, stops_told, takes_behind, tells_alike}
use Rattle.gs_bytes.specs.Outside.{Rose}
use Rattle.gs_bytes.proofs.StreamLemmas.{KeepsFlag-trans}
use Rattle.std.proofs.KnownBytes.{Consumes-nil, Consumes-trans, Keeps-trans}
use Rattle.std.specs.Io.KnownBytes.{Consumes}
use Rattle.gs_bytes.specs.declared.failed.Failed.{Failed}
use Rattle.gs_bytes.specs.declared.failed.Failed.TheVariants as failed

-- ---- the bytes of a field

bytes_there : (size n : ℕ) (bytes rest all : List ℕ) → all ≡ bytes ++ rest → length bytes ≡ n
    → bytes_at size n all ≡ Ok (bytes, rest)
bytes_there size n bytes rest all e long =
    let enough : nat_lt (length all) n ≡ false =
    le-ltb (length all) n (omega (arith, ap (λ (l : List ℕ). length l) e, length-append bytes rest)) in
    unless_ok (nat_lt (length all) n) (Malformed 6 size) (Ok (take n all, drop n all)) enough
    ∙ ap (λ (l : List ℕ). Ok (take n l, drop n l)) e
    ∙ ap (λ (l : List ℕ). Ok (l, drop n (bytes ++ rest))) (take_at bytes rest n long)
    ∙ ap (λ (l : List ℕ). Ok (bytes, l)) (drop_at bytes rest n long)

bytes_cut : (size n : ℕ) (all : List ℕ) → length all < n → bytes_at size n all ≡ Err (Malformed 6 size)
bytes_cut size n all short =
    ap (λ (b : Bool). unless b (Malformed 6 size) (Ok (take n all, drop n all))) (lt-ltb (length all) n short)

pub field_read : (n place place' : ℕ) (held held' : List ℕ) (left left' taken taken' : Option (List ℕ)) (bytes : List ℕ)
    → HandsOn held held' left left' taken taken' bytes → length bytes ≡ n → place' ≡ place + length bytes
    → ReadsStep (field n) (to_come held left) (to_come held' left') place place' (Ok bytes)
field_read n place place' held held' None left' taken taken' bytes h long moved = record { told = tt; front = tt }
field_read n place place' held held' (Some xs) None taken taken' bytes h long moved = absurd h.left_after
field_read n place place' held held' (Some xs) (Some ys) taken taken' bytes h long moved =
    let e = handing_on_is_as_told held held' (Some xs) (Some ys) taken taken' bytes h in
    record {
      told = (
        held' ++ ys,
        refl,
        omega (arith, ap (λ (l : List ℕ). length l) e, length-append bytes (held' ++ ys)),
        bytes_there (place + length (held ++ xs)) n bytes (held' ++ ys) (held ++ xs) e long,
      );
      front = (bytes, e, λ size behind. bytes_there size n bytes behind (bytes ++ behind) refl long);
    }

pub field_cut : (n place place' : ℕ) (held held' : List ℕ) (left left' taken taken' : Option (List ℕ)) (bytes : List ℕ)
    → HandsOn held held' left left' taken taken' bytes → length bytes < n → place' ≡ place + length bytes
    → HasNothingLeft held' left'
    → ReadsStep (field n) (to_come held left) (to_come held' left') place place' (Err (error.BadTape 6 place'))
field_cut n place place' held held' None left' taken taken' bytes h short moved done = record { told = tt; front = tt }
field_cut n place place' held held' (Some xs) None taken taken' bytes h short moved done = absurd h.left_after
field_cut n place place' held held' (Some xs) (Some ys) taken taken' bytes h short moved done =
    let e = handing_on_is_as_told held held' (Some xs) (Some ys) taken taken' bytes h in
    let none : held' ++ ys ≡ [] = ap (λ (l : List ℕ). l ++ ys) done.0 ∙ done.1 in
    let whole : length (held ++ xs) ≡ length bytes =
    ap (λ (l : List ℕ). length l) (e ∙ ap (λ (l : List ℕ). bytes ++ l) none ∙ append-nil bytes) in
    let size : place + length (held ++ xs) ≡ place' = omega (arith, whole) in
    let cut = bytes_cut (place + length (held ++ xs)) n (held ++ xs) (omega (arith, whole)) in
    record { told = cut ∙ ap (λ (s : ℕ). Err (Malformed 6 s)) size; front = tt }

-- where the source failed the bytes of the field that came are cut
field_stops : (n : ℕ) (held held' : List ℕ) (left left' taken taken' : Option (List ℕ)) → IsShort held held' left left' taken taken' n
    → StopsInside (field n) (to_come held left) (to_come held' left') error.TapeFault
field_stops n held held' None left' taken taken' short = tt
field_stops n held held' (Some xs) left' taken taken' short = (
  short.lost,
  handing_on_is_as_told held held' (Some xs) left' taken taken' short.lost short.handed,
  λ size. bytes_cut size n short.lost short.fewer,
)

-- ---- errors

-- A step of these bytes fails with this error. What is left then matters only where the source failed.
pub record Fails {A : Type 0} (step : StepOf A) (old new : Option (List ℕ)) (place : ℕ) (e : TapeError) : Type 0 where
  pub known : IfSome old (λ bytes. TellsFault e (step (place + length bytes) bytes))
  pub front : StopsInside step old new e

pub fails : {A : Type 0} {step : StepOf A} {old new : Option (List ℕ)} {place place' : ℕ} {e : TapeError}
    → ReadsStep step old new place place' (Err e) → Fails step old new place e
fails {old = None} r = record { known = tt; front = r.front }
fails {old = Some bytes} r = record { known = r.told; front = r.front }

pub fails_read : {A : Type 0} {step : StepOf A} {old new : Option (List ℕ)} {place place' : ℕ} {e : TapeError}
    → Fails step old new place e → ReadsStep step old new place place' (Err e)
fails_read {old = None} h = record { told = tt; front = h.front }
fails_read {old = Some bytes} h = record { told = h.known; front = h.front }

-- an error that is handed on
pub handed_on : {A : Type 0} {step : StepOf A} {old new : Option (List ℕ)} {place place' : ℕ} {r : Result A TapeError} {e : TapeError}
    → IsErrAnd r (λ y. y ≡ e) → Fails step old new place e → ReadsStep step old new place place' r
handed_on {A = A} {step = step} {old = old} {new = new} {place = place} {place' = place'} {r = r} {e = e} is h =
    let p = err_from_is_err_and r is in
    let P : Result A TapeError → Type 0 = λ x. ReadsStep step old new place place' x in
    let Failed : TapeError → Result A TapeError = λ y. Err y in
    subst P (sym (p.1 ∙ ap Failed p.2)) (fails_read h)

-- an error that tells no fault
pub fails_unknown : {A : Type 0} {step : StepOf A} {old new : Option (List ℕ)} {place : ℕ} {e : TapeError} → fault_of e ≡ None
    → StopsInside step old new e → Fails step old new place e
fails_unknown {old = None} none stops = record { known = tt; front = stops }
fails_unknown {step = step} {old = Some bytes} {place = place} none stops =
    let T : Option Fault → Type 0 = λ o. IfSome o (λ fault. step (place + length bytes) bytes ≡ Err fault) in
    record { known = subst T (sym none) tt; front = stops }

-- want of memory
pub fails_memory : {A : Type 0} {step : StepOf A} {old new : Option (List ℕ)} {place : ℕ} → Fails step old new place error.OutOfMemory
fails_memory = fails_unknown refl tt

-- a read that failed
pub field_fails : (n : ℕ) {held held' : List ℕ} {left left' taken taken' : Option (List ℕ)} {place : ℕ} (e : Failed)
    → (e ≡ failed.Fault → IsShort held held' left left' taken taken' n)
    → Fails (field n) (to_come held left) (to_come held' left') place (read_error e)
field_fails n {held = held} {held' = held'} {left = left} {left' = left'} {taken = taken} {taken' = taken'} failed.Fault short =
    fails_unknown refl (field_stops n held held' left left' taken taken' (short refl))
field_fails n failed.NoMemory short = fails_memory

bind_err : {A B : Type 0} (r : Result A Fault) (f : A → Result B Fault) (fault : Fault) → r ≡ Err fault → (r >>= f) ≡ Err fault
bind_err r f fault e = ap (λ s. s >>= f) e

-- a step that fails alike has the same error
fails_alike : {A B : Type 0} (d : StepOf A) (d' : StepOf B) (old new : Option (List ℕ)) (place : ℕ) (e : TapeError)
    → ((size : ℕ) (rest : List ℕ) (fault : Fault) → d size rest ≡ Err fault → d' size rest ≡ Err fault)
    → Fails d old new place e → Fails d' old new place e
fails_alike d d' None new place e h r = record { known = tt; front = stops_alike d d' None new e h r.front }
fails_alike d d' (Some bytes) new place e h r =
    let size = place + length bytes in
    record {
      known = tells_alike e (d size bytes) (d' size bytes) (h size bytes) r.known;
      front = stops_alike d d' (Some bytes) new e h r.front;
    }

-- ---- one step and then another

pub fails_first : {A B : Type 0} {d : StepOf A} (f : A → StepOf B) {old new : Option (List ℕ)} {place : ℕ} {e : TapeError}
    → Fails d old new place e → Fails (then_read d f) old new place e
unfolding then_read
fails_first {d = d} f {old = old} {new = new} {place = place} {e = e} r =
    fails_alike d (then_read d f) old new place e (λ size rest fault is. bind_err (d size rest) (λ y. f y.0 size y.1) fault is) r

-- what two steps read is what the second reads of what the first left
two_steps : {A B : Type 0} (d : StepOf A) (f : A → StepOf B) (place place' : ℕ) (bytes rest : List ℕ) (x : A)
    → place + length bytes ≡ place' + length rest → d (place + length bytes) bytes ≡ Ok (x, rest)
    → then_read d f (place + length bytes) bytes ≡ f x (place' + length rest) rest
unfolding then_read
two_steps {A = A} d f place place' bytes rest x size found =
    ap (λ (s : Result (A × List ℕ) Fault). s >>= (λ y. f y.0 (place + length bytes) y.1)) found ∙ ap (λ (s : ℕ). f x s rest) size

fails_behind : {A B : Type 0} (d : StepOf A) (f : A → StepOf B) (old mid new : Option (List ℕ)) (place place' : ℕ) (x : A) (e : TapeError)
    → ReadsStep d old mid place place' (Ok x) → Fails (f x) mid new place' e → Fails (then_read d f) old new place e
fails_behind d f None mid new place place' x e first second =
    record { known = tt; front = stops_behind d f None mid new x e first.front second.front }
fails_behind d f (Some bytes) mid new place place' x e first second =
    let rest = first.told.0 in
    let same = two_steps d f place place' bytes rest x first.told.2 first.told.3 in
    let Second : Option (List ℕ) → Type 0 = λ o. IfSome o (λ left. TellsFault e (f x (place' + length left) left)) in
    let known = subst Second first.told.1 second.known in
    record {
      known = tells_alike e (f x (place' + length rest) rest) (then_read d f (place + length bytes) bytes) (λ fault is. same ∙ is) known;
      front = stops_behind d f (Some bytes) mid new x e first.front second.front;
    }

pub fails_then : {A B : Type 0} {d : StepOf A} (f : A → StepOf B) {old mid new : Option (List ℕ)} {place place' : ℕ} {x : A} {e : TapeError}
    → ReadsStep d old mid place place' (Ok x) → Fails (f x) mid new place' e → Fails (then_read d f) old new place e
fails_then {d = d} f {old = old} {mid = mid} {new = new} {place = place} {place' = place'} {x = x} {e = e} first second =
    fails_behind d f old mid new place place' x e first second

reads_behind : {A B : Type 0} (d : StepOf A) (f : A → StepOf B) (old mid new : Option (List ℕ)) (place place' place'' : ℕ) (x : A) (y : B)
    → ReadsStep d old mid place place' (Ok x) → ReadsStep (f x) mid new place' place'' (Ok y)
    → ReadsStep (then_read d f) old new place place'' (Ok y)
reads_behind d f None mid new place place' place'' x y first second = record { told = tt; front = tt }
reads_behind d f (Some bytes) mid new place place' place'' x y first second =
    let rest = first.told.0 in
    let same = two_steps d f place place' bytes rest x first.told.2 first.told.3 in
    let Second : Option (List ℕ) → Type 0 = λ o. ReadsTold (f x) o new place' place'' (Ok y) in
    let told = subst Second first.told.1 second.told in
    record {
      told = (told.0, told.1, first.told.2 ∙ told.2, same ∙ told.3);
      front = takes_behind d f bytes mid new x y first.front second.front;
    }

pub reads_then : {A B : Type 0} {d : StepOf A} (f : A → StepOf B) {old mid new : Option (List ℕ)} {place place' place'' : ℕ}
    {x : A} {y : B}
    → ReadsStep d old mid place place' (Ok x) → ReadsStep (f x) mid new place' place'' (Ok y)
    → ReadsStep (then_read d f) old new place place'' (Ok y)
reads_then {d = d} f {old = old} {mid = mid} {new = new} {place = place} {place' = place'} {place'' = place''} {x = x} {y = y} first second =
    reads_behind d f old mid new place place' place'' x y first second

pub reads_gives : {A : Type 0} (x : A) (old : Option (List ℕ)) (place : ℕ) → ReadsStep (gives x) old old place place (Ok x)
unfolding gives
reads_gives x None place = record { told = tt; front = tt }
reads_gives x (Some bytes) place = record { told = (bytes, refl, refl, refl); front = ([], refl, λ size behind. refl) }

-- a step, and then what is made of its value
pub reads_made : {A B : Type 0} {d : StepOf A} (f : A → B) {old new : Option (List ℕ)} {place place' : ℕ} {x : A}
    → ReadsStep d old new place place' (Ok x) → ReadsStep (then_read d (λ y. gives (f y))) old new place place' (Ok (f x))
reads_made {d = d} f {old = old} {new = new} {place = place} {place' = place'} {x = x} h =
    reads_behind d (λ y. gives (f y)) old new new place place' place' x (f x) h (reads_gives (f x) new place')

-- ---- a test of a value

pub fails_tested : {A : Type 0} {d : StepOf A} (bad : A → Bool) (fault : A → ℕ → Fault) {old new : Option (List ℕ)} {place : ℕ} {e : TapeError}
    → Fails d old new place e → Fails (refused d bad fault) old new place e
unfolding refused
fails_tested {d = d} bad fault {old = old} {new = new} {place = place} {e = e} r =
    fails_alike d (refused d bad fault) old new place e
    (λ size rest why is. bind_err (d size rest) (λ y. unless (bad y.0) (fault y.0 (size - length rest)) (Ok y)) why is) r

is_refused : {A : Type 0} (d : StepOf A) (bad : A → Bool) (fault : A → ℕ → Fault) (old new : Option (List ℕ)) (place place' : ℕ)
    (x : A) (e : TapeError)
    → ReadsStep d old new place place' (Ok x) → bad x ≡ true → fault_of e ≡ Some (fault x place)
    → Fails (refused d bad fault) old new place e
unfolding refused
is_refused d bad fault None new place place' x e r is tells =
    record { known = tt; front = stops_told (refused d bad fault) None new e (fault x place) tells }
is_refused {A = A} d bad fault (Some bytes) new place place' x e r is tells =
    let size = place + length bytes in
    let at : size - length bytes ≡ place = omega arith in
    let found : refused d bad fault size bytes ≡ Err (fault x place) =
    ap (λ (s : Result (A × List ℕ) Fault). s >>= (λ y. unless (bad y.0) (fault y.0 (size - length bytes)) (Ok y))) r.told.3
    ∙ ap (λ (b : Bool). unless b (fault x (size - length bytes)) (Ok (x, r.told.0))) is
    ∙ ap (λ (p : ℕ). Err (fault x p)) at in
    let Told : Option Fault → Type 0 = λ o. IfSome o (λ why. refused d bad fault size bytes ≡ Err why) in
    record {
      known = subst Told (sym tells) found;
      front = stops_told (refused d bad fault) (Some bytes) new e (fault x place) tells;
    }

pub fails_test : {A : Type 0} {d : StepOf A} (bad : A → Bool) (fault : A → ℕ → Fault) {old new : Option (List ℕ)} {place place' : ℕ}
    {x : A} {e : TapeError}
    → ReadsStep d old new place place' (Ok x) → bad x ≡ true → fault_of e ≡ Some (fault x place)
    → Fails (refused d bad fault) old new place e
fails_test {d = d} bad fault {old = old} {new = new} {place = place} {place' = place'} {x = x} {e = e} r is t =
    is_refused d bad fault old new place place' x e r is t

is_passed : {A : Type 0} (d : StepOf A) (bad : A → Bool) (fault : A → ℕ → Fault) (old new : Option (List ℕ))
    (place place' : ℕ) (x : A)
    → ReadsStep d old new place place' (Ok x) → bad x ≡ false → ReadsStep (refused d bad fault) old new place place' (Ok x)
unfolding refused
is_passed d bad fault None new place place' x r is = record { told = tt; front = tt }
is_passed {A = A} d bad fault (Some bytes) new place place' x r is =
    let size = place + length bytes in
    let found : refused d bad fault size bytes ≡ Ok (x, r.told.0) =
    ap (λ (s : Result (A × List ℕ) Fault). s >>= (λ y. unless (bad y.0) (fault y.0 (size - length bytes)) (Ok y))) r.told.3
    ∙ unless_ok (bad x) (fault x (size - length bytes)) (Ok (x, r.told.0)) is in
    record {
      told = (r.told.0, r.told.1, r.told.2, found);
      front = (
        r.front.0,
        r.front.1,
        λ s behind.
            let all = r.front.0 ++ behind in
            ap (λ (t : Result (A × List ℕ) Fault). t >>= (λ y. unless (bad y.0) (fault y.0 (s - length all)) (Ok y))) (r.front.2 s behind)
            ∙ unless_ok (bad x) (fault x (s - length all)) (Ok (x, behind)) is,
      );
    }

pub reads_passed : {A : Type 0} {d : StepOf A} (bad : A → Bool) (fault : A → ℕ → Fault) {old new : Option (List ℕ)}
    {place place' : ℕ} {x : A}
    → ReadsStep d old new place place' (Ok x) → bad x ≡ false → ReadsStep (refused d bad fault) old new place place' (Ok x)
reads_passed {d = d} bad fault {old = old} {new = new} {place = place} {place' = place'} {x = x} r is =
    is_passed d bad fault old new place place' x r is

-- ---- the source

-- calls that gave values
pub leaves_on : {A : Type 0} {f f' f'' : ℕ} {m m' m'' : Option Bool} {w w' w'' : Option (List ℕ)} {x : A}
    → LeavesSource {A = Unit {0}} f f' m m' w w' (Ok tt) → LeavesSource f' f'' m' m'' w' w'' (Ok x)
    → LeavesSource {A = Unit {0}} f f'' m m'' w w'' (Ok tt)
leaves_on {A = A} {f = f} {f' = f'} {f'' = f''} {m = m} {m' = m'} {m'' = m''} {w = w} {w' = w'} {w'' = w''} {x = x} first second =
    let same : f' ≡ f = elim (cases_eq f' f) [ inl e ↦ e | inr n ↦ absurd (let h = first.counted n in cc) ] in
    let again : f'' ≡ f' = elim (cases_eq f'' f') [ inl e ↦ e | inr n ↦ absurd (let h = second.counted n in cc) ] in
    record {
      never_falls = omega (arith, first.never_falls, second.never_falls);
      fault = λ e. absurd (cc);
      counted = λ n. absurd (n (again ∙ same));
      keeps = Keeps-trans w w' w'' first.keeps second.keeps;
      not_met = λ y e. KeepsFlag-trans m m' m'' (first.not_met tt refl) (second.not_met x refl);
    }

-- a call that gave a value, and then another
pub leaves_then : {A B : Type 0} {f f' f'' : ℕ} {m m' m'' : Option Bool} {w w' w'' : Option (List ℕ)} {x : A} {r : Result B TapeError}
    → LeavesSource {A = A} f f' m m' w w' (Ok x) → LeavesSource {A = B} f' f'' m' m'' w' w'' r → LeavesSource {A = B} f f'' m m'' w w'' r
leaves_then {A = A} {B = B} {f = f} {f' = f'} {f'' = f''} {m = m} {m' = m'} {m'' = m''} {w = w} {w' = w'} {w'' = w''} {x = x} {r = r} first second =
    let same : f' ≡ f = elim (cases_eq f' f) [ inl e ↦ e | inr n ↦ absurd (let h = first.counted n in cc) ] in
    record {
      never_falls = omega (arith, first.never_falls, second.never_falls);
      fault = λ e. let R : ℕ → Type 0 = λ n. Rose n f'' in subst R same (second.fault e);
      counted = λ n. second.counted (λ e. n (e ∙ same));
      keeps = Keeps-trans w w' w'' first.keeps second.keeps;
      not_met = λ y e. KeepsFlag-trans m m' m'' (first.not_met x refl) (second.not_met y e);
    }

-- another value
pub leaves_as : {A B : Type 0} {f f' : ℕ} {m m' : Option Bool} {w w' : Option (List ℕ)} {x : A} {y : B}
    → LeavesSource {A = A} f f' m m' w w' (Ok x) → LeavesSource {A = B} f f' m m' w w' (Ok y)
leaves_as {x = x} h = record {
  never_falls = h.never_falls;
  fault = λ e. absurd (cc);
  counted = λ n. absurd (let is = h.counted n in cc);
  keeps = h.keeps;
  not_met = λ z e. h.not_met x refl;
}

-- the same error
pub leaves_handed : {A B : Type 0} {f f' : ℕ} {m m' : Option Bool} {w w' : Option (List ℕ)} {r : Result B TapeError} {e : TapeError}
    → IsErrAnd r (λ y. y ≡ e) → LeavesSource {A = A} f f' m m' w w' (Err e) → LeavesSource {A = B} f f' m m' w w' r
leaves_handed {A = A} {B = B} {f = f} {f' = f'} {m = m} {m' = m'} {w = w} {w' = w'} {r = r} {e = e} is h =
    let p = err_from_is_err_and r is in
    let Failed : TapeError → Result B TapeError = λ y. Err y in
    let P : Result B TapeError → Type 0 = λ x. LeavesSource {A = B} f f' m m' w w' x in
    subst P (sym (p.1 ∙ ap Failed p.2)) (same e h)
  where
    same : (e : TapeError) → LeavesSource {A = A} f f' m m' w w' (Err e) → LeavesSource {A = B} f f' m m' w w' (Err e)
    same e h = record {
      never_falls = h.never_falls;
      fault = λ is. h.fault (let one : e ≡ error.TapeFault = cc in let F : TapeError → Result A TapeError = λ x. Err x in ap F one);
      counted = λ n. let is = h.counted n in let one : e ≡ error.TapeFault = cc in let F : TapeError → Result B TapeError = λ x. Err x in ap F one;
      keeps = h.keeps;
      not_met = λ y is. absurd (cc);
    }

-- ---- many steps

-- What is read of the whole is what is read of what is left of it: a fault is that of the whole, and a value makes one
-- of the whole.
pub record Continues {A B : Type 0} (whole : StepOf A) (rest : StepOf B) (made : B → A) (old at : Option (List ℕ)) (place here : ℕ) : Type 0 where
  pub fails : (e : TapeError) (new : Option (List ℕ)) → Fails rest at new here e → Fails whole old new place e
  pub reads : (y : B) (new : Option (List ℕ)) (place' : ℕ) → ReadsStep rest at new here place' (Ok y) → ReadsStep whole old new place place' (Ok (made y))

pub begins : {A : Type 0} (whole : StepOf A) (old : Option (List ℕ)) (place : ℕ) → Continues whole whole (λ x. x) old old place place
begins whole old place = record { fails = λ e new h. h; reads = λ y new place' h. h }

-- ---- numbers

-- a number of the bytes of its field
number_of_bytes : (size n : ℕ) (all bytes rest : List ℕ) → bytes_at size n all ≡ Ok (bytes, rest)
    → number_at size n all ≡ Ok (little_number n bytes, rest)
number_of_bytes size n all bytes rest e = by_test (nat_lt (length all) n) refl e
  where
    by_test : (b : Bool) → nat_lt (length all) n ≡ b → unless {A = List ℕ × List ℕ} b (Malformed 6 size) (Ok (take n all, drop n all)) ≡ Ok (bytes, rest)
        → unless {A = ℕ × List ℕ} (nat_lt (length all) n) (Malformed 6 size) (Ok (little_number n all, drop n all)) ≡ Ok (little_number n bytes, rest)
    by_test true t e = cc
    by_test false t e =
        let same : ◌≡◌ {A = List ℕ × List ℕ} (take n all, drop n all) (bytes, rest) = cc in
        let front : take n all ≡ bytes = ap (λ (x : List ℕ × List ℕ). x.0) same in
        let behind : drop n all ≡ rest = ap (λ (x : List ℕ × List ℕ). x.1) same in
        unless_ok (nat_lt (length all) n) (Malformed 6 size) (Ok (little_number n all, drop n all)) t
        ∙ ap (λ (k : ℕ). Ok (k, drop n all)) (sym (little_from-take 0 n n all (omega arith)) ∙ ap (little_number n) front)
        ∙ ap (λ (l : List ℕ). Ok (little_number n bytes, l)) behind

number_fails : (size n : ℕ) (all : List ℕ) (fault : Fault) → bytes_at size n all ≡ Err fault → number_at size n all ≡ Err fault
number_fails size n all fault e = by_test (nat_lt (length all) n) refl e
  where
    by_test : (b : Bool) → nat_lt (length all) n ≡ b → unless {A = List ℕ × List ℕ} b (Malformed 6 size) (Ok (take n all, drop n all)) ≡ Err fault
        → unless {A = ℕ × List ℕ} (nat_lt (length all) n) (Malformed 6 size) (Ok (little_number n all, drop n all)) ≡ Err fault
    by_test true t e =
        let same : Malformed 6 size ≡ fault = cc in
        ap (λ (b : Bool). unless b (Malformed 6 size) (Ok (little_number n all, drop n all))) t ∙ ap (λ (f : Fault). Err f) same
    by_test false t e = cc

pub number_read : (n place place' : ℕ) (old new : Option (List ℕ)) (bytes : List ℕ) (x : ℕ)
    → ReadsStep (field n) old new place place' (Ok bytes) → x ≡ little_number n bytes → ReadsStep (number n) old new place place' (Ok x)
number_read n place place' None new bytes x r is = record { told = tt; front = tt }
number_read n place place' (Some all) new bytes x r is =
    let size = place + length all in
    let found = number_of_bytes size n all bytes r.told.0 r.told.3 in
    record {
      told = (r.told.0, r.told.1, r.told.2, found ∙ ap (λ (k : ℕ). Ok (k, r.told.0)) (sym is));
      front = (
        r.front.0,
        r.front.1,
        λ s behind. number_of_bytes s n (r.front.0 ++ behind) bytes behind (r.front.2 s behind) ∙ ap (λ (k : ℕ). Ok (k, behind)) (sym is),
      );
    }

pub number_error : (n : ℕ) {place : ℕ} {old new : Option (List ℕ)} {e : TapeError} → Fails (field n) old new place e
    → Fails (number n) old new place e
number_error n {place = place} {old = old} {new = new} {e = e} r =
    fails_alike (field n) (number n) old new place e (λ size rest fault is. number_fails size n rest fault is) r
