-- What is told of steps that fail alike, and which bytes a step takes or are cut for it.
use Rattle.std.proofs.Common.{◌≡◌, ◌∙◌, ◌++◌, ℕ, Option, Some, None, Result, Ok, Err, List, ap, append_assoc}
use Rattle.std.proofs.KnownBytes.{Consumes-trans}
use Rattle.gs_tape.specs.declared.error.TapeError.{TapeError}
use Rattle.gs_tape.specs.declared.error.TapeError.TheVariants as error
use Rattle.gs_tape.specs.Reading.{Fault, Malformed, Full, UnitTooLarge, AudioLength, ◌>>=◌}
use Rattle.gs_tape.specs.Errors.{TellsFault, fault_of}
use Rattle.gs_tape.specs.Steps.{StepOf, then_read}
use Rattle.gs_tape.specs.Streaming.{StopsInside, TakesFront}

-- what an answer tells of one reading it tells of another that fails alike
pub tells_alike : {B B' : Type 0} (e : TapeError) (p : Result B Fault) (q : Result B' Fault)
    → ((fault : Fault) → p ≡ Err fault → q ≡ Err fault) → TellsFault e p → TellsFault e q
tells_alike error.TapeFault p q h t = tt
tells_alike (error.BadTape kind at) p q h t = h (Malformed kind at) t
tells_alike (error.TapeFull tick) p q h t = h (Full tick) t
tells_alike (error.UnitTooLarge tick) p q h t = h (UnitTooLarge tick) t
tells_alike (error.AudioLength long) p q h t = h (AudioLength long) t
tells_alike error.OutOfMemory p q h t = tt

-- bytes that are cut for a step are cut for one that fails alike
pub stops_alike : {A B : Type 0} (d : StepOf A) (d' : StepOf B) (old new : Option (List ℕ)) (e : TapeError)
    → ((size : ℕ) (rest : List ℕ) (fault : Fault) → d size rest ≡ Err fault → d' size rest ≡ Err fault)
    → StopsInside d old new e → StopsInside d' old new e
stops_alike d d' None new error.TapeFault h s = tt
stops_alike d d' (Some bytes) new error.TapeFault h s = (s.0, s.1, λ size. h size s.0 (Malformed 6 size) (s.2 size))
stops_alike d d' old new (error.BadTape kind at) h s = tt
stops_alike d d' old new (error.TapeFull tick) h s = tt
stops_alike d d' old new (error.UnitTooLarge tick) h s = tt
stops_alike d d' old new (error.AudioLength long) h s = tt
stops_alike d d' old new error.OutOfMemory h s = tt

-- bytes that a step takes, and then bytes that are cut for the next one
pub stops_behind : {A B : Type 0} (d : StepOf A) (f : A → StepOf B) (old mid new : Option (List ℕ)) (x : A) (e : TapeError)
    → TakesFront d old mid (Ok x) → StopsInside (f x) mid new e → StopsInside (then_read d f) old new e
unfolding then_read
stops_behind d f None mid new x error.TapeFault first second = tt
stops_behind d f (Some bytes) None new x error.TapeFault first second = absurd first.1
stops_behind {A = A} d f (Some bytes) (Some rest) new x error.TapeFault first second = (
  first.0 ++ second.0,
  Consumes-trans (Some bytes) (Some rest) new first.0 second.0 first.1 second.1,
  λ size. ap (λ (s : Result (A × List ℕ) Fault). s >>= (λ y. f y.0 size y.1)) (first.2 size second.0) ∙ second.2 size,
)
stops_behind d f old mid new x (error.BadTape kind at) first second = tt
stops_behind d f old mid new x (error.TapeFull tick) first second = tt
stops_behind d f old mid new x (error.UnitTooLarge tick) first second = tt
stops_behind d f old mid new x (error.AudioLength long) first second = tt
stops_behind d f old mid new x error.OutOfMemory first second = tt

-- what two steps take one after the other
pub takes_behind : {A B : Type 0} (d : StepOf A) (f : A → StepOf B) (bytes : List ℕ) (mid new : Option (List ℕ)) (x : A) (y : B)
    → TakesFront d (Some bytes) mid (Ok x) → TakesFront (f x) mid new (Ok y) → TakesFront (then_read d f) (Some bytes) new (Ok y)
unfolding then_read
takes_behind d f bytes None new x y first second = absurd first.1
takes_behind {A = A} {B = B} d f bytes (Some rest) new x y first second = (
  first.0 ++ second.0,
  Consumes-trans (Some bytes) (Some rest) new first.0 second.0 first.1 second.1,
  λ size behind. ap (λ (l : List ℕ). then_read d f size l) (append_assoc first.0 second.0 behind)
      ∙ ap (λ (s : Result (A × List ℕ) Fault). s >>= (λ z. f z.0 size z.1)) (first.2 size (second.0 ++ behind)) ∙ second.2 size behind,
)

-- an error that tells a fault isn't that of a source
pub stops_told : {A : Type 0} (d : StepOf A) (old new : Option (List ℕ)) (e : TapeError) (fault : Fault) → fault_of e ≡ Some fault → StopsInside d old new e
stops_told d old new error.TapeFault fault is = cc
stops_told d old new (error.BadTape kind at) fault is = tt
stops_told d old new (error.TapeFull tick) fault is = tt
stops_told d old new (error.UnitTooLarge tick) fault is = tt
stops_told d old new (error.AudioLength long) fault is = tt
stops_told d old new error.OutOfMemory fault is = tt
