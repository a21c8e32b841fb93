-- What a reading gives where it has no fault.
use Rattle.std.proofs.Common.{◌≡◌, Bool, true, false, Result, Ok, Err, refl}
use Rattle.gs_tape.specs.Reading.{Fault, ◌>>=◌, unless}

abbrev pub Gives : {A : Type 0} → (A → Type 0) → Result A Fault → Type 0
Gives P (Ok x) = P x
Gives P (Err e) = Unit {0}

pub gives_then : {A B : Type 0} (P : A → Type 0) (Q : B → Type 0) (r : Result A Fault) (f : A → Result B Fault)
    → Gives P r → ((x : A) → P x → Gives Q (f x)) → Gives Q (r >>= f)
gives_then P Q (Ok x) f h k = k x h
gives_then P Q (Err e) f h k = tt

pub gives_unless : {A : Type 0} (P : A → Type 0) (test : Bool) (fault : Fault) (r : Result A Fault)
    → (test ≡ false → Gives P r) → Gives P (unless test fault r)
gives_unless P true fault r h = tt
gives_unless P false fault r h = h refl

pub gives_weaker : {A : Type 0} (P Q : A → Type 0) (r : Result A Fault) → Gives P r → ((x : A) → P x → Q x) → Gives Q r
gives_weaker P Q (Ok x) h k = k x h
gives_weaker P Q (Err e) h k = tt
