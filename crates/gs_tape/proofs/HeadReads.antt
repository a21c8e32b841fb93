-- What a file's head gives.
use Rattle.std.proofs.Common.{◌≡◌, ◌+◌, ◌-◌, ◌≤◌, ◌∷◌, ◌++◌, ℕ, Bool, true, false, not, ◌||◌, Option, Some, None, Result, Ok, Err, List, [], length, refl, sym}
use Rattle.std.proofs.Common.{ap, subst, ◌∙◌, arith}
use Rattle.std.specs.Prelude.{nat_lt, ◌==◌, codes, IfSome}
use Rattle.std.specs.Result.{IsErrAnd}
use Rattle.std.proofs.lemmas.Result.{err_from_is_err_and}
use Rattle.gs_reader.specs.Buffered.{to_come}
use Rattle.gs_tape.specs.Limits.{most_audio}
use Rattle.gs_tape.specs.Reading.{Fault, Malformed, AudioLength, ◌>>=◌, unless, number_at, text_at, Before, CaptureHead, head_at, ReadTape, ticks_at}
use Rattle.gs_tape.specs.Reading.{before_first}
use Rattle.gs_tape.specs.Reading.{read_behind, read_tape, audio_of_head, duration_of_head, audio_length, audio_duration}
use Rattle.gs_tape.specs.declared.error.TapeError.{TapeError}
use Rattle.gs_tape.specs.declared.stage.Stage.TheVariants.{Open}
use Rattle.gs_tape.specs.declared.stage.Stage.{Stage}
use Rattle.gs_tape.specs.Errors.{fault_of}
use Rattle.gs_tape.specs.Steps.{gives, then_read, number, text, head}
use Rattle.gs_tape.specs.Streaming.{ReadsStep}
use Rattle.gs_tape.specs.Tape.{reading, to_read, unread_at, Opened, OpensAs, Opens}
use Rattle.gs_tape.proofs.Streams.{Fails}
use Rattle.gs_tape.proofs.SameSteps.{bind_assoc, bind_each, bind_of, then_bind, refused_bind}
use Rattle.gs_tape.proofs.Shrinks.{enough_steps}

abbrev made : (ℕ × ℕ) × List ℕ → Result (CaptureHead × List ℕ) Fault
made y = Ok (record { audio = y.0.0; duration = y.0.1 }, y.1)

abbrev kept : {A : Type 0} → A → List ℕ → Result (A × List ℕ) Fault
kept x left = Ok (x, left)

finished : {A : Type 0} (bad : Bool) (fault : Fault) (x : A) (left : List ℕ) → (unless bad fault (Ok left) >>= kept x) ≡ unless bad fault (kept x left)
finished true fault x left = refl
finished false fault x left = refl

head_same : (size : ℕ) (bytes : List ℕ) → (head size bytes >>= made) ≡ head_at size bytes
unfolding head head_at text gives
head_same size bytes =
    then_bind _ _ made size bytes
    ∙ bind_assoc (text_at size (codes "GSTAPE01") bytes) _ _
    ∙ bind_each (text_at size (codes "GSTAPE01") bytes) _ _ (λ behind.
    then_bind _ _ made size behind ∙ refused_bind (number 2) _ _ _ size behind
    ∙ bind_each (number_at size 2 behind) _ _ (λ audio.
    bind_each (unless (nat_lt most_audio audio.0) (AudioLength audio.0) (Ok audio.1)) _ _ (λ known.
    then_bind _ _ made size known ∙ refused_bind (number 1) _ _ _ size known
    ∙ bind_each (number_at size 1 known) _ _ (λ ms.
    bind_each (unless (not (ms.0 == 5 || ms.0 == 10)) (Malformed 1 (size - length known)) (Ok ms.1)) _ _ (λ timed.
    then_bind _ _ made size timed ∙ refused_bind (number 1) _ _ _ size timed
    ∙ bind_each (number_at size 1 timed) _ _ (λ last.
    finished (not (last.0 == 0)) (Malformed 1 (size - length timed)) (record { audio = audio.0; duration = ms.0 }) last.1))))))

pub fault_in_head : (bytes : List ℕ) (fault : Fault) → head (length bytes) bytes ≡ Err fault → head_at (length bytes) bytes ≡ Err fault
fault_in_head bytes fault is =
    let size = length bytes in
    sym (head_same size bytes) ∙ bind_of (head size bytes) (Err fault) made is

pub head_read : (bytes left : List ℕ) (place audio duration : ℕ) → length bytes ≡ place + length left
    → head (length bytes) bytes ≡ Ok ((audio, duration), left)
    → (read_tape bytes ≡ reading place audio before_first left) × (audio_length bytes ≡ audio) × (audio_duration bytes ≡ duration)
unfolding read_tape
head_read bytes left place audio duration size is =
    let found : head_at (length bytes) bytes ≡ Ok (record { audio = audio; duration = duration }, left) =
    sym (head_same (length bytes) bytes) ∙ bind_of (head (length bytes) bytes) (Ok ((audio, duration), left)) made is in (
      ap (read_behind (length bytes)) found
          ∙ enough_steps (length bytes) (length left) (length bytes) audio before_first left (omega arith) (omega arith)
          ∙ ap (λ (s : ℕ). ticks_at (length left) s audio before_first left) size,
      ap audio_of_head found,
      ap duration_of_head found,
    )

-- a tape behind its head
pub opens_ok : (held : List ℕ) (left coming : Option (List ℕ)) (place : ℕ) (tape : Opened) (now : Option (List ℕ)) → held ≡ [] → place ≡ 0
    → ReadsStep head (to_come held left) coming place tape.place (Ok (tape.audio, tape.duration))
    → tape.before ≡ before_first → tape.stage ≡ Open → coming ≡ to_come tape.held now → Opens left now (Ok tape)
opens_ok held None coming place tape now none start read before stage here = tt
opens_ok held (Some bytes) coming place tape now none start read before stage here =
    let all : held ++ bytes ≡ bytes = ap (λ (l : List ℕ). l ++ bytes) none in
    let left : List ℕ = read.told.0 in
    let size : length bytes ≡ tape.place + length left = omega (arith, read.told.2, ap (λ (l : List ℕ). length l) all, start) in
    let same : place + length (held ++ bytes) ≡ length bytes = omega (arith, ap (λ (l : List ℕ). length l) all, start) in
    let given : head (length bytes) bytes ≡ Ok ((tape.audio, tape.duration), left) =
    sym (ap (λ (s : ℕ). head s (held ++ bytes)) same ∙ ap (head (length bytes)) all) ∙ read.told.3 in
    let got = head_read bytes left tape.place tape.audio tape.duration size given in
    record {
      unread_is = ap (λ (s : Stage). unread_at s (to_read tape.place tape.audio tape.before (to_come tape.held now))) stage
          ∙ ap (to_read tape.place tape.audio tape.before) (sym here ∙ read.told.1)
          ∙ ap (λ (b : Before). Some (reading tape.place tape.audio b left)) before
          ∙ ap (λ (r : ReadTape). Some r) (sym got.0);
      audio_is = sym got.1;
      duration_is = sym got.2;
    }

opens_err : (held : List ℕ) (left coming now : Option (List ℕ)) (place : ℕ) (e : TapeError) → held ≡ [] → place ≡ 0
    → Fails head (to_come held left) coming place e → Opens left now (Err e)
opens_err held None coming now place e none start failed = tt
opens_err held (Some bytes) coming now place e none start failed = by_fault (fault_of e) failed.known
  where
    by_fault : (o : Option Fault) → IfSome o (λ fault. head (place + length (held ++ bytes)) (held ++ bytes) ≡ Err fault)
        → IfSome o (λ fault. head_at (length bytes) bytes ≡ Err fault)
    by_fault None known = tt
    by_fault (Some fault) known =
        let all : held ++ bytes ≡ bytes = ap (λ (l : List ℕ). l ++ bytes) none in
        let same : place + length (held ++ bytes) ≡ length bytes = omega (arith, ap (λ (l : List ℕ). length l) all, start) in
        fault_in_head bytes fault (sym (ap (λ (s : ℕ). head s (held ++ bytes)) same ∙ ap (head (length bytes)) all) ∙ known)

pub opens_handed : (held : List ℕ) (left coming now : Option (List ℕ)) (place : ℕ) (r : Result Opened TapeError) (e : TapeError) → held ≡ [] → place ≡ 0
    → IsErrAnd r (λ y. y ≡ e) → Fails head (to_come held left) coming place e → Opens left now r
opens_handed held left coming now place r e none start is failed =
    let p = err_from_is_err_and r is in
    let Failed : TapeError → Result Opened TapeError = λ y. Err y in
    let P : Result Opened TapeError → Type 0 = Opens left now in
    subst P (sym (p.1 ∙ ap Failed p.2)) (opens_err held left coming now place e none start failed)
