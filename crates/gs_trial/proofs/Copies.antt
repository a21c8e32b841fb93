-- A generated file that is copied piece by piece.
use Rattle.std.proofs.Common.{◌≡◌, ◌<◌, ◌≤◌, ◌++◌, ◌∙◌, ℕ, List, [], length, length-append, length-take-le, take, Option, refl, sym, ap, subst, arith}
use Rattle.std.proofs.Common.{append-nil, append_assoc, Result, Ok, Err, ◌⊎◌, inl, inr}
use Rattle.std.specs.Prelude.{IfErr, OnErr, OnOk, ⊤}
use Rattle.std.specs.Io.KnownBytes.{Appends}
use Rattle.std.proofs.KnownBytes.{Appends-nil, Appends-trans}
use Rattle.std.proofs.Math.Seq.{take-length}
use Rattle.gs_bytes.specs.Outside.{AppendsPart}
use Rattle.gs_schedule.specs.declared.status.TrialStatus.{TrialStatus}
use Rattle.gs_schedule.specs.declared.status.TrialStatus.TheVariants as status
use Rattle.gs_run.specs.Generated.{generated_bytes}
use Rattle.gs_trial.specs.Trial.{AnswersTape, WritesFront, status_answer}
use Rattle.gs_trial.proofs.Texts.{front_behind, front_longer}

-- a front of the whole was written, and the rest is left
pub record IsCopied (whole left : List ℕ) (a b : Option (List ℕ)) : Type 0 where
  pub front : List ℕ
  pub whole_is : whole ≡ front ++ left
  pub writes : Appends a b front

pub copied_none : (whole : List ℕ) (a : Option (List ℕ)) → IsCopied whole whole a a
copied_none whole a = record { front = []; whole_is = refl; writes = Appends-nil a }

-- the next piece was read and written
pub copied_more : (whole left left' piece : List ℕ) (a b c : Option (List ℕ)) → IsCopied whole left a b → left ≡ piece ++ left' → Appends b c piece
    → IsCopied whole left' a c
copied_more whole left left' piece a b c is read wrote = record {
  front = is.front ++ piece;
  whole_is = is.whole_is ∙ ap (λ (l : List ℕ). is.front ++ l) read ∙ sym (append_assoc is.front piece left');
  writes = Appends-trans a b c is.front piece is.writes wrote;
}

-- a part of it was written
pub copied_part : (whole left left' piece : List ℕ) (a b c : Option (List ℕ)) → IsCopied whole left a b → left ≡ piece ++ left' → AppendsPart b c piece
    → WritesFront a c whole
copied_part whole left left' piece a b c is read (m, less, wrote) =
    let same : whole ≡ (is.front ++ piece) ++ left' =
    is.whole_is ∙ ap (λ (l : List ℕ). is.front ++ l) read ∙ sym (append_assoc is.front piece left') in
    subst (WritesFront a c) (sym same)
    (front_longer a c (is.front ++ piece) left' (front_behind a b c is.front piece is.writes (m, wrote)))

pub copied_front : (whole left : List ℕ) (a b : Option (List ℕ)) → IsCopied whole left a b → WritesFront a b whole
copied_front whole left a b is =
    subst (WritesFront a b) (sym is.whole_is)
    (front_longer a b is.front left (length is.front, subst (Appends a b) (sym (take-length is.front)) is.writes))

-- nothing is left
pub copied_all : (whole left : List ℕ) (a b : Option (List ℕ)) → IsCopied whole left a b → left ≡ [] → Appends a b whole
copied_all whole left a b is none =
    subst (Appends a b) (sym (is.whole_is ∙ ap (λ (l : List ℕ). is.front ++ l) none ∙ append-nil is.front)) is.writes

-- a piece that isn't empty makes what is left shorter
pub shorter : (n : ℕ) (left left' piece : List ℕ) → left ≡ take n piece ++ left' → n ≤ length piece → 0 < n → length left' < length left
shorter n left left' piece is fits some =
    omega (arith, ap length is ∙ length-append {A = ℕ} (take n piece) left', length-take-le n piece fits, some)

-- ---- what the calls say together

pub tape_answers : (number ticks : ℕ) (whole : List ℕ) (a b : Option (List ℕ)) (r : Result ⊤ TrialStatus) → whole ≡ generated_bytes number ticks
    → OnOk r (Appends a b whole)
    → OnErr r (WritesFront a b whole) → IfErr r (λ e. (e ≡ status.WriteFault) ⊎ (e ≡ status.OutOfMemory)) → AnswersTape number ticks a b (status_answer r)
tape_answers number ticks whole a b (Ok done) is all front cause = (refl, subst (Appends a b) is all)
tape_answers number ticks whole a b (Err e) is all front cause =
    let written : WritesFront a b (generated_bytes number ticks) = subst (WritesFront a b) is front in
    elim cause [
      | inl fault ↦ subst (AnswersTape number ticks a b) (sym fault) written
      | inr none ↦ subst (AnswersTape number ticks a b) (sym none) written
    ]
