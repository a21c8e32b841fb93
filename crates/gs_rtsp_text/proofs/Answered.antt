-- What a reader returned, once it is known which answer it is and that this answer is right.
use Rattle.std.proofs.Common.{◌≡◌, ℕ, Bool, List, Result, Ok, Err, subst}
use Rattle.gs_rtsp_text.specs.declared.message.Read.{Read}
use Rattle.gs_rtsp_text.specs.declared.message.Read.TheVariants as reads
use Rattle.gs_rtsp_text.specs.declared.message.TextError.{TextError}
use Rattle.gs_rtsp_text.specs.declared.message.TextError.TheVariants as errors
use Rattle.gs_rtsp_text.specs.Message.{TextMessage, TextAnswer, AnswersText, IfWhole, IsAnswer, IsWhole, IsBadPlace, IsOpen}
use Rattle.gs_rtsp_text.specs.Laws.{HasOneAnswer}

abbrev ok : {T : Type 0} → Read T → Result (Read T) TextError
ok r = Ok r

abbrev err : {T : Type 0} → TextError → Result (Read T) TextError
err {T} e = Err e

module _ {T S : Type 0} (IsFirstLine : List ℕ → S → Type 0) (may_have : ℕ → Bool) (view : T → TextMessage S) (bytes : List ℕ) where
  pub whole_from : (r : Result (Read T) TextError) (a : TextAnswer S) → AnswersText view r a → IsAnswer IsFirstLine may_have bytes a
      → IfWhole r (λ value used. IsWhole IsFirstLine may_have bytes (view value) used)
  whole_from (Ok (reads.Whole value used)) a e h = subst (IsAnswer IsFirstLine may_have bytes) e h
  whole_from (Ok reads.More) a e h = tt
  whole_from (Err e) a f h = tt

  pub bad_text_from : (r : Result (Read T) TextError) (a : TextAnswer S) → AnswersText view r a → IsAnswer IsFirstLine may_have bytes a → (place : ℕ)
      → r ≡ err (errors.BadText place) → IsBadPlace IsFirstLine may_have bytes place
  bad_text_from r a e h place is = subst (IsAnswer IsFirstLine may_have bytes)
      (let P : Result (Read T) TextError → Type 0 = λ x. AnswersText view x a in subst P is e) h

  pub more_from : (r : Result (Read T) TextError) (a : TextAnswer S) → AnswersText view r a → IsAnswer IsFirstLine may_have bytes a → r ≡ ok reads.More
      → IsOpen IsFirstLine may_have bytes
  more_from r a e h is = subst (IsAnswer IsFirstLine may_have bytes) (let P : Result (Read T) TextError → Type 0 = λ x. AnswersText view x a in subst P is e) h

  pub only_from : HasOneAnswer IsFirstLine may_have → (r : Result (Read T) TextError) (a : TextAnswer S) → AnswersText view r a
      → IsAnswer IsFirstLine may_have bytes a
      → (b : TextAnswer S) → IsAnswer IsFirstLine may_have bytes b → AnswersText view r b
  only_from one r a e h b k = subst (AnswersText view r) (one bytes a b h k) e
