-- The answer to a message, by what stands behind its first line.
use Rattle.std.proofs.Common.{◌≡◌, ℕ, ◌+◌, ◌-◌, Bool, true, false, cond, leb, List, [], length, Option, Some, None, Result, Ok, Err, refl, sym, ap, subst, ◌∙◌}
use Rattle.std.proofs.Common.{take, drop}
use Rattle.std.specs.Prelude.{⊤, MatchOption}
use Rattle.gs_rtsp_text.specs.declared.header.Header.{Header}
use Rattle.gs_rtsp_text.specs.declared.message.Read.{Read}
use Rattle.gs_rtsp_text.specs.declared.message.Read.TheVariants as reads
use Rattle.gs_rtsp_text.specs.declared.message.TextError.{TextError}
use Rattle.gs_rtsp_text.specs.declared.message.TextError.TheVariants as errors
use Rattle.gs_rtsp_text.specs.declared.read.Behind.{Behind}
use Rattle.gs_rtsp_text.specs.declared.stop.Stop.{Stop}
use Rattle.gs_rtsp_text.specs.Message.{TextAnswer, AnswersText, TextMessage, BadText, More, Whole, behind_message, most_head}
use Rattle.gs_rtsp_text.specs.Reading.{HeadFields, with_start}
use Rattle.gs_rtsp_text.specs.Reading.{◌>>=◌, text_answer, body_answer, head_behind, head_by, place_answer, rest_of_head, stop_place}

-- the same answer, where it is known what the first line says
abbrev pub started : {S : Type 0} → S → TextAnswer ⊤ → TextAnswer S
started start (Whole m used) = Whole (record { start = start; headers = m.headers; body = m.body }) used
started start (BadText place) = BadText place
started start More = More

module _ {S : Type 0} (start : S) (bytes : List ℕ) where
  started_place : (o : Option ℕ) → place_answer o ≡ started start (place_answer o)
  started_place None = refl
  started_place (Some place) = refl

  started_body : (place : ℕ) (headers : List Header) (n : ℕ) → body_answer bytes place start headers n ≡ started start (body_answer bytes place tt headers n)
  started_body place headers n = by_test (leb (place + n) (length bytes))
    where
      by_test : (t : Bool) → cond t (Whole (record { start = start; headers = headers; body = take n (drop place bytes) }) (place + n)) More
          ≡ started start (cond t (Whole (record { start = tt; headers = headers; body = take n (drop place bytes) }) (place + n)) More)
      by_test true = refl
      by_test false = refl

  started_by : (r : Result (HeadFields × List ℕ) Stop) → text_answer bytes (r >>= λ x. Ok (with_start start x))
      ≡ started start (text_answer bytes (r >>= λ x. Ok (with_start tt x)))
  started_by (Ok x) = started_body (length (take most_head bytes) - length x.1) x.0.headers x.0.size
  started_by (Err stop) = started_place (stop_place bytes stop)

  -- the answer behind a first line that was read
  pub answer_started : (first : List ℕ → Result (S × List ℕ) Stop) (may_have : ℕ → Bool) (front rest : List ℕ) → first front ≡ Ok (start, rest)
      → text_answer bytes (head_by first may_have front) ≡ started start (text_answer bytes (head_behind tt may_have rest))
  unfolding head_by
  answer_started first may_have front rest e =
      ap (λ (r : Result (S × List ℕ) Stop). text_answer bytes (r >>= λ x. rest_of_head may_have [] x.1 >>= λ y. Ok (with_start x.0 y))) e
      ∙ started_by (rest_of_head may_have [] rest)

-- the answer where the first line stops
pub answer_stopped : {S : Type 0} (bytes : List ℕ) (first : List ℕ → Result (S × List ℕ) Stop) (may_have : ℕ → Bool) (front : List ℕ) (stop : Stop)
    → first front ≡ Err stop → text_answer bytes (head_by first may_have front) ≡ place_answer (stop_place bytes stop)
unfolding head_by
answer_stopped {S} bytes first may_have front stop e =
    ap (λ (r : Result (S × List ℕ) Stop). text_answer bytes (r >>= λ x. rest_of_head may_have [] x.1 >>= λ y. Ok (with_start x.0 y))) e

-- ---- what a reader returns

abbrev answers : {T S : Type 0} → (T → TextMessage S) → TextAnswer S → Result (Read T) TextError → Type 0
answers view a r = AnswersText view r a

-- by the place of a wrong byte
pub place_answered : {T S : Type 0} (view : T → TextMessage S) (o : Option ℕ) (r : Result (Read T) TextError) (a : TextAnswer S)
    → MatchOption o (r ≡ Ok reads.More) (λ at. r ≡ Err (errors.BadText at)) → a ≡ place_answer o → AnswersText view r a
place_answered view None r a h e = subst (answers view a) (sym h) e
place_answered view (Some at) r a h e = subst (answers view a) (sym h) e

-- by what was read behind the first line
pub err_answered : {T S : Type 0} (view : T → TextMessage S) (start : S) (e : TextError) (b : TextAnswer ⊤) (a : TextAnswer S) → a ≡ started start b
    → AnswersText behind_message (Err e) b → AnswersText view (Err e) a
err_answered view start (errors.BadText place) b a is h = is ∙ ap (started start) h
err_answered view start errors.OutOfMemory b a is h = tt

pub more_answered : {S : Type 0} (start : S) (read : Read Behind) (b : TextAnswer ⊤) (a : TextAnswer S) → a ≡ started start b → read ≡ reads.More
    → AnswersText behind_message (Ok read) b → a ≡ More
more_answered start read b a is more h =
    let P : Read Behind → Type 0 = λ r. AnswersText behind_message (Ok r) b in
    let e : b ≡ More = subst P more h in
    is ∙ ap (started start) e

pub whole_answered : {S : Type 0} (start : S) (read : Read Behind) (value : Behind) (used : ℕ) (b : TextAnswer ⊤) (a : TextAnswer S) → a ≡ started start b
    → read ≡ reads.Whole value used → AnswersText behind_message (Ok read) b
    → a ≡ Whole (record { start = start; headers = value.headers; body = value.body }) used
whole_answered start read value used b a is whole h =
    let P : Read Behind → Type 0 = λ r. AnswersText behind_message (Ok r) b in
    let e : b ≡ Whole (behind_message value) used = subst P whole h in
    is ∙ ap (started start) e
