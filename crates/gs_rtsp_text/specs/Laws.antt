-- What holds of the answers to bytes that come one after the other.
use Rattle.std.specs.Prelude.{◌≡◌, ℕ, Bool, List, ◌++◌, take}
use Rattle.std.specs.List.{concat}
use Rattle.gs_rtsp_text.specs.Message.{TextAnswer, More, IsAnswer}

module _ {S : Type 0} (IsFirstLine : List ℕ → S → Type 0) (may_have : ℕ → Bool) where
  -- any bytes have one answer
  abbrev pub HasOneAnswer : Type 0
  HasOneAnswer = (bytes : List ℕ) (a b : TextAnswer S) → IsAnswer IsFirstLine may_have bytes a
      → IsAnswer IsFirstLine may_have bytes b → a ≡ b

  -- as soon as there is an answer it stays, whatever comes behind
  abbrev pub Stays : Type 0
  Stays = (bytes more : List ℕ) (a : TextAnswer S) → IsAnswer IsFirstLine may_have bytes a → (a ≡ More → ⊥)
      → IsAnswer IsFirstLine may_have (bytes ++ more) a

  -- a stream has one answer, whatever pieces it comes in and whenever there is one
  abbrev pub IsSameInPieces : Type 0
  IsSameInPieces = (pieces others : List (List ℕ)) (k l : ℕ) (a b : TextAnswer S) → concat pieces ≡ concat others
      → IsAnswer IsFirstLine may_have (concat (take k pieces)) a → (a ≡ More → ⊥)
      → IsAnswer IsFirstLine may_have (concat (take l others)) b → (b ≡ More → ⊥)
      → a ≡ b
