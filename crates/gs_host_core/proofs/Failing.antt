-- What a turn answers where a part of it failed, and what it counts.
use Rattle.std.proofs.Common.{◌≡◌, ◌⊎◌, ℕ, Result, Ok, Err, refl, sym, subst, ◌∙◌, inl, inr}
use Rattle.gs_bytes.specs.declared.failed.Failed.{Failed}
use Rattle.gs_bytes.specs.declared.failed.Failed.TheVariants.{Fault, NoMemory}
use Rattle.gs_bytes.specs.Link.{IsCountedLink}
use Rattle.gs_refs.specs.declared.sent.Sent.{Sent}
use Rattle.gs_refs.specs.declared.error.ChooseError.{ChooseError}
use Rattle.gs_refs.specs.declared.error.ChooseError.TheVariants as choose_error
use Rattle.gs_host_core.specs.declared.error.TurnError.{TurnError}
use Rattle.gs_host_core.specs.declared.error.TurnError.TheVariants as turn_error
use Rattle.gs_host_core.specs.Errors.{IsCountedTurn, link_error, turn_result}

-- a link that failed
pub link-answer : (r : Result Sent TurnError) (f : Failed) → r ≡ Err (link_error f)
    → (r ≡ Err turn_error.LinkFault) ⊎ (r ≡ Err turn_error.OutOfMemory)
link-answer r Fault e = inl e
link-answer r NoMemory e = inr e

pub counted-video : (v w a : ℕ) (f : Failed) → IsCountedLink {A = Unit {0}} v w (Err f) → IsCountedTurn v w a a (Err (link_error f))
counted-video v w a Fault p = inl (p, refl)
counted-video v w a NoMemory p = (p, refl)

pub counted-audio : (v w a b : ℕ) (f : Failed) → w ≡ v → IsCountedLink {A = Unit {0}} a b (Err f) → IsCountedTurn v w a b (Err (link_error f))
counted-audio v w a b Fault same p = inr (same, p)
counted-audio v w a b NoMemory same p = (same, p)

-- no link was called
chosen : (v a : ℕ) (x : Result Sent ChooseError) → IsCountedTurn v v a a (turn_result x)
chosen v a (Ok sent) = (refl, refl)
chosen v a (Err choose_error.Ended) = (refl, refl)
chosen v a (Err (choose_error.OldTick last)) = (refl, refl)

pub counted-none : (v a : ℕ) (r : Result Sent TurnError) (x : Result Sent ChooseError) → (r ≡ turn_result x) ⊎ (r ≡ Err turn_error.OutOfMemory)
    → IsCountedTurn v v a a r
counted-none v a r x e = elim e [
  | inl answered ↦ subst (IsCountedTurn v v a a) (sym answered) (chosen v a x)
  | inr refused ↦ subst (IsCountedTurn v v a a) (sym refused) (refl, refl)
]

-- a choice that was refused is no fault of a link
no_fault : (x : Result Sent ChooseError) → turn_result x ≡ Err turn_error.LinkFault → ⊥
no_fault (Ok sent) e = cc
no_fault (Err choose_error.Ended) e = cc
no_fault (Err (choose_error.OldTick last)) e = cc

pub refused-no_fault : (r : Result Sent TurnError) (x : Result Sent ChooseError) → (r ≡ turn_result x) ⊎ (r ≡ Err turn_error.OutOfMemory)
    → r ≡ Err turn_error.LinkFault → ⊥
refused-no_fault r x e fault = elim e [
  | inl answered ↦ no_fault x (sym answered ∙ fault)
  | inr refused ↦ let other : ◌≡◌ {A = Result Sent TurnError} (Err turn_error.OutOfMemory) (Err turn_error.LinkFault) = sym refused ∙ fault in cc other
]

-- what was sent wasn't refused
sent_answer : (x : Result Sent ChooseError) (s : Sent) (e : ChooseError) → Ok s ≡ turn_result x → x ≡ Err e → ⊥
sent_answer (Ok sent) s e answered refused = cc
sent_answer (Err error) s e answered refused = cc

pub sent-not_refused : (x : Result Sent ChooseError) (s : Sent) (e : ChooseError) → (Ok s ≡ turn_result x) ⊎ (Ok s ≡ Err turn_error.OutOfMemory)
    → x ≡ Err e → ⊥
sent-not_refused x s e answer refused = elim answer [
  | inl answered ↦ sent_answer x s e answered refused
  | inr none ↦ cc none
]

-- the answer of a choice, handed on
pub handed-on : (r : Result Sent TurnError) (e : TurnError) (x : Result Sent ChooseError) → r ≡ Err e
    → (Err e ≡ turn_result x) ⊎ (◌≡◌ {A = Result Sent TurnError} (Err e) (Err turn_error.OutOfMemory)) → (r ≡ turn_result x) ⊎ (r ≡ Err turn_error.OutOfMemory)
handed-on r e x is answer = elim answer [ inl answered ↦ inl (is ∙ answered) | inr none ↦ inr (is ∙ none) ]
