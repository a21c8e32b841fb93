-- What a buffered reader hands on, call by call.
use Rattle.std.proofs.Common.{◌≡◌, ◌≢◌, Result, Ok, Err, subst, ℕ, ◌+◌, ◌<◌, ◌≤◌, Option, None, Some, List, [], ◌∷◌, ◌++◌, length, take, drop, refl, sym}
use Rattle.std.proofs.Common.{ap, ◌∙◌, arith, append_assoc, take-append-drop}
use Rattle.std.proofs.lemmas.List.{append-nil}
use Rattle.std.specs.Io.KnownBytes.{Appends, Consumes, Keeps}
use Rattle.std.proofs.KnownBytes.{Appends-nil, Appends-trans, Consumes-nil, Consumes-trans}
use Rattle.gs_reader.specs.Buffered.{HandsOn, HandingOnIsAsTold}
use Rattle.gs_bytes.specs.declared.failed.Failed.{Failed}
use Rattle.gs_bytes.specs.declared.failed.Failed.TheVariants.{Fault, NoMemory}
use Rattle.gs_bytes.specs.Outside.{IsCounted}

-- a reader hands on what it holds
pub hands_on_held : (held held' : List ℕ) (left taken : Option (List ℕ)) (bytes : List ℕ) → held ≡ bytes ++ held'
    → HandsOn held held' left left taken taken bytes
hands_on_held held held' left taken bytes e =
    record { came = []; parts = append-nil held ∙ e; left_after = Consumes-nil left; taken_after = Appends-nil taken }

-- and what comes
pub hands_on_nothing : (held' : List ℕ) (left left' taken taken' : Option (List ℕ)) → Consumes left left' held' → Appends taken taken' held'
    → HandsOn [] held' left left' taken taken' []
hands_on_nothing held' left left' taken taken' l t = record { came = held'; parts = refl; left_after = l; taken_after = t }

pub hands_on_more : (held middle held' : List ℕ) (left left' left'' taken taken' taken'' : Option (List ℕ)) (bytes more : List ℕ)
    → HandsOn held middle left left' taken taken' bytes → HandsOn middle held' left' left'' taken' taken'' more
    → HandsOn held held' left left'' taken taken'' (bytes ++ more)
hands_on_more held middle held' left left' left'' taken taken' taken'' bytes more first second = record {
  came = first.came ++ second.came;
  parts = sym (append_assoc held first.came second.came) ∙ ap (λ (l : List ℕ). l ++ second.came) first.parts
      ∙ append_assoc bytes middle second.came ∙ ap (λ (l : List ℕ). bytes ++ l) second.parts ∙ sym (append_assoc bytes more held');
  left_after = Consumes-trans left left' left'' first.came second.came first.left_after second.left_after;
  taken_after = Appends-trans taken taken' taken'' first.came second.came first.taken_after second.taken_after;
}

pub handing_on_is_as_told : HandingOnIsAsTold
handing_on_is_as_told held held' None left' taken taken' bytes h = tt
handing_on_is_as_told held held' (Some xs) None taken taken' bytes h = h.left_after
handing_on_is_as_told held held' (Some xs) (Some ys) taken taken' bytes h =
    ap (λ (l : List ℕ). held ++ l) h.left_after ∙ sym (append_assoc held h.came ys) ∙ ap (λ (l : List ℕ). l ++ ys) h.parts ∙ append_assoc bytes held' ys

-- a part of what the reader holds after it was filled, behind what was handed on
pub hands_on_part : (held middle filled held' : List ℕ) (left left' left'' taken taken' taken'' : Option (List ℕ)) (bytes bytes' : List ℕ) (room : ℕ)
    → HandsOn held middle left left' taken taken' bytes → HandsOn middle filled left' left'' taken' taken'' []
    → bytes' ≡ bytes ++ take room filled → held' ≡ drop room filled
    → HandsOn held held' left left'' taken taken'' bytes'
hands_on_part held middle filled held' left left' left'' taken taken' taken'' bytes bytes' room first second moved rest =
    let parts : filled ≡ take room filled ++ held' = sym (take-append-drop room filled) ∙ ap (λ (l : List ℕ). take room filled ++ l) (sym rest) in
    let both = hands_on_more held middle filled left left' left'' taken taken' taken'' bytes [] first second in
    let all = hands_on_more held filled held' left left'' left'' taken taken'' taken'' (bytes ++ []) (take room filled) both
    (hands_on_held filled held' left'' taken'' (take room filled) parts) in
    let same : (bytes ++ []) ++ take room filled ≡ bytes' = ap (λ (l : List ℕ). l ++ take room filled) (append-nil bytes) ∙ sym moved in
    let Handed : List ℕ → Type 0 = HandsOn held held' left left'' taken taken'' in
    subst Handed same all

-- a count that changed is that of a fault
pub counted_fault : (before now : ℕ) (e : Failed) → IsCounted before now (Err e) → now ≢ before → e ≡ Fault
counted_fault before now Fault counted changed = refl
counted_fault before now NoMemory counted changed = absurd (changed counted)
