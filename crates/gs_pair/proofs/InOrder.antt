-- Frames that rise have their references before them where each has at its entry.
use Rattle.std.proofs.Common.{ℕ, ℤ, ◌≡◌, ◌⊎◌, ◌+◌, ◌<◌, ◌↔◌, Bool, IsTrue, List, [], ◌∷◌, ◌++◌, length, get_or, take, drop, reverse, Some, None, sym, ap, subst}
use Rattle.std.proofs.Common.{◌∙◌, arith, inl, inr, take-append-drop}
use Rattle.std.specs.List.Sorted.{IsStrictlyIncreasing}
use Rattle.std.proofs.lemmas.Bool.{cases_eq}
use Rattle.std.proofs.lemmas.List.{reverse-append}
use Rattle.gs_refs.specs.declared.entry.Entry.{Entry}
use Rattle.gs_refs.specs.declared.entry.Entry.TheVariants.{Invalid, IdrAsked, Ended}
use Rattle.gs_refs.specs.History.{frames, reference_or_none, reference_of}
use Rattle.gs_refs.proofs.Lookups.{sent_frame-none, reference_of-before}
use Rattle.gs_pair.specs.References.{StandsBefore, ReferencesHeldSince}
use Rattle.gs_pair.proofs.Cuts.{stands_once}

-- ---- references as a history grows

-- the next frame refers to nothing yet
next_refers_to_none : (h : List Entry) (v r : ℕ) → frames h < v → reference_of h v ≡ Some r → ⊥
next_refers_to_none h v r above e =
    let none : reference_of h v ≡ None = ap reference_or_none (sent_frame-none h v above) in absurd (cc (none, e))

-- an entry that sends nothing
abbrev pub SendsNone : Entry → Type 0
SendsNone e = ((x : ℕ) × (y : ℕ) × (e ≡ Invalid x y)) ⊎ ((e ≡ IdrAsked) ⊎ ((x : ℤ) × (y : ℤ) × (e ≡ Ended x y)))

pub unsent_refers_to_none : (e : Entry) (h : List Entry) (v r : ℕ) → SendsNone e → frames h < v → reference_of (e ∷ h) v ≡ Some r → ⊥
unsent_refers_to_none e h v r (inl (x, y, is)) above refers =
    next_refers_to_none h v r above (sym (ap (λ (k : Entry). reference_of (k ∷ h) v) is) ∙ refers)
unsent_refers_to_none e h v r (inr (inl is)) above refers =
    next_refers_to_none h v r above (sym (ap (λ (k : Entry). reference_of (k ∷ h) v) is) ∙ refers)
unsent_refers_to_none e h v r (inr (inr (x, y, is))) above refers =
    next_refers_to_none h v r above (sym (ap (λ (k : Entry). reference_of (k ∷ h) v) is) ∙ refers)

-- what a frame refers to stays
reference_stays : (more h : List Entry) (v r : ℕ) → reference_of h v ≡ Some r → reference_of (more ++ h) v ≡ Some r
reference_stays [] h v r refers = refers
reference_stays (e ∷ more) h v r refers =
    let before = reference_stays more h v r refers in
    reference_of-before e (more ++ h) v (λ last. absurd (next_refers_to_none (more ++ h) v r (omega arith) before)) ∙ before

-- ---- what is held

-- the frame of this number, where it is among those handed, has its reference before it
abbrev pub IsNextHeld : Entry → List Entry → List ℕ → List ℕ → ℕ → Type 0
IsNextHeld e h handed cuts number =
    (place reference : ℕ) → place < length handed → get_or handed place 0 ≡ number → reference_of (e ∷ h) number ≡ Some reference
    → StandsBefore handed cuts place reference

pub held-more : (e : Entry) (h : List Entry) (handed cuts : List ℕ) (number : ℕ) → number ≡ frames h + 1 → ReferencesHeldSince h handed cuts
    → IsNextHeld e h handed cuts number → ReferencesHeldSince (e ∷ h) handed cuts
held-more e h handed cuts number next held newest place reference within refers = elim (cases_eq (get_or handed place 0) number) [
  | inl it ↦
      let Refers : ℕ → Type 0 = λ v. reference_of (e ∷ h) v ≡ Some reference in
      newest place reference within it (subst Refers it refers)
  | inr other ↦
      held place reference within
      (sym (reference_of-before e h (get_or handed place 0) (λ last. other (last ∙ sym next))) ∙ refers)
]

pub held-next : (e : Entry) (h : List Entry) (handed cuts : List ℕ) (number : ℕ) → ReferencesHeldSince (e ∷ h) handed cuts → IsNextHeld e h handed cuts number
held-next e h handed cuts number held place reference within at refers =
    let Refers : ℕ → Type 0 = λ v. reference_of (e ∷ h) v ≡ Some reference in
    held place reference within (subst Refers (sym at) refers)

-- what holds of all entries holds of the first ones
pub held-first : (entries : List Entry) (n : ℕ) (handed cuts : List ℕ) → ReferencesHeldSince (reverse entries) handed cuts
    → ReferencesHeldSince (reverse (take n entries)) handed cuts
held-first entries n handed cuts held place reference within refers =
    let all : reverse (drop n entries) ++ reverse (take n entries) ≡ reverse entries =
    sym (reverse-append (take n entries) (drop n entries)) ∙ ap (λ (l : List Entry). reverse l) (take-append-drop n entries) in
    let Refers : List Entry → Type 0 = λ h. reference_of h (get_or handed place 0) ≡ Some reference in
    held place reference within
    (subst Refers all (reference_stays (reverse (drop n entries)) (reverse (take n entries)) (get_or handed place 0) reference refers))

-- a frame that stands at this place stands at no other
pub held-once : (handed cuts : List ℕ) (place number reference : ℕ) (r : Bool) → IsStrictlyIncreasing handed → place < length handed
    → get_or handed place 0 ≡ number → IsTrue r ↔ StandsBefore handed cuts place reference
    → IsTrue r ↔ ((p : ℕ) → p < length handed → get_or handed p 0 ≡ number → StandsBefore handed cuts p reference)
held-once handed cuts place number reference r rise within at decides = (
  λ e p below it.
      let Stands : ℕ → Type 0 = λ q. StandsBefore handed cuts q reference in
      subst Stands (stands_once handed place p rise within below (at ∙ sym it)) (decides.0 e),
  λ all. decides.1 (all place within at),
)
