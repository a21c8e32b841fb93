-- A range of lost frames leaves the number of frames that were sent.
use Rattle.std.proofs.Common.{◌≡◌, ◌∷◌, List, true, false, inl, inr, ap, ◌∙◌, refl}
use Rattle.std.specs.Prelude.{ℤ, Bool, if◌then◌else◌, unsigned_abs}
use Rattle.std.proofs.lemmas.Bool.{cases_Bool}
use Rattle.gs_refs.specs.declared.entry.Entry.{Entry}
use Rattle.gs_refs.specs.declared.entry.Entry.TheVariants as entry
use Rattle.gs_refs.specs.History.{frames, has_ended}
use Rattle.gs_refs.specs.Answers.{is_range_sent, named_range}

named_keeps : (h : List Entry) (first last : ℤ) → frames (named_range (frames h) first last ∷ h) ≡ frames h
named_keeps h first last =
    let At : Bool → Type 0 =
    λ b. frames ((if b then entry.Invalid (unsigned_abs first) (unsigned_abs last) else entry.Ended first last) ∷ h) ≡ frames h in
    elim (is_range_sent (frames h) first last) as At [ true ↦ refl | false ↦ refl ]

pub losses_keep : (h h' : List Entry) (first last : ℤ) → (has_ended h ≡ true → h' ≡ h)
    → (has_ended h ≡ false → h' ≡ named_range (frames h) first last ∷ h) → frames h' ≡ frames h
losses_keep h h' first last unchanged named = elim (cases_Bool (has_ended h)) [
  | inl e ↦ ap frames (unchanged e)
  | inr e ↦ ap frames (named e) ∙ named_keeps h first last
]
