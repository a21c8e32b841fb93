-- What a choice refers to.
use Rattle.std.proofs.Common.{◌≡◌, ◌≤◌, ◌+◌, ℕ, zero, suc, Bool, true, false, not, ◌&&◌, ◌||◌, List, [], ◌∷◌, Option, Some, None, refl, sym, subst, ◌∙◌, arith}
use Rattle.std.proofs.Common.{inl, inr}
use Rattle.std.specs.Prelude.{◌==◌, if◌then◌else◌}
use Rattle.std.proofs.lemmas.Bool.{cond-true, cond-false, cases_Bool, cases_eq, and_parts, and_from, or_cases, eqb-true, false≢true}
use Rattle.gs_tape.specs.Tick.{Tick}
use Rattle.gs_refs.specs.declared.entry.Entry.{Entry}
use Rattle.gs_refs.specs.declared.entry.Entry.TheVariants.{Sent, Invalid, IdrAsked, Ended}
use Rattle.gs_refs.specs.History.{frames, tick_of, last_tick, is_valid, IsValid, idr_is_owed}
use Rattle.gs_refs.specs.Choice.{Choice, names, greatest_named, idr, re_entry, choice}
use Rattle.gs_refs.specs.ChoiceLaws.{IsSound}

-- a valid frame was sent
pub valid_was_sent : (h : List Entry) (v : ℕ) → IsValid h v → (1 ≤ v) × (v ≤ frames h)
valid_was_sent [] v valid = absurd (false≢true valid)
valid_was_sent (Sent tick kind reference ∷ h) v valid = elim (or_cases (v == frames h + 1) (not (kind == 2) && is_valid h v) valid) [
  | inl last ↦ let this : v ≡ frames h + 1 = eqb-true v (frames h + 1) last in (omega arith, omega arith)
  | inr kept ↦
      let before = valid_was_sent h v (and_parts (not (kind == 2)) (is_valid h v) kept).1 in
      (before.0, omega (arith, before.1))
]
valid_was_sent (Invalid first last ∷ h) v valid = valid_was_sent h v (and_parts _ (is_valid h v) valid).1
valid_was_sent (IdrAsked ∷ h) v valid = valid_was_sent h v valid
valid_was_sent (Ended first last ∷ h) v valid = valid_was_sent h v valid

-- ---- the greatest frame that is valid and named

abbrev is_usable : List Entry → Tick → ℕ → Bool
is_usable h t v = is_valid h v && names t (tick_of h v)

-- what the greatest usable frame of the first n is
abbrev IsGreatest : List Entry → Tick → ℕ → Option ℕ → Type 0
IsGreatest h t n None = Unit {0}
IsGreatest h t n (Some v) = (is_usable h t v ≡ true) × ((w : ℕ) → 1 ≤ w → w ≤ n → is_usable h t w ≡ true → w ≤ v)

greatest_is : (h : List Entry) (t : Tick) (n : ℕ) → IsGreatest h t n (greatest_named h t n)
greatest_is h t zero = tt
greatest_is h t (suc n) = elim (cases_Bool (is_usable h t (suc n))) [
  | inl usable ↦
      let P : Option ℕ → Type 0 = IsGreatest h t (suc n) in
      subst P (sym (cond-true (is_usable h t (suc n)) (Some (suc n)) (greatest_named h t n) usable)) (usable, λ w least most u. most)
  | inr other ↦
      let P : Option ℕ → Type 0 = IsGreatest h t (suc n) in
      subst P (sym (cond-false (is_usable h t (suc n)) (Some (suc n)) (greatest_named h t n) other)) (more (greatest_named h t n) (greatest_is h t n) other)
]
  where
    more : (o : Option ℕ) → IsGreatest h t n o → is_usable h t (suc n) ≡ false → IsGreatest h t (suc n) o
    more None is other = tt
    more (Some v) is other = (
      is.0,
      λ w least most u. elim (cases_eq w (suc n)) [
        | inl last ↦
            let Usable : ℕ → Type 0 = λ k. is_usable h t k ≡ true in
            absurd (false≢true (sym other ∙ subst Usable last u))
        | inr before ↦ is.1 w least (omega arith) u
      ],
    )

-- ---- the choice

sound_idr : (h : List Entry) (t : Tick) → IsSound h t idr
sound_idr h t = record {
  known = inr (inl refl);
  idr_refers_to_none = λ e. refl;
  refers_to_valid = λ other. absurd (other refl);
  refers_to_named = λ other. absurd (other refl);
  follows_last = λ e. absurd (omega (arith, e));
  greatest = λ e v valid named. absurd (omega (arith, e));
}

sound_next : (h : List Entry) (t : Tick) → IsValid h (frames h) → names t (last_tick h) ≡ true → IsSound h t (record { kind = 1; reference = frames h })
sound_next h t valid named = record {
  known = inl refl;
  idr_refers_to_none = λ e. absurd (omega (arith, e));
  refers_to_valid = λ other. valid;
  refers_to_named = λ other. named;
  follows_last = λ e. refl;
  greatest = λ e v valid' named'. absurd (omega (arith, e));
}

sound_re_entry : (h : List Entry) (t : Tick) (o : Option ℕ) → IsGreatest h t (frames h) o → IsSound h t (re_entry o)
sound_re_entry h t None is = sound_idr h t
sound_re_entry h t (Some v) is =
    let parts = and_parts (is_valid h v) (names t (tick_of h v)) is.0 in
    record {
      known = inr (inr refl);
      idr_refers_to_none = λ e. absurd (omega (arith, e));
      refers_to_valid = λ other. parts.0;
      refers_to_named = λ other. parts.1;
      follows_last = λ e. absurd (omega (arith, e));
      greatest = λ e w valid named.
          let sent = valid_was_sent h w valid in is.1 w sent.0 sent.1 (and_from (is_valid h w) (names t (tick_of h w)) valid named);
    }

-- the choice by the tests that it makes
abbrev pub choice_by : List Entry → Tick → Bool → Bool → Bool → Choice
choice_by h t owed valid named =
    if owed then idr
    else (if valid then (if named then record { kind = 1; reference = frames h } else idr) else re_entry (greatest_named h t (frames h)))

sound_by : (h : List Entry) (t : Tick) (owed valid named : Bool) → (valid ≡ true → named ≡ true → IsSound h t (record { kind = 1; reference = frames h }))
    → IsSound h t (choice_by h t owed valid named)
sound_by h t true valid named next = sound_idr h t
sound_by h t false true true next = next refl refl
sound_by h t false true false next = sound_idr h t
sound_by h t false false named next = sound_re_entry h t (greatest_named h t (frames h)) (greatest_is h t (frames h))

pub choice_is_sound : (h : List Entry) (t : Tick) → IsSound h t (choice h t)
choice_is_sound h t =
    sound_by h t (frames h == 0 || idr_is_owed h) (is_valid h (frames h)) (names t (last_tick h)) (λ valid named. sound_next h t valid named)
