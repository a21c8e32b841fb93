-- What a legal history keeps of its frames: what each may refer to, and which are valid.
use Rattle.std.proofs.Common.{◌≡◌, ◌≢◌, ◌<◌, ◌≤◌, ◌+◌, ℕ, suc, Bool, true, false, not, ◌&&◌, ◌||◌, List, [], ◌∷◌, sym, ap, subst, ◌∙◌, arith, inl, inr}
use Rattle.std.specs.Prelude.{◌==◌, nat_lt}
use Rattle.std.specs.List.{Contains}
use Rattle.std.proofs.lemmas.Bool.{cases_eq, eq-eqb, ne_eqb, eqb-true, ltb-true, lt-ltb, and_parts, and_from, or_cases, or_right, not_from_false, not_from_true}
use Rattle.std.proofs.lemmas.Bool.{false_from_ne_true, false≢true}
use Rattle.std.proofs.lemmas.List.Elements.{Contains-push_cases}
use Rattle.gs_tape.specs.Tick.{Tick}
use Rattle.gs_refs.specs.declared.entry.Entry.{Entry}
use Rattle.gs_refs.specs.declared.entry.Entry.TheVariants.{Sent, Invalid, IdrAsked, Ended}
use Rattle.gs_refs.specs.History.{frames, frame_kind, last_tick, is_valid, IsValid, idr_is_owed}
use Rattle.gs_refs.specs.Choice.{Choice, names, choice, IsLegal}
use Rattle.gs_refs.specs.ChoiceLaws.{IsSound}
use Rattle.gs_refs.proofs.Choices.{choice_by, choice_is_sound}
use Rattle.gs_refs.proofs.Lookups.{frame_kind-sent, frame_kind-before}
use Rattle.gs_frames.specs.ImageLaws.{IsWrittenKind}
use Rattle.gs_frames.specs.declared.range.Range.{Range}
use Rattle.gs_stream.specs.Paired.{invalid_ranges}

-- ---- the frame that is sent after a history

-- where the last frame is valid, an older one isn't chosen
no_re_entry : (h : List Entry) (t : Tick) (owed named : Bool) → (choice_by h t owed true named).kind ≡ 5 → ⊥
no_re_entry h t true named e = absurd (omega (arith, e))
no_re_entry h t false true e = absurd (omega (arith, e))
no_re_entry h t false false e = absurd (omega (arith, e))

-- what a frame of a legal history refers to
pub record IsFollower (h : List Entry) (kind reference : ℕ) : Type 0 where
  pub known : IsWrittenKind kind
  pub refers_to_valid : kind ≢ 2 → IsValid h reference
  pub follows_last : kind ≡ 1 → reference ≡ frames h
  pub last_is_lost : kind ≡ 5 → is_valid h (frames h) ≡ false

pub follower : (ticks : List Tick) (h : List Entry) (tick kind reference : ℕ) → IsLegal ticks (Sent tick kind reference ∷ h) → IsFollower h kind reference
follower ticks h tick kind reference legal =
    let t = legal.2.1 in
    let chosen : choice h t ≡ record { kind = kind; reference = reference } = legal.2.3 in
    let Sound : Choice → Type 0 = IsSound h t in
    let sound = subst Sound chosen (choice_is_sound h t) in
    let kind_is : (choice h t).kind ≡ kind = ap (λ (c : Choice). c.kind) chosen in
    let by : Bool → ℕ = λ valid. (choice_by h t (frames h == 0 || idr_is_owed h) valid (names t (last_tick h))).kind in
    record {
      known = sound.known;
      refers_to_valid = sound.refers_to_valid;
      follows_last = sound.follows_last;
      last_is_lost = λ e. false_from_ne_true (is_valid h (frames h)) (λ valid.
          no_re_entry h t (frames h == 0 || idr_is_owed h) (names t (last_tick h)) (sym (ap by valid) ∙ kind_is ∙ e));
    }

-- ---- valid frames

-- the frame before a valid one of kind 1 is valid too
pub valid_below : (ticks : List Tick) (h : List Entry) (u : ℕ) → IsLegal ticks h → IsValid h (suc u) → frame_kind h (suc u) ≡ 1 → IsValid h u
valid_below ticks [] u legal valid kind_is = absurd (false≢true valid)
valid_below ticks (Sent tick kind reference ∷ h) u legal valid kind_is = elim (cases_eq (suc u) (frames h + 1)) [
  | inl last ↦
      let one : kind ≡ 1 = sym (frame_kind-sent h tick kind reference (suc u) last) ∙ kind_is in
      let not_idr : kind ≢ 2 = λ e. absurd (omega (arith, e, one)) in
      let from = follower ticks h tick kind reference legal in
      let at : reference ≡ u = from.follows_last one ∙ omega arith in
      let Valid : ℕ → Type 0 = IsValid h in
      kept not_idr (subst Valid at (from.refers_to_valid not_idr))
  | inr other ↦ elim (or_cases (suc u == frames h + 1) (not (kind == 2) && is_valid h (suc u)) valid) [
    | inl last ↦ absurd (other (eqb-true (suc u) (frames h + 1) last))
    | inr stays ↦
        let parts = and_parts (not (kind == 2)) (is_valid h (suc u)) stays in
        let same = sym (frame_kind-before h tick kind reference (suc u) other) ∙ kind_is in
        or_right (u == frames h + 1) (not (kind == 2) && is_valid h u)
        (and_from (not (kind == 2)) (is_valid h u) parts.0 (valid_below ticks h u legal.0 parts.1 same))
  ]
]
  where
    kept : kind ≢ 2 → IsValid h u → IsValid (Sent tick kind reference ∷ h) u
    kept not_idr valid' =
        or_right (u == frames h + 1) (not (kind == 2) && is_valid h u)
        (and_from (not (kind == 2)) (is_valid h u) (not_from_false (kind == 2) (ne_eqb kind 2 not_idr)) valid')
valid_below ticks (Invalid first last ∷ h) u legal valid kind_is =
    let parts = and_parts (nat_lt (suc u) first) (is_valid h (suc u)) valid in
    let above = ltb-true (suc u) first parts.0 in
    and_from (nat_lt u first) (is_valid h u) (lt-ltb u first (omega arith)) (valid_below ticks h u legal.0 parts.1 kind_is)
valid_below ticks (IdrAsked ∷ h) u legal valid kind_is = valid_below ticks h u legal.0 valid kind_is
valid_below ticks (Ended first last ∷ h) u legal valid kind_is = valid_below ticks h u legal.0 valid kind_is

-- ---- the ranges of a history

-- an invalid range is of frames that were sent
pub range_was_sent : (ticks : List Tick) (h : List Entry) (range : Range) → IsLegal ticks h → Contains (invalid_ranges h) range → range.last ≤ frames h
range_was_sent ticks [] range legal there = absurd (omega (arith, there.1))
range_was_sent ticks (Sent tick kind reference ∷ h) range legal there =
    let before = range_was_sent ticks h range legal.0 there in omega arith
range_was_sent ticks (Invalid first last ∷ h) range legal there =
    elim (Contains-push_cases (invalid_ranges h) (record { first = first; last = last }) range there) [
      | inl before ↦ range_was_sent ticks h range legal.0 before
      | inr it ↦
          let end : last ≡ range.last = ap (λ (r : Range). r.last) it in
          let sent : last ≤ frames h = legal.2.2 in omega (arith, end)
    ]
range_was_sent ticks (IdrAsked ∷ h) range legal there = range_was_sent ticks h range legal.0 there
range_was_sent ticks (Ended first last ∷ h) range legal there = range_was_sent ticks h range legal.0 there

-- a valid frame is in no invalid range
pub valid_is_apart : (ticks : List Tick) (h : List Entry) (v : ℕ) (range : Range) → IsLegal ticks h → IsValid h v → Contains (invalid_ranges h) range
    → range.first ≤ v → v ≤ range.last → ⊥
valid_is_apart ticks [] v range legal valid there least most = absurd (false≢true valid)
valid_is_apart ticks (Sent tick kind reference ∷ h) v range legal valid there least most =
    elim (or_cases (v == frames h + 1) (not (kind == 2) && is_valid h v) valid) [
      | inl last ↦
          let this : v ≡ frames h + 1 = eqb-true v (frames h + 1) last in
          let sent = range_was_sent ticks h range legal.0 there in
          absurd (omega (arith, this))
      | inr stays ↦ valid_is_apart ticks h v range legal.0 (and_parts (not (kind == 2)) (is_valid h v) stays).1 there least most
    ]
valid_is_apart ticks (Invalid first last ∷ h) v range legal valid there least most =
    let parts = and_parts (nat_lt v first) (is_valid h v) valid in
    elim (Contains-push_cases (invalid_ranges h) (record { first = first; last = last }) range there) [
      | inl before ↦ valid_is_apart ticks h v range legal.0 parts.1 before least most
      | inr it ↦
          let start : first ≡ range.first = ap (λ (r : Range). r.first) it in
          let below = ltb-true v first parts.0 in absurd (omega (arith, start))
    ]
valid_is_apart ticks (IdrAsked ∷ h) v range legal valid there least most = valid_is_apart ticks h v range legal.0 valid there least most
valid_is_apart ticks (Ended first last ∷ h) v range legal valid there least most = valid_is_apart ticks h v range legal.0 valid there least most

-- ---- IDR frames

-- no frame before an IDR frame is valid
pub none_before_idr : (h : List Entry) (v idr : ℕ) → v < idr → idr ≤ frames h → frame_kind h idr ≡ 2 → IsValid h v → ⊥
none_before_idr [] v idr below most kind_is valid = absurd (false≢true valid)
none_before_idr (Sent tick kind reference ∷ h) v idr below most kind_is valid =
    elim (or_cases (v == frames h + 1) (not (kind == 2) && is_valid h v) valid) [
      | inl last ↦ let this : v ≡ frames h + 1 = eqb-true v (frames h + 1) last in absurd (omega arith)
      | inr stays ↦
          let parts = and_parts (not (kind == 2)) (is_valid h v) stays in
          elim (cases_eq idr (frames h + 1)) [
            | inl newest ↦
                let two : kind ≡ 2 = sym (frame_kind-sent h tick kind reference idr newest) ∙ kind_is in
                absurd (false≢true (sym (not_from_true (kind == 2) (eq-eqb kind 2 two)) ∙ parts.0))
            | inr other ↦
                none_before_idr h v idr below (omega arith) (sym (frame_kind-before h tick kind reference idr other) ∙ kind_is) parts.1
          ]
    ]
none_before_idr (Invalid first last ∷ h) v idr below most kind_is valid =
    none_before_idr h v idr below most kind_is (and_parts (nat_lt v first) (is_valid h v) valid).1
none_before_idr (IdrAsked ∷ h) v idr below most kind_is valid = none_before_idr h v idr below most kind_is valid
none_before_idr (Ended first last ∷ h) v idr below most kind_is valid = none_before_idr h v idr below most kind_is valid
