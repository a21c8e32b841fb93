-- A history is walked from its newest entry back.
use Rattle.std.proofs.Common.{◌≡◌, ◌≢◌, ◌⊎◌, ◌<◌, ◌≤◌, ◌+◌, ◌-◌, ℕ, ℤ, Bool, true, false, ◌&&◌, List, [], ◌∷◌, length, get_or, take, reverse, Some, None, refl}
use Rattle.std.proofs.Common.{sym, ap, ◌∙◌, arith, inl, inr}
use Rattle.std.specs.Prelude.{nat_lt, nat_le, min}
use Rattle.std.proofs.lemmas.Bool.{cases_Bool, cases_eq, cases_lt, and_from, and_left, and_right, lt-ltb, le-ltb, le-leb, lt-leb}
use Rattle.std.proofs.lemmas.List.{take_more, reverse-append}
use Rattle.gs_tape.specs.Tick.{Tick}
use Rattle.gs_refs.specs.declared.entry.Entry.{Entry}
use Rattle.gs_refs.specs.declared.entry.Entry.TheVariants.{Sent, Invalid, IdrAsked, Ended}
use Rattle.gs_refs.specs.declared.candidate.Candidate.{Candidate}
use Rattle.gs_refs.specs.History.{frames, tick_of, is_valid}
use Rattle.gs_refs.specs.Choice.{names}
use Rattle.gs_refs.specs.Candidates.{IsGreatestNamed}
use Rattle.gs_refs.proofs.Choices.{valid_was_sent}
use Rattle.gs_refs.proofs.Lookups.{tick_of-sent, tick_of-before}
use Rattle.gs_refs.proofs.Greatest.{is_usable, NoneAbove, greatest-some, greatest-none}
use Rattle.gs_refs.proofs.ValidAbove.{unsent, newest_is_valid, before_is, none_before}

-- the entry in this place is the newest of those up to it
pub reverse-more : (entries : List Entry) (i : ℕ) (d : Entry) → i < length entries
    → reverse (take (i + 1) entries) ≡ get_or entries i d ∷ reverse (take i entries)
reverse-more entries i d within =
    ap (λ (l : List Entry). reverse l) (take_more entries i d within) ∙ reverse-append (take i entries) (get_or entries i d ∷ [])

-- the entry in front of this place is the newest of those up to it
pub met : (entries : List Entry) (place : ℕ) (d e : Entry) → 0 < place → place ≤ length entries → get_or entries (place - 1) d ≡ e
    → reverse (take place entries) ≡ e ∷ reverse (take (place - 1) entries)
met entries place d e some within is =
    let next : place ≡ (place - 1) + 1 = omega arith in
    ap (λ (n : ℕ). reverse (take n entries)) next
    ∙ reverse-more entries (place - 1) d (omega arith)
    ∙ ap (λ (x : Entry). x ∷ reverse (take (place - 1) entries)) is

-- What is known where the rest of a history is still to be walked: its frames are valid in the whole where they are in
-- the rest and no later invalidation begins at them or below, and no later frame is usable.
pub record Walked (h : List Entry) (t : Tick) (rest : List Entry) (greatest : ℕ) : Type 0 where
  pub valid : (v : ℕ) → v ≤ frames rest → is_valid h v ≡ (nat_le v greatest && is_valid rest v)
  pub ticks : (v : ℕ) → v ≤ frames rest → tick_of h v ≡ tick_of rest v
  pub above : NoneAbove h t (frames rest)

pub walked-none : (h : List Entry) (t : Tick) (greatest : ℕ) → greatest ≡ frames h → Walked h t h greatest
walked-none h t greatest e = record {
  valid = λ v most. sym (ap (λ b. b && is_valid h v) (le-leb v greatest (omega (arith, e))));
  ticks = λ v most. refl;
  above = λ v above. and_left (is_valid h v) (names t (tick_of h v)) (unsent h v above);
}

pub walked-all : (h : List Entry) (t : Tick) (greatest : ℕ) → Walked h t [] greatest → IsGreatestNamed h t None
walked-all h t greatest walked = greatest-none h t (frames h) walked.above

-- a frame that is met isn't what is looked for
abbrev pub Passes : Tick → ℕ → ℕ → ℕ → Type 0
Passes t tick frame greatest = (greatest < frame) ⊎ (names t tick ≡ false)

module _ (h : List Entry) (t : Tick) (tick kind reference : ℕ) (rest : List Entry) (greatest : ℕ)
    (walked : Walked h t (Sent tick kind reference ∷ rest) greatest) where
  its_tick : tick_of h (frames rest + 1) ≡ tick
  its_tick = walked.ticks (frames rest + 1) (omega arith) ∙ tick_of-sent rest tick kind reference (frames rest + 1) refl

  its_validity : is_valid h (frames rest + 1) ≡ (nat_le (frames rest + 1) greatest && is_valid (Sent tick kind reference ∷ rest) (frames rest + 1))
  its_validity = walked.valid (frames rest + 1) (omega arith)

  pub walked-found : (c : Candidate) → c.frame ≡ frames rest + 1 → c.tick ≡ tick → c.frame ≤ greatest → names t tick ≡ true → IsGreatestNamed h t (Some c)
  walked-found c is_frame is_tick most named =
      let within : frames rest + 1 ≤ greatest = omega (arith, is_frame, most) in
      let valid : is_valid h (frames rest + 1) ≡ true =
      its_validity
      ∙ and_from (nat_le (frames rest + 1) greatest) (is_valid (Sent tick kind reference ∷ rest) (frames rest + 1)) (le-leb (frames rest + 1) greatest within)
      (newest_is_valid rest tick kind reference (frames rest + 1) refl) in
      let sent = valid_was_sent h (frames rest + 1) valid in
      let usable = and_from (is_valid h (frames rest + 1)) (names t (tick_of h (frames rest + 1))) valid (ap (names t) its_tick ∙ named) in (
        greatest-some h t (frames rest + 1) (frames h) sent.0 sent.1 usable walked.above ∙ ap (λ (k : ℕ). Some k) (sym is_frame),
        ap (tick_of h) is_frame ∙ its_tick ∙ sym is_tick,
      )

  it_is_not : Passes t tick (frames rest + 1) greatest → is_usable h t (frames rest + 1) ≡ false
  it_is_not (inl over) =
      and_left (is_valid h (frames rest + 1)) (names t (tick_of h (frames rest + 1)))
      (its_validity
      ∙ and_left (nat_le (frames rest + 1) greatest) (is_valid (Sent tick kind reference ∷ rest) (frames rest + 1)) (lt-leb (frames rest + 1) greatest over))
  it_is_not (inr unnamed) = and_right (is_valid h (frames rest + 1)) (names t (tick_of h (frames rest + 1))) (ap (names t) its_tick ∙ unnamed)

  pub above_rest : Passes t tick (frames rest + 1) greatest → NoneAbove h t (frames rest)
  above_rest passes v above = elim (cases_eq v (frames rest + 1)) [
    | inl at_it ↦ ap (is_usable h t) at_it ∙ it_is_not passes
    | inr other ↦ walked.above v (omega arith)
  ]

  pub walked-sent : Passes t tick (frames rest + 1) greatest → kind ≢ 2 → Walked h t rest greatest
  walked-sent passes other = record {
    valid = λ v most. walked.valid v (omega arith) ∙ ap (λ b. nat_le v greatest && b) (before_is rest tick kind reference v other most);
    ticks = λ v most. walked.ticks v (omega arith) ∙ tick_of-before rest tick kind reference v most;
    above = above_rest passes;
  }

pub walked-idr : (h : List Entry) (t : Tick) (tick reference : ℕ) (rest : List Entry) (greatest : ℕ) → Walked h t (Sent tick 2 reference ∷ rest) greatest
    → Passes t tick (frames rest + 1) greatest → IsGreatestNamed h t None
walked-idr h t tick reference rest greatest walked passes = greatest-none h t (frames h) (λ v least. elim (cases_lt (frames rest) v) [
  | inl above ↦ above_rest h t tick 2 reference rest greatest walked passes v above
  | inr most ↦
      and_left (is_valid h v) (names t (tick_of h v))
      (walked.valid v (omega arith) ∙ and_right (nat_le v greatest) (is_valid (Sent tick 2 reference ∷ rest) v) (none_before rest tick reference v most))
])

-- an invalidation
both_limits : (v greatest first : ℕ) → 1 ≤ v → (nat_le v greatest && nat_lt v first) ≡ nat_le v (min greatest (first - 1))
both_limits v greatest first least = elim (cases_lt greatest v) [
  | inl over ↦ and_left (nat_le v greatest) (nat_lt v first) (lt-leb v greatest over) ∙ sym (lt-leb v (min greatest (first - 1)) (omega arith))
  | inr within ↦ elim (cases_lt v first) [
    | inl below ↦ and_from (nat_le v greatest) (nat_lt v first) (le-leb v greatest within) (lt-ltb v first below)
        ∙ sym (le-leb v (min greatest (first - 1)) (omega arith))
    | inr reached ↦ and_right (nat_le v greatest) (nat_lt v first) (le-ltb v first reached) ∙ sym (lt-leb v (min greatest (first - 1)) (omega arith))
  ]
]

limits : (rest : List Entry) (v greatest first : ℕ)
    → (nat_le v greatest && (nat_lt v first && is_valid rest v)) ≡ (nat_le v (min greatest (first - 1)) && is_valid rest v)
limits rest v greatest first = elim (cases_Bool (is_valid rest v)) [
  | inl valid ↦
      let least = (valid_was_sent rest v valid).0 in
      ap (λ b. nat_le v greatest && (nat_lt v first && b)) valid ∙ true_last (nat_le v greatest) (nat_lt v first)
      ∙ both_limits v greatest first least ∙ sym (ap (λ b. nat_le v (min greatest (first - 1)) && b) valid ∙ true_right (nat_le v (min greatest (first - 1))))
  | inr not_valid ↦
      and_right (nat_le v greatest) (nat_lt v first && is_valid rest v) (and_right (nat_lt v first) (is_valid rest v) not_valid)
      ∙ sym (and_right (nat_le v (min greatest (first - 1))) (is_valid rest v) not_valid)
]
  where
    true_right : (b : Bool) → (b && true) ≡ b
    true_right true = refl
    true_right false = refl

    true_last : (a b : Bool) → (a && (b && true)) ≡ (a && b)
    true_last a true = refl
    true_last a false = refl

pub walked-invalid : (h : List Entry) (t : Tick) (first last : ℕ) (rest : List Entry) (greatest : ℕ) → Walked h t (Invalid first last ∷ rest) greatest
    → Walked h t rest (min greatest (first - 1))
walked-invalid h t first last rest greatest walked = record {
  valid = λ v most. walked.valid v most ∙ limits rest v greatest first;
  ticks = walked.ticks;
  above = walked.above;
}

pub walked-asked : (h : List Entry) (t : Tick) (rest : List Entry) (greatest : ℕ) → Walked h t (IdrAsked ∷ rest) greatest → Walked h t rest greatest
walked-asked h t rest greatest walked = record { valid = walked.valid; ticks = walked.ticks; above = walked.above }

pub walked-ended : (h : List Entry) (t : Tick) (first last : ℤ) (rest : List Entry) (greatest : ℕ) → Walked h t (Ended first last ∷ rest) greatest
    → Walked h t rest greatest
walked-ended h t first last rest greatest walked = record { valid = walked.valid; ticks = walked.ticks; above = walked.above }
