-- What is kept beside a history, as it grows.
use Rattle.std.proofs.Common.{◌≡◌, ◌<◌, ◌+◌, ℕ, ℤ, Bool, true, false, not, ◌&&◌, ◌||◌, List, [], ◌∷◌, ◌++◌, reverse, Option, Some, None, is_some, refl, sym, ap}
use Rattle.std.proofs.Common.{subst, ◌∙◌, arith, inl, inr}
use Rattle.std.specs.Prelude.{T, ◌==◌, if◌then◌else◌, nat_le, int_le, unsigned_abs, pos, negsuc, ◌≤ℤ◌}
use Rattle.std.proofs.lemmas.Bool.{cond-true, cond-false, cases_Bool, and_parts, and_from, leb-true, eq-eqb, ne_eqb, false≢true}
use Rattle.std.proofs.lemmas.List.{reverse-append}
use Rattle.gs_tape.specs.Tick.{Tick, tick_numbered}
use Rattle.gs_refs.specs.declared.entry.Entry.{Entry}
use Rattle.gs_refs.specs.declared.entry.Entry.TheVariants.{Sent, Invalid, IdrAsked, Ended}
use Rattle.gs_refs.specs.declared.sent.Sent as out
use Rattle.gs_refs.specs.History.{frames, tick_or_zero, tick_of, last_tick, is_valid, idr_is_owed, has_ended}
use Rattle.gs_refs.specs.Answers.{sent_entry, next_sent, is_range_sent, named_range}
use Rattle.gs_refs.specs.Candidates.{KeptCandidates, IsGreatestNamed}
use Rattle.gs_refs.specs.Choice.{Choice, names, idr, choice, re_entry, greatest_named, IsRange, IsLegal}
use Rattle.gs_refs.specs.Standing.{KeepsCandidates, Stands, Chooses, chosen_sent, next_or_idr}
use Rattle.gs_refs.specs.declared.candidate.Candidate.{Candidate}
use Rattle.gs_refs.specs.declared.chosen.Chosen.{Chosen}
use Rattle.gs_refs.proofs.Lookups.{sent_frame-before, tick_of-sent}
use Rattle.gs_refs.proofs.ValidAbove.{unsent, above-asked, above-ended}

-- an entry that is pushed is the newest
pub pushed-reverse : (entries pushed : List Entry) (e : Entry) → pushed ≡ entries ++ e ∷ [] → reverse pushed ≡ e ∷ reverse entries
pushed-reverse entries pushed e is = ap (λ (l : List Entry). reverse l) is ∙ reverse-append entries (e ∷ [])

-- ---- entries

keeps-asked : (h : List Entry) (candidates : Option KeptCandidates) → KeepsCandidates h candidates → KeepsCandidates (IdrAsked ∷ h) candidates
keeps-asked h None none = none
keeps-asked h (Some k) keeps = record { above = above-asked h k.watermark k.frames keeps.above; below = keeps.below }

keeps-ended : (h : List Entry) (first last : ℤ) (candidates : Option KeptCandidates) → KeepsCandidates h candidates
    → KeepsCandidates (Ended first last ∷ h) candidates
keeps-ended h first last None none = none
keeps-ended h first last (Some k) keeps = record { above = above-ended h first last k.watermark k.frames keeps.above; below = keeps.below }

module _ (h : List Entry) (sent last : ℕ) (owed ended : Bool) (candidates : Option KeptCandidates) (stands : Stands h sent last owed ended candidates) where
  pub stands-asked : Stands (IdrAsked ∷ h) sent last true ended candidates
  stands-asked = record {
    count = stands.count;
    tick = stands.tick;
    owes = refl;
    over = stands.over;
    rise = stands.rise;
    kept = keeps-asked h candidates stands.kept;
  }

  pub stands-ended : (first final : ℤ) → Stands (Ended first final ∷ h) sent last owed true candidates
  stands-ended first final = record {
    count = stands.count;
    tick = stands.tick;
    owes = stands.owes;
    over = refl;
    rise = stands.rise;
    kept = keeps-ended h first final candidates stands.kept;
  }

  pub stands-invalid : (first final : ℕ) (candidates' : Option KeptCandidates) → KeepsCandidates (Invalid first final ∷ h) candidates'
      → Stands (Invalid first final ∷ h) sent last owed ended candidates'
  stands-invalid first final candidates' keeps =
      record { count = stands.count; tick = stands.tick; owes = stands.owes; over = stands.over; rise = stands.rise; kept = keeps }

  pub stands-sent : (s : out.Sent) (owed' : Bool) (candidates' : Option KeptCandidates) → s.frame ≡ frames h + 1 → last_tick h < s.tick
      → owed' ≡ (not (s.kind == 2) && owed) → KeepsCandidates (sent_entry s ∷ h) candidates' → Stands (sent_entry s ∷ h) s.frame s.tick owed' ended candidates'
  stands-sent s owed' candidates' e later owes keeps =
      let it = tick_of-sent h s.tick s.kind s.reference (frames h + 1) refl in
      record {
        count = e;
        tick = sym it;
        owes = owes ∙ ap (λ b. not (s.kind == 2) && b) stands.owes;
        over = stands.over;
        rise = omega (arith, it, later, stands.rise);
        kept = keeps;
      }

  -- room is made for candidates
  pub stands-room : candidates ≡ None → Stands h sent last owed ended (Some (record { frames = []; watermark = 0 }))
  stands-room none =
      let no_frame : frames h ≡ 0 = subst (λ (o : Option KeptCandidates). KeepsCandidates h o) none stands.kept in
      record {
        count = stands.count;
        tick = stands.tick;
        owes = stands.owes;
        over = stands.over;
        rise = stands.rise;
        kept = record { above = λ v above. unsent h v (omega (arith, no_frame)); below = omega arith };
      }

-- ---- the choice

pub tick_of-zero : (h : List Entry) → tick_of h 0 ≡ 0
tick_of-zero [] = refl
tick_of-zero (Sent tick kind reference ∷ h) = ap tick_or_zero (sent_frame-before h tick kind reference 0 (λ e. omega (arith, e))) ∙ tick_of-zero h
tick_of-zero (Invalid first last ∷ h) = tick_of-zero h
tick_of-zero (IdrAsked ∷ h) = tick_of-zero h
tick_of-zero (Ended first last ∷ h) = tick_of-zero h

pub chooses-idr : (h : List Entry) (c : Choice) → c ≡ idr → Chooses h c (record { kind = 2; reference = 0; named = 0 })
chooses-idr h c e =
    subst (λ (x : Choice). Chooses h x (record { kind = 2; reference = 0; named = 0 })) (sym e)
    (record { kind = refl; reference = refl; named = sym (tick_of-zero h) })

pub next-idr : (h : List Entry) (t : Tick) (last : ℕ) → last ≡ last_tick h → names t last ≡ false
    → Chooses h (next_or_idr h t) (record { kind = 2; reference = 0; named = 0 })
next-idr h t last e unnamed =
    chooses-idr h (next_or_idr h t) (cond-false (names t (last_tick h)) (record { kind = 1; reference = frames h }) idr (ap (names t) (sym e) ∙ unnamed))

-- ---- the cases of the choice

pub choice-owed : (h : List Entry) (t : Tick) → (frames h == 0 || idr_is_owed h) ≡ true → choice h t ≡ idr
choice-owed h t owed = ap (λ (b : Bool). if b then idr else (if is_valid h (frames h) then next_or_idr h t else re_entry (greatest_named h t (frames h)))) owed

pub choice-next : (h : List Entry) (t : Tick) → (frames h == 0 || idr_is_owed h) ≡ false → is_valid h (frames h) ≡ true → choice h t ≡ next_or_idr h t
choice-next h t free valid =
    ap (λ (b : Bool). if b then idr else (if is_valid h (frames h) then next_or_idr h t else re_entry (greatest_named h t (frames h)))) free
    ∙ ap (λ (b : Bool). if b then next_or_idr h t else re_entry (greatest_named h t (frames h))) valid

pub choice-again : (h : List Entry) (t : Tick) → (frames h == 0 || idr_is_owed h) ≡ false → is_valid h (frames h) ≡ false
    → choice h t ≡ re_entry (greatest_named h t (frames h))
choice-again h t free lost =
    ap (λ (b : Bool). if b then idr else (if is_valid h (frames h) then next_or_idr h t else re_entry (greatest_named h t (frames h)))) free
    ∙ ap (λ (b : Bool). if b then next_or_idr h t else re_entry (greatest_named h t (frames h))) lost

pub chooses-found : (h : List Entry) (t : Tick) (c : Candidate) → choice h t ≡ re_entry (greatest_named h t (frames h)) → IsGreatestNamed h t (Some c)
    → Chooses h (choice h t) (record { kind = 5; reference = c.frame; named = c.tick })
chooses-found h t c e found =
    subst (λ (x : Choice). Chooses h x (record { kind = 5; reference = c.frame; named = c.tick })) (sym (e ∙ ap re_entry found.0))
    (record { kind = refl; reference = refl; named = sym found.1 })

pub chooses-none : (h : List Entry) (t : Tick) → choice h t ≡ re_entry (greatest_named h t (frames h)) → IsGreatestNamed h t None
    → Chooses h (choice h t) (record { kind = 2; reference = 0; named = 0 })
chooses-none h t e none = chooses-idr h (choice h t) (e ∙ ap re_entry none)

-- the frame that goes out by what was chosen
pub sent-chosen : (h : List Entry) (t : Tick) (chosen : Chosen) → Chooses h (choice h t) chosen → chosen_sent h t.number chosen ≡ next_sent h t
sent-chosen h t chosen chooses = grind (arith, chooses.kind, chooses.reference, chooses.named)

-- ---- legal histories

pub legal-sent : (ticks : List Tick) (h : List Entry) (t : Tick) → tick_numbered ticks t.number ≡ Some t → IsLegal ticks h → has_ended h ≡ false
    → last_tick h < t.number
    → IsLegal ticks (sent_entry (next_sent h t) ∷ h)
legal-sent ticks h t there legal on later = (legal, on, (later, t, there, refl))

range_true : (sent : ℕ) (first last : ℤ) → is_range_sent sent first last ≡ true → IsRange sent (unsigned_abs first) (unsigned_abs last)
range_true sent (pos first) (pos last) is =
    let both = and_parts (nat_le 1 first && nat_le first last) (nat_le last sent) is in
    let low = and_parts (nat_le 1 first) (nat_le first last) both.0 in
    (leb-true 1 first low.0, leb-true first last low.1, leb-true last sent both.1)
range_true sent (pos first) (negsuc last) is = absurd (false≢true (and_parts (nat_le 1 first) false (and_parts (nat_le 1 first && false) true is).0).1)
range_true sent (negsuc first) last is = absurd (false≢true is)

true_from : (b : Bool) → T b → b ≡ true
true_from true holds = refl
true_from false holds = absurd holds

range_false : (sent : ℕ) (first last : ℤ) → is_range_sent sent first last ≡ false → pos 1 ≤ℤ first → first ≤ℤ last → last ≤ℤ pos sent → ⊥
range_false sent first last is one rise within =
    false≢true (sym is ∙ and_from (int_le (pos 1) first && int_le first last) (int_le last (pos sent))
    (and_from (int_le (pos 1) first) (int_le first last) (true_from (int_le (pos 1) first) one.le) (true_from (int_le first last) rise.le))
    (true_from (int_le last (pos sent)) within.le))

pub legal-named : (ticks : List Tick) (h : List Entry) (first last : ℤ) → IsLegal ticks h → has_ended h ≡ false
    → IsLegal ticks (named_range (frames h) first last ∷ h)
legal-named ticks h first last legal on = elim (cases_Bool (is_range_sent (frames h) first last)) [
  | inl is ↦
      subst (λ (e : Entry). IsLegal ticks (e ∷ h))
      (sym (cond-true (is_range_sent (frames h) first last) (Invalid (unsigned_abs first) (unsigned_abs last)) (Ended first last) is))
      (legal, on, range_true (frames h) first last is)
  | inr is_not ↦
      subst (λ (e : Entry). IsLegal ticks (e ∷ h))
      (sym (cond-false (is_range_sent (frames h) first last) (Invalid (unsigned_abs first) (unsigned_abs last)) (Ended first last) is_not))
      (legal, on, range_false (frames h) first last is_not)
]

-- ---- what the tests tell

pub none-from : (o : Option KeptCandidates) → is_some o ≡ false → o ≡ None
none-from None e = refl
none-from (Some k) e = absurd (false≢true (sym e))

pub owed-first : (h : List Entry) → frames h ≡ 0 → (frames h == 0 || idr_is_owed h) ≡ true
owed-first h none = ap (λ (b : Bool). b || idr_is_owed h) (eq-eqb (frames h) 0 none)

pub owed-asked : (h : List Entry) → idr_is_owed h ≡ true → (frames h == 0 || idr_is_owed h) ≡ true
owed-asked h owed = either (frames h == 0) (idr_is_owed h) owed
  where
    either : (a b : Bool) → b ≡ true → (a || b) ≡ true
    either true b e = refl
    either false b e = e

pub owed-not : (h : List Entry) → (frames h ≡ 0 → ⊥) → idr_is_owed h ≡ false → (frames h == 0 || idr_is_owed h) ≡ false
owed-not h some free = ap (λ (b : Bool). b || idr_is_owed h) (ne_eqb (frames h) 0 some) ∙ free
