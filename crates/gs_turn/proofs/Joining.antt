-- Two passes are made one.
use Rattle.std.proofs.Common.{◌≡◌, ◌≢◌, ◌⊎◌, ℕ, zero, suc, ◌<◌, ◌==◌, ◌||◌, Bool, true, false, nat_lt, List, [], ◌∷◌, ◌++◌, length}
use Rattle.std.proofs.Common.{set, refl, sym, ap, ◌∙◌, subst, inl, inr, ⊎_elim, arith, Option, length-append}
use Rattle.std.proofs.lemmas.Bool.{or_cases, or_right}
use Rattle.std.proofs.Math.Bool.{or_assoc}
use mathlib.Core.Option.{some, none}
use mathlib.Core.List.{IsPrefix}
use lib.ListN.{get_elem?}
use Rattle.atomic_table.specs.Table.{State, Joins}
use Rattle.atomic_table.proofs.Lists.{at_set, set_else}
use Rattle.gs_turn.specs.declared.turn_call.TurnCall.{TurnCall}
use Rattle.gs_turn.specs.declared.rule.Opening.{Opening}
use Rattle.gs_turn.specs.declared.rule.PassView.{PassView}
use Rattle.gs_turn.specs.declared.rule.Standing.TheVariants.{Outside, Serving}
use Rattle.gs_turn.specs.History.{has_number, calls_under}
use Rattle.gs_turn.specs.Standings.{ticket, tickets_held}
use Rattle.gs_turn.specs.Rule.{StandsWell, Knows, Running, Kept}
use Rattle.gs_turn.specs.Plays.{longer, joined, spent}
use Rattle.gs_bytes.proofs.Lists.{AllByRecursion-append}
use Rattle.gs_turn.proofs.Seats.{total_set, each_set, apart_set}
use Rattle.gs_turn.proofs.Keeping.{HasNumber, HasTicket, housed_set, not_fresh}

-- the longer of two is one of them
pub longer_is : {A : Type 0} (P : List A → Type 0) (xs ys : List A) → P xs → P ys → P (longer xs ys)
longer_is P xs ys p q = by_test (nat_lt (length xs) (length ys)) refl where
  by_test : (b : Bool) → nat_lt (length xs) (length ys) ≡ b → P (longer xs ys)
  by_test true is = rw is q
  by_test false is = rw is p

-- two changes of different seats in either order
pub set_both : {V : Type 0} (views : List V) (i j : ℕ) (v w : V) → j ≢ i → set (set views i v) j w ≡ set (set views j w) i v
set_both [] i j v w ne = refl
set_both (x ∷ xs) zero zero v w ne = absurd (ne refl)
set_both (x ∷ xs) zero (suc j) v w ne = refl
set_both (x ∷ xs) (suc i) zero v w ne = refl
set_both (x ∷ xs) (suc i) (suc j) v w ne = ap (λ ys. x ∷ ys) (set_both xs i j v w (λ e. ne (ap suc e)))

number_of_either : {C R : Type 0} (a : ℕ) (xs ys : List (ℕ × List (TurnCall C R))) → has_number a (xs ++ ys) ≡ true → (has_number a xs ≡ true) ⊎
    (has_number a ys ≡ true)
number_of_either a [] ys has = inr has
number_of_either a (x ∷ xs) ys has =
    ⊎_elim
    (λ here. inl (ap (λ b. b || has_number a xs) here))
    (λ later. ⊎_elim (λ left. inl (or_right (a == x.0) (has_number a xs) left)) (λ right. inr right) (number_of_either a xs ys later))
    (or_cases (a == x.0) (has_number a (xs ++ ys)) has)

pub numbers_of_both : {C R : Type 0} (n : ℕ) (xs ys : List (ℕ × List (TurnCall C R))) → has_number n (xs ++ ys) ≡ (has_number n xs || has_number n ys)
numbers_of_both n [] ys = refl
numbers_of_both n (x ∷ xs) ys = ap (λ b. (n == x.0) || b) (numbers_of_both n xs ys) ∙ sym (or_assoc (n == x.0) (has_number n xs) (has_number n ys))

module _ {S C R : Type 0} (steps : S → C → R → S → Type 0) (about : Opening S) where
  abbrev St : Type 0
  St = State (Option S) (PassView S C R)

  module _ (id other : ℕ) (v w : PassView S C R) (s : St) (r : Running steps about s) (at : get_elem? s.views id ≡ some v) (apart : other ≢ id)
      (at' : get_elem? s.views other ≡ some w) (out : v.standing ≡ Outside) (out' : w.standing ≡ Outside) (numbered : 0 < length v.own) where
    abbrev both : PassView S C R
    both = joined v w

    abbrev gone : PassView S C R
    gone = spent {S = S} {C = C} {R = R}

    abbrev views : List (PassView S C R)
    views = set (set s.views other gone) id both

    at_id : get_elem? (set s.views other gone) id ≡ some v
    at_id = set_else s.views other id gone (λ e. apart (sym e)) ∙ at

    mine : Knows r.drawn r.served r.made about.state r.log id v
    mine = r.known id v at

    theirs : Knows r.drawn r.served r.made about.state r.log other w
    theirs = r.known other w at'

    -- what holds of the passes joined and of those that stay holds of all
    each : (P : ℕ → PassView S C R → Type 0) → P id both → P other gone →
        ((j : ℕ) (u : PassView S C R) → j ≢ id → j ≢ other → get_elem? s.views j ≡ some u → P j u)
        → (j : ℕ) (u : PassView S C R) → get_elem? views j ≡ some u → P j u
    each P h k rest = each_set P (set s.views other gone) id both h (λ j u ne at_j.
        each_set (λ i x. i ≢ id → P i x) s.views other gone (λ _. k) (λ i x ne' at_i n. rest i x n ne' at_i) j u at_j ne)

    now : Knows r.drawn r.served r.made about.state r.log id both
    now = record {
      stands = subst (StandsWell r.drawn r.served r.log both.front) (sym out) tt;
      ticket_of_some = let held : tickets_held v.standing ≡ 0 = ap tickets_held out in omega (arith, held);
      of_cell = λ some. mine.of_cell numbered;
      front = longer_is (λ f. IsPrefix f r.log) v.front w.front mine.front theirs.front;
      olds = (mine.front, (theirs.front, tt));
      own = AllByRecursion-append (λ o. (o.0 < r.made) × (calls_under o.0 r.log ≡ o.1)) v.own w.own mine.own theirs.own;
      maker = mine.maker;
    }

    away : Knows r.drawn r.served r.made about.state r.log other gone
    away = record {
      stands = tt;
      ticket_of_some = omega arith;
      of_cell = λ some. absurd (omega (arith, some));
      front = (r.log, refl);
      olds = tt;
      own = tt;
      maker = λ some. absurd (omega (arith, some));
    }

    -- the numbers of both are no other pass's
    both_alone : (a j : ℕ) (u : PassView S C R) → j ≢ id → get_elem? (set s.views other gone) j ≡ some u → HasNumber a both → HasNumber a u → ⊥
    both_alone a j u ne at_j mine' theirs' =
        ⊎_elim
        (λ (t : (j ≡ other) × (gone ≡ u)). cc (subst (HasNumber a) (sym t.1) theirs'))
        (λ (t : (j ≢ other) × (get_elem? s.views j ≡ some u)). ⊎_elim
        (λ left. ne (r.numbers_apart j id u v a t.1 at theirs' left))
        (λ right. t.0 (r.numbers_apart j other u w a t.1 at' theirs' right))
        (number_of_either a v.own w.own mine'))
        (at_set s.views other j gone u at_j)

    one_pass : Running steps about (record { words = s.words; homes = s.homes; views = views })
    one_pass =
        let held = total_set (λ (u : PassView S C R). tickets_held u.standing) s.views other w gone at' in
        let held' = total_set (λ (u : PassView S C R). tickets_held u.standing) (set s.views other gone) id v both at_id in
        let owned = total_set (λ (u : PassView S C R). length u.own) s.views other w gone at' in
        let owned' = total_set (λ (u : PassView S C R). length u.own) (set s.views other gone) id v both at_id in
        let none_held : tickets_held w.standing ≡ 0 = ap tickets_held out' in
        let long = length-append v.own w.own in
        let drawn = r.drawn_is in let made = r.made_is in
        record {
          log = r.log;
          state = r.state;
          drawn = r.drawn;
          served = r.served;
          made = r.made;
          legal = r.legal;
          words = r.words;
          housed = housed_set r.served r.state s.homes (set s.views other gone) id v both at_id (λ e. absurd (cc (out, e)))
              (housed_set r.served r.state s.homes s.views other w gone at' (λ e. absurd (cc (out', e))) r.housed);
          taken = each (λ seat u. u.standing ≡ Serving r.served → s.homes ≡ none ∷ []) (λ is. r.taken id v at is) (λ is. absurd (cc is))
              (λ j u ne ne' at_j. r.taken j u at_j);
          known = each (λ seat u. Knows r.drawn r.served r.made about.state r.log seat u) now away (λ j u ne ne' at_j. r.known j u at_j);
          numbers_apart = apart_set HasNumber (set s.views other gone) id both
              (apart_set HasNumber s.views other gone r.numbers_apart (λ a j u ne at_j mine' theirs'. cc mine')) both_alone;
          tickets_apart = apart_set HasTicket (set s.views other gone) id both
              (apart_set HasTicket s.views other gone r.tickets_apart (λ a j u ne at_j mine' theirs'. cc mine'))
              (λ a j u ne at_j mine' theirs'. cc (ap ticket out, mine'));
          drawn_is = omega arith;
          made_is = omega arith;
          few = r.few;
          fits = r.fits;
          calls = r.calls;
        }

  pub joins : (id : ℕ) (v : PassView S C R) (other : ℕ) (w : PassView S C R) → v.standing ≡ Outside → w.standing ≡ Outside → 0 < length v.own → Joins
      (Kept steps about) id v other w (joined v w) spent
  joins id v other w out out' numbered s (inl fresh) at apart at' = absurd (cc (out, not_fresh about s id v fresh at))
  joins id v other w out out' numbered s (inr r) at apart at' =
      inr (subst (λ (vs : List (PassView S C R)). Running steps about (record { words = s.words; homes = s.homes; views = vs }))
      (sym (set_both s.views id other (joined v w) spent apart))
      (one_pass id other v w s r at apart (sym (set_else s.views id other (joined v w) apart) ∙ at') out out' numbered))
