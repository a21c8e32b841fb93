-- A pass with the next number is made.
use Rattle.std.proofs.Common.{◌≡◌, ◌≢◌, ℕ, ◌+◌, ◌<◌, ◌==◌, true, false, List, [], ◌∷◌, ◌++◌, length, set, refl, sym, ap, ◌∙◌}
use Rattle.std.proofs.Common.{subst, inl, inr, ⊎_elim, arith, Option}
use Rattle.std.proofs.lemmas.Bool.Decides.{nat_tests}
use Rattle.std.specs.List.{AllByRecursion}
use Rattle.std.proofs.lemmas.Bool.{or_cases}
use mathlib.Core.Option.{some, none}
use mathlib.Core.Logic.{dite}
use native.Mathlib.Decide.{ℕ_discrete}
use lib.ListN.{get_elem?}
use Rattle.atomic_table.specs.Table.{State, Splits}
use Rattle.atomic_table.proofs.Lists.{at_longer, set_else}
use Rattle.gs_turn.specs.declared.turn_call.TurnCall.{TurnCall}
use Rattle.gs_turn.specs.declared.rule.Opening.{Opening}
use Rattle.gs_turn.specs.declared.rule.PassView.{PassView}
use Rattle.gs_turn.specs.declared.rule.Standing.TheVariants.{Outside, Serving}
use Rattle.gs_turn.specs.History.{has_number, calls_under}
use Rattle.gs_turn.specs.Standings.{tickets_held}
use Rattle.gs_turn.specs.Rule.{Knows, Housed, Running, Kept}
use Rattle.gs_turn.specs.Plays.{with_next_made, numbered_next}
use Rattle.gs_bytes.proofs.Lists.{AllByRecursion-weaker}
use Rattle.gs_bytes.proofs.Cases.{less_is_other}
use Rattle.gs_turn.proofs.Seats.{total_set, total_snoc, each_set, each_snoc, apart_set, apart_snoc, alone_less, here_set, one_view}
use Rattle.gs_turn.proofs.Keeping.{HasNumber, HasTicket, not_fresh}
use Rattle.gs_turn.proofs.Own.{OwnIn, number_below}

-- no call was made under a number that no pass has yet
none_under : {C R : Type 0} (made : ℕ) (log : List (TurnCall C R)) → AllByRecursion (λ (e : TurnCall C R). e.number < made) log → calls_under made log ≡ []
none_under made [] all = refl
none_under made (e ∷ es) all = rw (less_is_other e.number made all.0) (none_under made es all.1)

-- the one number of a new pass
only_number : (C R : Type 0) (made a : ℕ) → has_number {C = C} {R = R} a ((made, []) ∷ []) ≡ true → a ≡ made
only_number C R made a has = ⊎_elim (λ (h : (a == made) ≡ true). grind (arith, nat_tests)) (λ h. absurd (cc h)) (or_cases (a == made) false has)

module _ {S C R : Type 0} (steps : S → C → R → S → Type 0) (about : Opening S) where
  abbrev St : Type 0
  St = State (Option S) (PassView S C R)

  module _ (id : ℕ) (v : PassView S C R) (s : St) (r : Running steps about s) (at : get_elem? s.views id ≡ some v) (makes : 0 < v.made)
      (room : v.made < about.passes) (numbered : 0 < length v.own) where
    abbrev w : PassView S C R
    w = with_next_made v

    abbrev new : PassView S C R
    new = numbered_next v

    abbrev views : List (PassView S C R)
    views = set s.views id w ++ new ∷ []

    mine : Knows r.drawn r.served r.made about.state r.log id v
    mine = r.known id v at

    made_is : (id ≡ 0) × (v.made ≡ r.made)
    made_is = mine.maker makes

    own_later : (own : List (ℕ × List (TurnCall C R))) → OwnIn r.made r.log own → OwnIn (r.made + 1) r.log own
    own_later own is = AllByRecursion-weaker (λ o. (o.0 < r.made) × (calls_under o.0 r.log ≡ o.1)) (λ o. (o.0 < r.made + 1) × (calls_under o.0 r.log ≡ o.1)) own
        (λ o h. let low = h.0 in (omega (arith, low), h.1)) is

    now : Knows r.drawn r.served (r.made + 1) about.state r.log id w
    now = record {
      stands = mine.stands;
      ticket_of_some = mine.ticket_of_some;
      of_cell = mine.of_cell;
      front = mine.front;
      olds = mine.olds;
      own = own_later v.own mine.own;
      maker = λ h. (made_is.0, let e = made_is.1 in omega (arith, e));
    }

    others : (j : ℕ) (u : PassView S C R) → j ≢ id → get_elem? s.views j ≡ some u → Knows r.drawn r.served (r.made + 1) about.state r.log j u
    others j u ne at_j =
        let h = r.known j u at_j in
        record {
          stands = h.stands;
          ticket_of_some = h.ticket_of_some;
          of_cell = h.of_cell;
          front = h.front;
          olds = h.olds;
          own = own_later u.own h.own;
          maker = λ some. absurd (ne ((h.maker some).0 ∙ sym made_is.0));
        }

    next : (j : ℕ) → Knows r.drawn r.served (r.made + 1) about.state r.log j new
    next j = record {
      stands = tt;
      ticket_of_some = omega arith;
      of_cell = λ some. mine.of_cell numbered;
      front = (r.log, refl);
      olds = tt;
      own = ((let e = made_is.1 in omega (arith, e), subst (λ (n : ℕ). calls_under n r.log ≡ []) (sym made_is.1) (none_under r.made r.log r.calls)), tt);
      maker = λ some. absurd (omega (arith, some));
    }

    -- the new number is no other pass's
    fresh_number : (a j : ℕ) (u : PassView S C R) → get_elem? (set s.views id w) j ≡ some u → HasNumber a new → HasNumber a u → ⊥
    fresh_number a j u at_j has theirs =
        let low : a < r.made = each_set (λ seat x. HasNumber a x → a < r.made) s.views id w (λ h. number_below r.made a r.log v.own h mine.own)
        (λ i x ne at_i h. number_below r.made a r.log x.own h (r.known i x at_i).own) j u at_j theirs in
        let one : a ≡ v.made = only_number C R v.made a has in
        let e = made_is.1 in absurd (omega (arith, low, one, e))

    pub split : Running steps about (record { words = s.words; homes = s.homes; views = views })
    split =
        let held = total_set (λ (u : PassView S C R). tickets_held u.standing) s.views id v w at in
        let owned = total_set (λ (u : PassView S C R). length u.own) s.views id v w at in
        let held' = total_snoc (λ (u : PassView S C R). tickets_held u.standing) (set s.views id w) new in
        let owned' = total_snoc (λ (u : PassView S C R). length u.own) (set s.views id w) new in
        let drawn = r.drawn_is in let made = r.made_is in let e = made_is.1 in
        record {
          log = r.log;
          state = r.state;
          drawn = r.drawn;
          served = r.served;
          made = r.made + 1;
          legal = r.legal;
          words = r.words;
          housed = ⊎_elim (λ h. inl h)
              (λ (out : (seat : ℕ) × (u : PassView S C R) × (get_elem? s.views seat ≡ some u) ×
              (u.standing ≡ Serving r.served)). served_still out.0 out.1 out.2 out.3)
              r.housed;
          taken = each_snoc (λ seat u. u.standing ≡ Serving r.served → s.homes ≡ none ∷ []) (set s.views id w) new (λ j is. absurd (cc is))
              (each_set (λ seat u. u.standing ≡ Serving r.served → s.homes ≡ none ∷ []) s.views id w (λ is. r.taken id v at is)
              (λ j u ne at_j. r.taken j u at_j));
          known = each_snoc (λ seat u. Knows r.drawn r.served (r.made + 1) about.state r.log seat u) (set s.views id w) new next
              (each_set (λ seat u. Knows r.drawn r.served (r.made + 1) about.state r.log seat u) s.views id w now others);
          numbers_apart = apart_snoc HasNumber (set s.views id w) new (apart_set HasNumber s.views id w r.numbers_apart
              (alone_less HasNumber s.views id v w r.numbers_apart at (λ a h. h))) fresh_number;
          tickets_apart = apart_snoc HasTicket (set s.views id w) new (apart_set HasTicket s.views id w r.tickets_apart
              (alone_less HasTicket s.views id v w r.tickets_apart at (λ a h. h))) (λ a j u at_j mine theirs. absurd (cc mine));
          drawn_is = omega arith;
          made_is = omega arith;
          few = omega (arith, room, e);
          fits = r.fits;
          calls = AllByRecursion-weaker (λ (x : TurnCall C R). x.number < r.made) (λ (x : TurnCall C R). x.number < r.made + 1) r.log
              (λ x low. omega (arith, low)) r.calls;
        }
      where
        served_still : (seat : ℕ) (u : PassView S C R) → get_elem? s.views seat ≡ some u → u.standing ≡ Serving r.served → Housed r.served r.state s.homes views
        served_still seat u at_u is =
            dite (ℕ_discrete seat id)
            (λ here. inr (
              id,
              w,
              at_longer (set s.views id w) (new ∷ []) id w (here_set s.views id v w at),
              ap (λ (x : PassView S C R). x.standing) (one_view s.views id v u at (subst (λ (z : ℕ). get_elem? s.views z ≡ some u) here at_u)) ∙ is,
            ))
            (λ apart. inr (seat, u, at_longer (set s.views id w) (new ∷ []) seat u (set_else s.views id seat w apart ∙ at_u), is))

  pub splits : (id : ℕ) (v : PassView S C R) → v.standing ≡ Outside → 0 < v.made → v.made < about.passes → 0 < length v.own → Splits (Kept steps about) id v
      (with_next_made v) (numbered_next v)
  splits id v out makes room numbered s (inl fresh) at = absurd (cc (out, not_fresh about s id v fresh at))
  splits id v out makes room numbered s (inr r) at = inr (split id v s r at makes room numbered)
