-- The state is given back, and the next ticket is served.
use Rattle.std.proofs.Common.{◌≡◌, ◌≢◌, ℕ, ◌+◌, ◌%◌, ◌^◌, ◌<◌, List, [], ◌∷◌, length, set, get_or, refl, ap, ap₂, ◌∙◌}
use Rattle.std.proofs.Common.{subst, inl, inr, arith, Option, Some}
use mathlib.Core.Option.{some, none}
use mathlib.Core.Logic.{dite}
use native.Mathlib.Decide.{ℕ_discrete}
use lib.ListN.{get_elem?}
use Rattle.atomic_table.specs.Table.{State, Me, step, gives, stepped, Allows, put_back}
use Rattle.gs_turn.specs.declared.turn_call.TurnCall.{TurnCall}
use Rattle.gs_turn.specs.declared.rule.Opening.{Opening}
use Rattle.gs_turn.specs.declared.rule.PassView.{PassView}
use Rattle.gs_turn.specs.declared.rule.Standing.{Standing}
use Rattle.gs_turn.specs.declared.rule.Standing.TheVariants.{Arriving, Outside, Waiting, Serving}
use Rattle.gs_turn.specs.History.{Leaves}
use Rattle.gs_turn.specs.Standings.{ticket, tickets_held}
use Rattle.gs_turn.specs.Rule.{StandsWell, Knows, Running, Kept}
use Rattle.gs_turn.specs.Plays.{gave_back}
use Rattle.gs_turn.proofs.Seats.{total_set, each_set, apart_set, alone_less}
use Rattle.gs_turn.proofs.Keeping.{HasNumber, HasTicket, not_fresh}
use Rattle.gs_turn.proofs.Counts.{served_front}

-- a pass that isn't served waits for a later ticket
stands_next : {A : Type 0} (drawn served : ℕ) (log front : List A) (st : Standing) → (ticket st ≡ Some served → ⊥) → StandsWell drawn served log front st
    → StandsWell drawn (served + 1) log front st
stands_next drawn served log front Arriving not w = w
stands_next drawn served log front Outside not w = w
stands_next drawn served log front (Waiting n) not w =
    let apart : n ≢ served = λ e. not (ap Some e) in let low = w.0 in dite (ℕ_discrete n served) (λ e. absurd (apart e)) (λ ne. (omega (arith, ne, low), w.1))
stands_next drawn served log front (Serving n) not w = absurd (not (ap Some w.0))

module _ {S C R : Type 0} (steps : S → C → R → S → Type 0) (about : Opening S) where
  abbrev St : Type 0
  St = State (Option S) (PassView S C R)

  module _ (id : ℕ) (me : Me (Option S) (PassView S C R)) (s : St) (r : Running steps about s) (at : get_elem? s.views id ≡ some me.0) (k : ℕ)
      (served : me.0.standing ≡ Serving k) (t : S) (has : me.1 ≡ (0, Some t) ∷ [])
      (left : Leaves steps about.state me.0.front t) where
    abbrev v : PassView S C R
    v = me.0

    abbrev w : PassView S C R
    w = record v { standing = Outside }

    mine : Knows r.drawn r.served r.made about.state r.log id v
    mine = r.known id v at

    stands : (k ≡ r.served) × (k < r.drawn) × (v.front ≡ r.log)
    stands = served_front r.drawn r.served k r.log v.front v.standing served mine.stands

    holds : ticket v.standing ≡ Some r.served
    holds = ap ticket served ∙ ap Some stands.0

    other : (j : ℕ) (u : PassView S C R) → j ≢ id → get_elem? s.views j ≡ some u → ticket u.standing ≡ Some r.served → ⊥
    other j u ne at_j is = ne (r.tickets_apart j id u v r.served at_j at is holds)

    pub next : Running steps about (stepped s 1 ((get_or s.words 1 0 + 1) % 2 ^ 64) id me.1 w gives)
    next =
        let held = total_set (λ (u : PassView S C R). tickets_held u.standing) s.views id v w at in
        let owned = total_set (λ (u : PassView S C R). length u.own) s.views id v w at in
        let one_held : tickets_held v.standing ≡ 1 = ap tickets_held served in
        let found : get_or s.words 1 0 ≡ r.served % 2 ^ 64 = ap (λ ws. get_or ws 1 0) r.words in
        let drawn_is = r.drawn_is in let made_is = r.made_is in
        let away : s.homes ≡ none ∷ [] = r.taken id v at (served ∙ ap Serving stands.0) in
        let home : put_back s.homes me.1 ≡ some (Some t) ∷ [] = ap₂ put_back away has in
        record {
          log = r.log;
          state = t;
          drawn = r.drawn;
          served = r.served + 1;
          made = r.made;
          legal = subst (λ (h : List (TurnCall C R)). Leaves steps about.state h t) stands.2 left;
          words = ap (λ ws. set ws 1 ((get_or s.words 1 0 + 1) % 2 ^ 64)) r.words ∙ ap (λ (n : ℕ). r.drawn % 2 ^ 64 ∷ n ∷ length r.log % 2 ^ 64 ∷ [])
              (omega (arith, found));
          housed = inl home;
          taken = each_set (λ seat u. u.standing ≡ Serving (r.served + 1) → put_back s.homes me.1 ≡ none ∷ []) s.views id w (λ e. absurd (cc e))
              (λ j u ne at_j is. let h = served_front r.drawn r.served (r.served + 1) r.log u.front u.standing is (r.known j u at_j).stands in absurd
              (omega (arith, h.0)));
          known = each_set (λ seat u. Knows r.drawn (r.served + 1) r.made about.state r.log seat u) s.views id w
              (record {
                stands = tt;
                ticket_of_some = omega arith;
                of_cell = mine.of_cell;
                front = mine.front;
                olds = mine.olds;
                own = mine.own;
                maker =
                    mine.maker;
              })
              (λ j u ne at_j. let h = r.known j u at_j in
              record {
                stands = stands_next r.drawn r.served r.log u.front u.standing (other j u ne at_j) h.stands;
                ticket_of_some = h.ticket_of_some;
                of_cell =
                    h.of_cell;
                front = h.front;
                olds = h.olds;
                own = h.own;
                maker = h.maker;
              });
          numbers_apart = apart_set HasNumber s.views id w r.numbers_apart (alone_less HasNumber s.views id v w r.numbers_apart at (λ a h. h));
          tickets_apart = apart_set HasTicket s.views id w r.tickets_apart (alone_less HasTicket s.views id v w r.tickets_apart at (λ a h. absurd (cc h)));
          drawn_is = omega arith;
          made_is = omega arith;
          few = r.few;
          fits = r.fits;
          calls = r.calls;
        }

  pub gives_back : (slots id : ℕ) (me : Me (Option S) (PassView S C R)) (k : ℕ) (t : S) → me.0.standing ≡ Serving k → me.1 ≡ (0, Some t) ∷ []
      → Leaves steps about.state me.0.front t
      → Allows (Kept steps about) slots id me 1 (λ n. (n + 1) % 2 ^ 64) (gave_back (step slots 1 1 0 none) me)
  gives_back slots id me k t served has left s (inl fresh) deep at small = absurd (cc (served, not_fresh about s id me.0 fresh at))
  gives_back slots id me k t served has left s (inr r) deep at small = (
    record me.0 { standing = Outside },
    gives,
    tt,
    inr
        (next id me s r at k served t has left),
    refl,
  )
