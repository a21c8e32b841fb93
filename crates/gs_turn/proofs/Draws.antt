-- A ticket is drawn.
use Rattle.std.proofs.Common.{◌≡◌, ℕ, ◌+◌, ◌%◌, ◌^◌, ◌<◌, List, [], ◌∷◌, length, set, get_or, refl, ap, ◌∙◌, inl, inr, arith}
use Rattle.std.proofs.Common.{Option}
use mathlib.Core.Option.{some, none}
use lib.ListN.{get_elem?}
use Rattle.atomic_table.specs.Table.{State, Me, step, keeps, stepped, Allows}
use Rattle.gs_turn.specs.declared.rule.Opening.{Opening}
use Rattle.gs_turn.specs.declared.rule.PassView.{PassView}
use Rattle.gs_turn.specs.declared.rule.Standing.{Standing}
use Rattle.gs_turn.specs.declared.rule.Standing.TheVariants.{Arriving, Outside, Waiting, Serving}
use Rattle.gs_turn.specs.Standings.{tickets_held}
use Rattle.gs_turn.specs.Rule.{StandsWell, Knows, Running, Kept}
use Rattle.gs_turn.specs.Plays.{drew}
use Rattle.gs_turn.proofs.Seats.{total_set, each_set, apart_set, alone_less}
use Rattle.gs_turn.proofs.Keeping.{ticket_within, HasNumber, HasTicket, housed_set, not_fresh}

stands_later : {A : Type 0} (drawn served : ℕ) (log front : List A) (st : Standing) → StandsWell drawn served log front st → StandsWell
    (drawn + 1) served log front st
stands_later drawn served log front Arriving w = w
stands_later drawn served log front Outside w = w
stands_later drawn served log front (Waiting n) w = (w.0, omega (arith, w.1))
stands_later drawn served log front (Serving n) w = (w.0, omega (arith, w.1), w.2)

module _ {S C R : Type 0} where
  module _ (steps : S → C → R → S → Type 0) (about : Opening S) where
    abbrev St : Type 0
    St = State (Option S) (PassView S C R)

    draws_running : (slots id : ℕ) (me : Me (Option S) (PassView S C R)) (s : St) → Running steps about s → get_elem? s.views id ≡ some me.0
        → me.0.standing ≡ Outside → 0 < length me.0.own
        → (w : (PassView S C R)) × Running steps about (stepped s 0 ((get_or s.words 0 0 + 1) % 2 ^ 64) id me.1 w keeps) × drew (step slots 0 1 0 none) me
        (get_or s.words 0 0) (w, me.1)
    draws_running slots id me s r at out numbered =
        let v = me.0 in
        let w : (PassView S C R) = record v { standing = Waiting r.drawn } in
        let mine = r.known id v at in
        let found : get_or s.words 0 0 ≡ r.drawn % 2 ^ 64 = ap (λ ws. get_or ws 0 0) r.words in
        let held = total_set (λ (u : (PassView S C R)). tickets_held u.standing) s.views id v w at in
        let owned = total_set (λ (u : (PassView S C R)). length u.own) s.views id v w at in
        let none_held : tickets_held v.standing ≡ 0 = ap tickets_held out in
        let drawn_is = r.drawn_is in
        let made_is = r.made_is in (
          w,
          record {
            log = r.log;
            state = r.state;
            drawn = r.drawn + 1;
            served = r.served;
            made = r.made;
            legal = r.legal;
            words = ap (λ ws. set ws 0 ((get_or s.words 0 0 + 1) % 2 ^ 64)) r.words ∙ ap (λ (n : ℕ). n ∷ r.served % 2 ^ 64 ∷ length r.log % 2 ^ 64 ∷ [])
                (omega (arith, found));
            housed = housed_set r.served r.state s.homes s.views id v w at (λ e. absurd (cc (out, e))) r.housed;
            taken = each_set (λ seat u. u.standing ≡ Serving r.served → s.homes ≡ none ∷ []) s.views id w (λ e. absurd (cc e))
                (λ j u ne at_j. r.taken j u at_j);
            known = each_set (λ seat u. Knows (r.drawn + 1) r.served r.made about.state r.log seat u) s.views id w
                (record {
                  stands = (omega arith, omega arith);
                  ticket_of_some = omega (arith, numbered);
                  of_cell = mine.of_cell;
                  front = mine.front;
                  olds =
                      mine.olds;
                  own = mine.own;
                  maker = mine.maker;
                })
                (λ j u ne at_j. let k = r.known j u at_j in
                record {
                  stands = stands_later r.drawn r.served r.log u.front u.standing k.stands;
                  ticket_of_some = k.ticket_of_some;
                  of_cell = k.of_cell;
                  front = k.front;
                  olds = k.olds;
                  own = k.own;
                  maker = k.maker;
                });
            numbers_apart = apart_set HasNumber s.views id w r.numbers_apart (alone_less HasNumber s.views id v w r.numbers_apart at (λ a h. h));
            tickets_apart = apart_set HasTicket s.views id w r.tickets_apart
                (λ k j u ne at_j mine theirs. let same : r.drawn ≡ k = cc mine in let low = ticket_within r.drawn r.served r.log u.front u.standing k
                (r.known j u at_j).stands theirs in absurd (omega (arith, low.1)));
            drawn_is = omega arith;
            made_is = omega arith;
            few = r.few;
            fits = r.fits;
            calls = r.calls;
          },
          (r.drawn, found, refl),
        )

    pub draws : (slots id : ℕ) (me : Me (Option S) (PassView S C R)) → me.0.standing ≡ Outside → 0 < length me.0.own → Allows (Kept steps about) slots id me 0
        (λ n. (n + 1) % 2 ^ 64) (drew (step slots 0 1 0 none) me)
    draws slots id me out numbered s (inl fresh) deep at small = absurd (cc (out, not_fresh about s id me.0 fresh at))
    draws slots id me out numbered s (inr r) deep at small = let d = draws_running slots id me s r at out numbered in (d.0, keeps, tt, inr d.1, d.2)
