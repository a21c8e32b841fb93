-- A call joins the history.
use Rattle.std.proofs.Common.{◌≡◌, ◌≢◌, ℕ, ◌+◌, ◌%◌, ◌^◌, ◌<◌, ◌≤◌, true, false, List, [], ◌∷◌, ◌++◌, length, set, get_or, sym, ap, ap₂}
use Rattle.std.proofs.Common.{◌∙◌, subst, inl, inr, arith, Option, Some, length-append, append-nil}
use Rattle.std.specs.List.{AllByRecursion}
use Rattle.std.proofs.lemmas.Bool.{false_from_ne_true}
use mathlib.Core.Option.{some, none}
use mathlib.Core.List.{IsPrefix}
use lib.ListN.{get_elem?}
use Rattle.atomic_table.specs.Table.{State, Me, step, keeps, stepped, Allows}
use Rattle.gs_turn.specs.declared.turn_call.TurnCall.{TurnCall}
use Rattle.gs_turn.specs.declared.rule.Opening.{Opening}
use Rattle.gs_turn.specs.declared.rule.PassView.{PassView}
use Rattle.gs_turn.specs.declared.rule.Standing.{Standing}
use Rattle.gs_turn.specs.declared.rule.Standing.TheVariants.{Arriving, Outside, Waiting, Serving}
use Rattle.gs_turn.specs.History.{Leaves, HasOwn, turn_call, least_number, has_number, calls_under}
use Rattle.gs_turn.specs.Standings.{ticket, tickets_held}
use Rattle.gs_turn.specs.Rule.{StandsWell, Knows, Running, Kept}
use Rattle.gs_turn.specs.Plays.{counted, after_call}
use Rattle.gs_bytes.proofs.Lists.{AllByRecursion-weaker, AllByRecursion-append}
use Rattle.gs_turn.proofs.Seats.{total_set, here_set, each_set, apart_set, alone_less}
use Rattle.gs_turn.proofs.Keeping.{HasNumber, HasTicket, not_fresh}
use Rattle.gs_turn.proofs.Own.{prefix_append, leaves_one_more, own_with_call, own_of_another, number_below, has_least, has_with_call}
use Rattle.gs_turn.proofs.Own.{length-with_call}

-- a pass that isn't served needs nothing of the history
stands_past : {A : Type 0} (drawn served : ℕ) (log more front : List A) (st : Standing) → (st ≡ Serving served → ⊥) → StandsWell drawn served log front st
    → StandsWell drawn served more front st
stands_past drawn served log more front Arriving not w = w
stands_past drawn served log more front Outside not w = w
stands_past drawn served log more front (Waiting n) not w = w
stands_past drawn served log more front (Serving n) not w = absurd (not (ap Serving w.0))

-- who is served knows the whole history
pub served_front : {A : Type 0} (drawn served k : ℕ) (log front : List A) (st : Standing) → st ≡ Serving k → StandsWell drawn served log front st →
    (k ≡ served) × (k < drawn) × (front ≡ log)
served_front drawn served k log front st is w = subst (StandsWell drawn served log front) is w

module _ {S C R : Type 0} (steps : S → C → R → S → Type 0) (about : Opening S) where
  abbrev St : Type 0
  St = State (Option S) (PassView S C R)

  module _ (id : ℕ) (me : Me (Option S) (PassView S C R)) (s : St) (r : Running steps about s) (at : get_elem? s.views id ≡ some me.0) (k : ℕ)
      (served : me.0.standing ≡ Serving k) (numbered : 0 < length me.0.own) (c : C) (reply : R) (before after : S)
      (left : Leaves steps about.state me.0.front before) (may : steps before c reply after) where
    abbrev v : PassView S C R
    v = me.0

    abbrev e : TurnCall C R
    e = turn_call (least_number v.own) c reply

    abbrev w : PassView S C R
    w = after_call c reply v

    abbrev log : List (TurnCall C R)
    log = r.log ++ e ∷ []

    mine : Knows r.drawn r.served r.made about.state r.log id v
    mine = r.known id v at

    stands : (k ≡ r.served) × (k < r.drawn) × (v.front ≡ r.log)
    stands = served_front r.drawn r.served k r.log v.front v.standing served mine.stands

    my_least : has_number e.number v.own ≡ true
    my_least = has_least v.own numbered

    now : Knows r.drawn r.served r.made about.state log id w
    now = record {
      stands = subst (StandsWell r.drawn r.served log w.front) (sym served) (stands.0, stands.1, ap (λ h. h ++ e ∷ []) stands.2);
      ticket_of_some = subst (λ (n : ℕ). tickets_held v.standing ≤ n) (sym (length-with_call e v.own)) mine.ticket_of_some;
      of_cell = λ some. mine.of_cell numbered;
      front = ([], append-nil w.front ∙ ap (λ h. h ++ e ∷ []) stands.2);
      olds = AllByRecursion-weaker (λ old. IsPrefix old r.log) (λ old. IsPrefix old log) v.olds (λ old p. prefix_append old r.log (e ∷ []) p) mine.olds;
      own = own_with_call r.made r.log e v.own mine.own;
      maker = mine.maker;
    }

    then : (j : ℕ) (u : PassView S C R) → j ≢ id → get_elem? s.views j ≡ some u → Knows r.drawn r.served r.made about.state log j u
    then j u ne at_j =
        let k = r.known j u at_j in
        let not_served : (u.standing ≡ Serving r.served) → ⊥ = λ is. ne (r.tickets_apart j id u v r.served at_j at (ap ticket is)
        (ap ticket served ∙ ap Some stands.0)) in
        let not_mine : has_number e.number u.own ≡ false = false_from_ne_true _ (λ has. ne (r.numbers_apart j id u v e.number at_j at has my_least)) in
        record {
          stands = stands_past r.drawn r.served r.log log u.front u.standing not_served k.stands;
          ticket_of_some = k.ticket_of_some;
          of_cell = k.of_cell;
          front = prefix_append u.front r.log (e ∷ []) k.front;
          olds = AllByRecursion-weaker (λ old. IsPrefix old r.log) (λ old. IsPrefix old log) u.olds (λ old p. prefix_append old r.log (e ∷ []) p) k.olds;
          own = own_of_another r.made r.log e u.own not_mine k.own;
          maker = k.maker;
        }

    one_more : Running steps about (stepped s 2 ((get_or s.words 2 0 + 1) % 2 ^ 64) id me.1 w keeps)
    one_more =
        let held = total_set (λ (u : PassView S C R). tickets_held u.standing) s.views id v w at in
        let owned = total_set (λ (u : PassView S C R). length u.own) s.views id v w at in
        let long = length-with_call e v.own in
        let found : get_or s.words 2 0 ≡ length r.log % 2 ^ 64 = ap (λ ws. get_or ws 2 0) r.words in
        let drawn_is = r.drawn_is in let made_is = r.made_is in
        record {
          log = log;
          state = after;
          drawn = r.drawn;
          served = r.served;
          made = r.made;
          legal = leaves_one_more steps about.state before after r.log e
              (subst (λ (h : List (TurnCall C R)). Leaves steps about.state h before) stands.2 left) may;
          words = ap (λ ws. set ws 2 ((get_or s.words 2 0 + 1) % 2 ^ 64)) r.words
              ∙ ap (λ (n : ℕ). r.drawn % 2 ^ 64 ∷ r.served % 2 ^ 64 ∷ n ∷ []) (omega (arith, found, length-append r.log (e ∷ [])));
          housed = inr (id, w, here_set s.views id v w at, served ∙ ap Serving stands.0);
          taken = each_set (λ seat u. u.standing ≡ Serving r.served → s.homes ≡ none ∷ []) s.views id w (λ is. r.taken id v at is)
              (λ j u ne at_j. r.taken j u at_j);
          known = each_set (λ seat u. Knows r.drawn r.served r.made about.state log seat u) s.views id w now then;
          numbers_apart = apart_set HasNumber s.views id w r.numbers_apart
              (alone_less HasNumber s.views id v w r.numbers_apart at (λ a h. sym (has_with_call a e v.own) ∙ h));
          tickets_apart = apart_set HasTicket s.views id w r.tickets_apart (alone_less HasTicket s.views id v w r.tickets_apart at (λ a h. h));
          drawn_is = omega arith;
          made_is = omega arith;
          few = r.few;
          fits = r.fits;
          calls = AllByRecursion-append (λ (x : TurnCall C R). x.number < r.made) r.log (e ∷ [])
              r.calls (number_below r.made e.number r.log v.own my_least mine.own, tt);
        }

    -- the pass's own calls stand in its front
    own_stands : HasOwn w.own w.front
    own_stands = AllByRecursion-weaker (λ o. (o.0 < r.made) × (calls_under o.0 w.front ≡ o.1)) (λ o. calls_under o.0 w.front ≡ o.1) w.own (λ o h. h.1)
        (subst (λ (h : List (TurnCall C R)). AllByRecursion (λ o. (o.0 < r.made) × (calls_under o.0 h ≡ o.1)) w.own)
        (sym (ap (λ h. h ++ e ∷ []) stands.2)) now.own)

  pub counts : (slots id : ℕ) (me : Me (Option S) (PassView S C R)) (k : ℕ) (calls : List C) (replies : List R) (c : C) (reply : R) (before after : S)
      → me.0.standing ≡ Serving k → 0 < length me.0.own → calls ≡ c ∷ [] → replies ≡ reply ∷ [] → Leaves steps about.state me.0.front before
      → steps before c reply after
      → Allows (Kept steps about) slots id me 2 (λ n. (n + 1) % 2 ^ 64) (counted calls replies (step slots 2 1 0 none) me)
  counts slots id me k calls replies c reply before after served numbered asked replied left may s (inl fresh) deep at small = absurd
      (cc (served, not_fresh about s id me.0 fresh at))
  counts slots id me k calls replies c reply before after served numbered asked replied left may s (inr r) deep at small = (
    after_call c reply me.0,
    keeps,
    tt,
    inr (one_more id me s r at k served numbered c reply before after left may),
    λ c' r' asked' replied'.
        let one : c ≡ c' = cc (asked, asked') in
        let other : reply ≡ r' = cc (replied, replied') in (
          ap₂ (λ (x : C) (y : R). (after_call x y me.0, me.1)) one other,
          own_stands id me s r at k served numbered c reply before after left may,
        ),
  )
