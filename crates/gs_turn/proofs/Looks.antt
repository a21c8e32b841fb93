-- The ticket that is served is read. Where it is the pass's own, the pass takes the state.
use Rattle.std.proofs.Common.{◌≡◌, ℕ, ◌%◌, ◌^◌, ◌==◌, Bool, true, false, List, [], ◌∷◌, length, set, get_or, refl, sym, ap, ◌∙◌}
use Rattle.std.proofs.Common.{subst, inl, inr, ⊎_elim, arith, Option, Some}
use Rattle.std.proofs.lemmas.Bool.Decides.{nat_tests}
use mathlib.Core.Option.{some, none}
use lib.ListN.{get_elem?}
use Rattle.atomic_table.specs.Table.{State, Me, step, Act, takes, keeps, stepped, Allows, Valid, carried_after}
use Rattle.atomic_table.proofs.Lists.{set_again, one_turn}
use Rattle.gs_turn.specs.declared.rule.Opening.{Opening}
use Rattle.gs_turn.specs.declared.rule.PassView.{PassView}
use Rattle.gs_turn.specs.declared.rule.Standing.TheVariants.{Waiting, Serving}
use Rattle.gs_turn.specs.Standings.{ticket, tickets_held}
use Rattle.gs_turn.specs.Rule.{Knows, Running, Kept}
use Rattle.gs_turn.specs.Plays.{saw_served}
use Rattle.gs_bytes.proofs.Lists.{prefix_self}
use Rattle.gs_turn.proofs.Seats.{total_set, total_le, one_view, here_set, each_set, apart_set, alone_less}
use Rattle.gs_turn.proofs.Keeping.{ticket_within, HasNumber, HasTicket, not_fresh}

-- a word that is written as it was
same_word : (ws : List ℕ) (a b c : ℕ) → ws ≡ a ∷ b ∷ c ∷ [] → set ws 1 (get_or ws 1 0) ≡ ws
same_word ws a b c is = subst (λ (z : List ℕ). set z 1 (get_or z 1 0) ≡ z) (sym is) refl

module _ {S C R : Type 0} (steps : S → C → R → S → Type 0) (about : Opening S) where
  abbrev St : Type 0
  St = State (Option S) (PassView S C R)

  module _ (slots id : ℕ) (me : Me (Option S) (PassView S C R)) (s : St) (r : Running steps about s) (at : get_elem? s.views id ≡ some me.0) (k : ℕ)
      (waits : me.0.standing ≡ Waiting k) where
    abbrev found : ℕ
    found = get_or s.words 1 0

    -- what a look gives
    abbrev Look : Type 0
    Look = (w : PassView S C R) × (a : Act (Option S)) × Valid s.homes me.1 a × Running steps about (stepped s 1 found id me.1 w a) × saw_served steps
        (step slots 1 0 0 none) me found (w, carried_after me.1 a)

    found_is : found ≡ r.served % 2 ^ 64
    found_is = ap (λ ws. get_or ws 1 0) r.words

    still : stepped s 1 found id me.1 me.0 keeps ≡ s
    still = let ws = same_word s.words _ _ _ r.words in let vs = set_again s.views id me.0 at in λ i. record { words = ws i; homes = s.homes; views = vs i }

    miss : (found == k % 2 ^ 64) ≡ false → Look
    miss not = (me.0, keeps, tt, subst (Running steps about) (sym still) r, λ j is. let same : j ≡ k = cc (is, waits) in rw (same, not) refl)

    -- fewer tickets are held than there are words' values, so a ticket served is one number
    is_served : (found == k % 2 ^ 64) ≡ true → r.served ≡ k
    is_served hit =
        let mine = r.known id me.0 at in
        let held = total_le (λ (u : PassView S C R). tickets_held u.standing) (λ (u : PassView S C R). length u.own) s.views
        (λ j u at_j. (r.known j u at_j).ticket_of_some) in
        let within = ticket_within r.drawn r.served r.log me.0.front me.0.standing k mine.stands (ap ticket waits) in
        let drawn_is = r.drawn_is in let made_is = r.made_is in let few = r.few in let fits = r.fits in
        let same : found ≡ k % 2 ^ 64 = grind (arith, nat_tests) in
        one_turn r.served k (2 ^ 64) within.0 (omega (arith, within.1)) (sym found_is ∙ same)

    -- nobody else is served
    at_home : r.served ≡ k → s.homes ≡ some (Some r.state) ∷ []
    at_home mine = ⊎_elim (λ h. h)
        (λ (out : (seat : ℕ) × (v : PassView S C R) × (get_elem? s.views seat ≡ some v) × (v.standing ≡ Serving r.served)).
        let here : out.0 ≡ id = r.tickets_apart out.0 id out.1 me.0 r.served out.2 at (ap ticket out.3) (ap ticket waits ∙ ap Some (sym mine)) in
        let one : out.1 ≡ me.0 = one_view s.views id out.1 me.0 (subst (λ (z : ℕ). get_elem? s.views z ≡ some out.1) here out.2) at in
        absurd (cc (sym out.3 ∙ ap (λ (u : PassView S C R). u.standing) one ∙ waits)))
        r.housed

    hit : (found == k % 2 ^ 64) ≡ true → Look
    hit is =
        let v = me.0 in
        let mine = r.known id v at in
        let now = is_served is in
        let home = at_home now in
        let w : PassView S C R = record v { standing = Serving k; front = r.log } in
        let away : set s.homes 0 none ≡ none ∷ [] = ap (λ hs. set hs 0 none) home in
        let held = total_set (λ (u : PassView S C R). tickets_held u.standing) s.views id v w at in
        let owned = total_set (λ (u : PassView S C R). length u.own) s.views id v w at in
        let one_held : tickets_held v.standing ≡ 1 = ap tickets_held waits in
        let within = ticket_within r.drawn r.served r.log v.front v.standing k mine.stands (ap ticket waits) in
        let some_own = mine.ticket_of_some in
        let opened = mine.of_cell (omega (arith, one_held, some_own)) in
        let drawn_is = r.drawn_is in let made_is = r.made_is in (
          w,
          takes 0 (Some r.state),
          ap (λ hs. get_elem? hs 0) home,
          record {
            log = r.log;
            state = r.state;
            drawn = r.drawn;
            served = r.served;
            made = r.made;
            legal = r.legal;
            words = same_word s.words _ _ _ r.words ∙ r.words;
            housed = inr (id, w, here_set s.views id v w at, ap Serving (sym now));
            taken = λ j u at_j is. away;
            known = each_set (λ seat u. Knows r.drawn r.served r.made about.state r.log seat u) s.views id w
                (record {
                  stands = (sym now, within.1, refl);
                  ticket_of_some = omega (arith, one_held, some_own);
                  of_cell = mine.of_cell;
                  front =
                      prefix_self r.log;
                  olds = mine.olds;
                  own = mine.own;
                  maker = mine.maker;
                })
                (λ j u ne at_j. r.known j u at_j);
            numbers_apart = apart_set HasNumber s.views id w r.numbers_apart (alone_less HasNumber s.views id v w r.numbers_apart at (λ a h. h));
            tickets_apart = apart_set HasTicket s.views id w r.tickets_apart
                (alone_less HasTicket s.views id v w r.tickets_apart at (λ a h. ap ticket waits ∙ h));
            drawn_is = omega arith;
            made_is = omega arith;
            few = r.few;
            fits = r.fits;
            calls = r.calls;
          },
          λ j eq. let same : j ≡ k = cc (eq, waits) in
              rw (same, is) (r.log, r.state, mine.front, rw opened r.legal, refl),
        )

    looks_by : (b : Bool) → (found == k % 2 ^ 64) ≡ b → Look
    looks_by true is = hit is
    looks_by false is = miss is

  pub looks : (slots id : ℕ) (me : Me (Option S) (PassView S C R)) (k : ℕ) → me.0.standing ≡ Waiting k → Allows (Kept steps about) slots id me 1 (λ n. n)
      (saw_served steps (step slots 1 0 0 none) me)
  looks slots id me k waits s (inl fresh) deep at small = absurd (cc (waits, not_fresh about s id me.0 fresh at))
  looks slots id me k waits s (inr r) deep at small =
      let l = looks_by slots id me s r at k waits (get_or s.words 1 0 == k % 2 ^ 64) refl in (l.0, l.1, l.2, inr l.3, l.4)
