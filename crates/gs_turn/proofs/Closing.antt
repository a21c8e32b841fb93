-- What is known of a cell once no thread shares it, from a pass with all its numbers.
use Rattle.std.proofs.Common.{◌≡◌, ℕ, ◌<◌, true, List, [], ◌∷◌, sym, ap, ◌∙◌, subst, inl, inr}
use Rattle.std.proofs.Common.{⊎_elim, arith, Option, Some}
use Rattle.std.specs.List.{AllByRecursion}
use mathlib.Core.Option.{some}
use lib.ListN.{get_elem?}
use Rattle.atomic_table.specs.Table.{State, Final, Seen}
use Rattle.gs_turn.specs.declared.turn_call.TurnCall.{TurnCall}
use Rattle.gs_turn.specs.declared.rule.Opening.{Opening}
use Rattle.gs_turn.specs.declared.rule.PassView.{PassView}
use Rattle.gs_turn.specs.declared.rule.Standing.TheVariants.{Outside, Serving}
use Rattle.gs_turn.specs.History.{Leaves, Front, has_number, least_number, calls_under}
use Rattle.gs_turn.specs.Standings.{tickets_held}
use Rattle.gs_turn.specs.Rule.{Knows, Running, Kept}
use Rattle.gs_bytes.proofs.Lists.{AllByRecursion-weaker}
use Rattle.gs_turn.proofs.Seats.{one_view}
use Rattle.gs_turn.proofs.Keeping.{not_fresh}
use Rattle.gs_turn.proofs.Own.{has_least, number_below}

module _ {S C R : Type 0} (steps : S → C → R → S → Type 0) (about : Opening S) (id : ℕ) (v : PassView S C R) (out : v.standing ≡ Outside)
    (all : (n : ℕ) → n < about.passes → has_number n v.own ≡ true) where
  abbrev St : Type 0
  St = State (Option S) (PassView S C R)

  -- the state that one history leaves, which has the calls of the pass and no others
  pub record Closes (slots : List (Option S)) : Type 0 where
    pub state : S
    pub log : List (TurnCall C R)
    pub slot : get_elem? slots 0 ≡ some (Some state)
    pub legal : Leaves steps about.state log state
    pub front : Front v.front v.own log
    pub calls : AllByRecursion (λ (e : TurnCall C R). has_number e.number v.own ≡ true) log

  module _ (s : St) (r : Running steps about s) (at : get_elem? s.views id ≡ some v) where
    mine : Knows r.drawn r.served r.made about.state r.log id v
    mine = r.known id v at

    has_below : (n : ℕ) → n < r.made → has_number n v.own ≡ true
    has_below n low = let few = r.few in all n (omega (arith, low, few))

    -- every pass with a number is this one, and it isn't served
    at_home : s.homes ≡ some (Some r.state) ∷ []
    at_home = ⊎_elim (λ h. h)
        (λ (served : (seat : ℕ) × (u : PassView S C R) × (get_elem? s.views seat ≡ some u) × (u.standing ≡ Serving r.served)).
        let u = served.1 in
        let k = r.known served.0 u served.2 in
        let one : tickets_held u.standing ≡ 1 = ap tickets_held served.3 in
        let least = has_least u.own (let some = k.ticket_of_some in omega (arith, one, some)) in
        let here = r.numbers_apart served.0 id u v (least_number u.own) served.2 at least (has_below _ (number_below r.made _ r.log u.own least k.own)) in
        let same = one_view s.views id u v (subst (λ (z : ℕ). get_elem? s.views z ≡ some u) here served.2) at in
        absurd (cc (sym served.3 ∙ ap (λ (x : PassView S C R). x.standing) same ∙ out)))
        r.housed

    closed : (slots : List (Option S)) → ((k : ℕ) (y : Option S) → get_elem? s.homes k ≡ some (some y) → get_elem? slots k ≡ some y) → Closes slots
    closed slots values = record {
      state = r.state;
      log = r.log;
      slot = values 0 (Some r.state) (ap (λ hs. get_elem? hs 0) at_home);
      legal = r.legal;
      front = record {
        begins = mine.front;
        own_calls = AllByRecursion-weaker (λ o. (o.0 < r.made) × (calls_under o.0 r.log ≡ o.1))
            (λ o. calls_under o.0 r.log ≡ o.1) v.own (λ o h. h.1) mine.own;
      };
      calls = AllByRecursion-weaker (λ (e : TurnCall C R). e.number < r.made) (λ (e : TurnCall C R). has_number e.number v.own ≡ true) r.log
          (λ e low. has_below e.number low) r.calls;
    }

  by_case : (s : St) (slots : List (Option S)) → Kept steps about s → get_elem? s.views id ≡ some v →
      ((k : ℕ) (y : Option S) → get_elem? s.homes k ≡ some (some y) → get_elem? slots k ≡ some y) → Closes slots
  by_case s slots (inl fresh) at values = absurd (cc (out, not_fresh about s id v fresh at))
  by_case s slots (inr r) at values = closed s r at slots values

  pub closes : (words : List ℕ) (slots : List (Option S)) → Final (Seen (Kept steps about) id v) words slots → Closes slots
  closes words slots f = by_case f.0 slots f.1.0 f.1.1 f.4
