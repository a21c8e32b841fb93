-- What the proofs of all kinds of step share.
use Rattle.std.proofs.Common.{◌≡◌, ◌≢◌, ℕ, ◌<◌, ◌≤◌, List, [], ◌∷◌, set, refl, sym, ap, ◌∙◌, subst, inl, inr, arith}
use Rattle.std.proofs.Common.{Option, Some, None, true}
use mathlib.Core.Option.{some, none}
use mathlib.Core.Option as maybe
use lib.ListN.{get_elem?}
use Rattle.atomic_table.specs.Table.{State, opening}
use Rattle.atomic_table.proofs.Lists.{set_else}
use Rattle.gs_turn.specs.declared.rule.Opening.{Opening}
use Rattle.gs_turn.specs.declared.rule.PassView.{PassView}
use Rattle.gs_turn.specs.declared.rule.Standing.{Standing}
use Rattle.gs_turn.specs.declared.rule.Standing.TheVariants.{Arriving, Outside, Waiting, Serving}
use Rattle.gs_turn.specs.History.{has_number}
use Rattle.gs_turn.specs.Standings.{is_outside, ticket}
use Rattle.gs_turn.specs.Rule.{arriving, StandsWell, Housed}
use Rattle.gs_turn.proofs.Seats.{one_view, only_view}

-- a ticket that is held was drawn and isn't passed by
pub ticket_within : {A : Type 0} (drawn served : ℕ) (log front : List A) (st : Standing) (k : ℕ) → StandsWell drawn served log front st → ticket st ≡ Some k →
    (served ≤ k) × (k < drawn)
ticket_within drawn served log front Arriving k w is = absurd w
ticket_within drawn served log front Outside k w is = absurd (cc is)
ticket_within drawn served log front (Waiting n) k w is = let same : n ≡ k = cc is in (omega (arith, w.0), omega (arith, w.1))
ticket_within drawn served log front (Serving n) k w is = let same : n ≡ k = cc is in (omega (arith, w.0), omega (arith, w.1))

pub outside_is : (st : Standing) → is_outside st ≡ true → st ≡ Outside
outside_is Arriving is = absurd (cc is)
outside_is Outside is = refl
outside_is (Waiting k) is = absurd (cc is)
outside_is (Serving k) is = absurd (cc is)

module _ {S C R : Type 0} where
  abbrev pub HasNumber : ℕ → (PassView S C R) → Type 0
  HasNumber number v = has_number number v.own ≡ true

  abbrev pub HasTicket : ℕ → (PassView S C R) → Type 0
  HasTicket k v = ticket v.standing ≡ Some k

  -- the pass that is served is another one
  pub housed_set : (served : ℕ) (t : S) (homes : List (maybe.Option (Option S))) (views : List (PassView S C R)) (id : ℕ) (v w : (PassView S C R))
      → get_elem? views id ≡ some v → v.standing ≢ Serving served
      → Housed served t homes views → Housed served t homes (set views id w)
  housed_set served t homes views id v w at not (inl home) = inl home
  housed_set served t homes views id v w at not (inr out) =
      let seat = out.0 in let u = out.1 in
      let apart : seat ≢ id = λ e. not (ap (λ (x : (PassView S C R)). x.standing)
      (one_view views id v u at (subst (λ (z : ℕ). get_elem? views z ≡ some u) e out.2)) ∙ out.3) in
      inr (seat, u, set_else views id seat w apart ∙ out.2, out.3)

  module _ (about : Opening S) where
    -- a cell just made has no pass that is outside
    pub not_fresh : (s : State (Option S) (PassView S C R)) (id : ℕ) (v : (PassView S C R)) → s ≡ opening (1 ∷ 0 ∷ 0 ∷ []) (None ∷ []) (arriving about.state)
        → get_elem? s.views id ≡ some v → v.standing ≡ Arriving
    not_fresh s id v fresh at = ap (λ (x : (PassView S C R)). x.standing)
        (sym (only_view (arriving about.state) v id (subst (λ (z : State (Option S) (PassView S C R)). get_elem? z.views id ≡ some v) fresh at)))
