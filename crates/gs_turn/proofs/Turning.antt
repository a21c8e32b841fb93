-- The parts of one turn, put together.
use Rattle.std.proofs.Common.{◌≡◌, ℕ, ◌<◌, List, [], ◌∷◌, length, sym, ap, ◌∙◌, subst, Option, Some, None}
use Rattle.atomic_table.specs.Table.{Me, rest}
use Rattle.atomic_table.specs.declared.shared.Seat.{Seat}
use Rattle.gs_turn.specs.declared.rule.PassView.{PassView}
use Rattle.gs_turn.specs.declared.rule.Standing.TheVariants.{Serving}
use Rattle.gs_turn.specs.declared.turn.Turn.{Turn}
use Rattle.gs_turn.specs.History.{Leaves, HasOwn, turn_call, least_number}
use Rattle.gs_turn.specs.Cells.{opening_of}
use Rattle.gs_turn.specs.Plays.{after_call}
use Rattle.gs_turn.specs.Turns.{IsSeatOf, Became, HasState, Called}
use Rattle.gs_turn.proofs.Own.{leaves_one_more, length-with_call}

module _ {S C R : Type 0} (steps : S → C → R → S → Type 0) (t : Turn S C R) (call : C) (reply : R) where
  abbrev Sat : Type 0
  Sat = Seat (Option S) (PassView S C R)

  -- a seat whose turn has come, the same without the state, and then with its call made
  pub record Made (old taken made : Sat) (before after : S) : Type 0 where
    pub seat : IsSeatOf t old
    pub turn : HasState steps t old
    pub found : old.me.1 ≡ (0, Some before) ∷ rest old.me.1
    pub cell : taken.table_id ≡ old.table_id
    pub id : taken.id ≡ old.id
    pub took : taken.me ≡ (old.me.0, (0, None) ∷ rest old.me.1)
    pub step : steps before call reply after
    pub called : Called steps call reply taken made taken.me.1

  module _ (old taken made : Sat) (before after : S) (m : Made old taken made before after) where
    abbrev state : S
    state = m.turn.0

    same_state : before ≡ state
    same_state =
        let pair : (0, Some before) ≡ (0, Some state) = cc (m.found, m.turn.1.2) in
        let value : Some before ≡ Some state = ap (λ (p : ℕ × Option S). p.1) pair in
        cc value

    taken_is : taken.me ≡ (old.me.0, (0, None) ∷ [])
    taken_is = m.took ∙ ap (λ (xs : List (ℕ × Option S)). (old.me.0, (0, None) ∷ rest xs)) m.turn.1.2

    pub made_is : made.me ≡ (after_call call reply old.me.0, (0, None) ∷ [])
    made_is = m.called.0.me ∙ ap (λ (me : Me (Option S) (PassView S C R)). (after_call call reply me.0, me.1)) taken_is

    pub made_cell : made.table_id ≡ old.table_id
    made_cell = m.called.0.cell ∙ m.cell

    pub made_id : made.id ≡ old.id
    made_id = m.called.0.id ∙ m.id

    pub made_seat : IsSeatOf t made
    made_seat = record {
      cell = made_cell ∙ m.seat.cell;
      opening = ap (λ (me : Me (Option S) (PassView S C R)). me.0.opening) made_is ∙ m.seat.opening;
      numbered = subst (λ (me : Me (Option S) (PassView S C R)). 0 < length me.0.own) (sym made_is)
          (subst (λ (n : ℕ). 0 < n) (sym (length-with_call (turn_call (least_number old.me.0.own) call reply) old.me.0.own)) m.seat.numbered);
    }

    pub made_turn : (k : ℕ) × (made.me.0.standing ≡ Serving k) × (made.me.1 ≡ (0, None) ∷ [])
    made_turn = (
      m.turn.1.0,
      ap (λ (me : Me (Option S) (PassView S C R)). me.0.standing) made_is ∙ m.turn.1.1,
      ap (λ (me : Me (Option S) (PassView S C R)). me.1) made_is,
    )

    pub made_state : Leaves steps (opening_of t) made.me.0.front after
    made_state = subst (λ (me : Me (Option S) (PassView S C R)). Leaves steps (opening_of t) me.0.front after) (sym made_is)
        (leaves_one_more steps (opening_of t) state after old.me.0.front (turn_call (least_number old.me.0.own) call reply) m.turn.2
        (subst (λ (x : S). steps x call reply after) same_state m.step))

    pub made_once : HasOwn made.me.0.own made.me.0.front
    made_once = m.called.1

    pub made_became : Became old made (after_call call reply old.me.0) ((0, None) ∷ [])
    made_became = record { cell = made_cell; id = made_id; me = made_is }
