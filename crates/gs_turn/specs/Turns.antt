-- Cited by private contracts alone: what the parts of a call say of the pass's seat at the table of the cell.
use Rattle.std.specs.Prelude.{◌≡◌, ℕ, ◌<◌, List, [], ◌∷◌, length, Option, Some}
use mathlib.Core.List.{IsPrefix}
use Rattle.atomic_table.specs.declared.shared.Seat.{Seat}
use Rattle.gs_turn.specs.declared.turn_call.TurnCall.{TurnCall}
use Rattle.gs_turn.specs.declared.rule.PassView.{PassView}
use Rattle.gs_turn.specs.declared.rule.Standing.TheVariants.{Outside, Serving}
use Rattle.gs_turn.specs.declared.turn.Turn.{Turn}
use Rattle.gs_turn.specs.History.{Leaves, HasOwn}
use Rattle.gs_turn.specs.Cells.{opening_of}
use Rattle.gs_turn.specs.Plays.{after_call}

module _ {S C R : Type 0} where
  -- it is a seat at the table of this cell, with a number
  pub record IsSeatOf (t : Turn S C R) (s : Seat (Option S) (PassView S C R)) : Type 0 where
    pub cell : s.table_id ≡ t.table.shared.table_id
    pub opening : s.me.0.opening ≡ Some (opening_of t)
    pub numbered : 0 < length s.me.0.own

  -- it holds no ticket and no slot
  pub record IsOutside (s : Seat (Option S) (PassView S C R)) : Type 0 where
    pub standing : s.me.0.standing ≡ Outside
    pub empty : s.me.1 ≡ []

  -- the seat has this view and these slots now
  pub record Became (old new : Seat (Option S) (PassView S C R)) (v : PassView S C R)
      (slots : List (ℕ × Option S)) : Type 0 where
    pub cell : new.table_id ≡ old.table_id
    pub id : new.id ≡ old.id
    pub me : new.me ≡ (v, slots)

  module _ (steps : S → C → R → S → Type 0) where
    -- its turn has come, it knows the whole history, and has what belongs into the slot
    abbrev pub HasTurnWith : Turn S C R → Option S → Seat (Option S) (PassView S C R) → Type 0
    HasTurnWith t x s = (k : ℕ) × (s.me.0.standing ≡ Serving k) × (s.me.1 ≡ (0, x) ∷ [])

    -- its turn has come, with the state that the history leaves
    abbrev pub HasState : Turn S C R → Seat (Option S) (PassView S C R) → Type 0
    HasState t s = (state : S) × HasTurnWith t (Some state) s × Leaves steps (opening_of t) s.me.0.front state

    -- the turn came: the front is the history so far, and begins with the front before
    abbrev pub TurnCame : Turn S C R → Seat (Option S) (PassView S C R) → Seat (Option S) (PassView S C R) → Type 0
    TurnCame t old new =
        (k : ℕ) × (log : List (TurnCall C R)) × (state : S)
        × Became old new (record old.me.0 { standing = Serving k; front = log }) ((0, Some state) ∷ [])
        × IsPrefix old.me.0.front log × Leaves steps (opening_of t) log state

    -- a step may give the reply on the state that the front leaves
    abbrev pub MayReply : Turn S C R → Seat (Option S) (PassView S C R) → List C → R → Type 0
    MayReply t s calls reply =
        (call : C) × (before : S) × (after : S)
        × (calls ≡ call ∷ []) × Leaves steps (opening_of t) s.me.0.front before × steps before call reply after

    -- the call joined the history, as its last
    abbrev pub Called : C → R → Seat (Option S) (PassView S C R) → Seat (Option S) (PassView S C R)
        → List (ℕ × Option S) → Type 0
    Called call reply old new slots =
        Became old new (after_call call reply old.me.0) slots × HasOwn new.me.0.own new.me.0.front
