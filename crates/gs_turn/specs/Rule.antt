-- Cited by private contracts alone: the rule of a cell. Its words are the tickets drawn, the tickets served and
-- the calls made, each modulo 2^64; its slot has the state.
use Rattle.std.specs.Prelude.{◌≡◌, ℕ, ◌+◌, ◌%◌, ◌^◌, ◌<◌, ◌≤◌, ◌⊎◌, ⊤, true, List, [], ◌∷◌, length, Option, Some}
use Rattle.std.specs.Prelude.{None}
use Rattle.std.specs.List.{AllByRecursion}
use mathlib.Core.List.{IsPrefix}
use mathlib.Core.Option.{some, none}
use mathlib.Core.Option as maybe
use lib.ListN.{get_elem?}
use Rattle.atomic_table.specs.Table.{State, opening}
use Rattle.gs_turn.specs.declared.turn_call.TurnCall.{TurnCall}
use Rattle.gs_turn.specs.declared.rule.Opening.{Opening}
use Rattle.gs_turn.specs.declared.rule.PassView.{PassView}
use Rattle.gs_turn.specs.declared.rule.Standing.{Standing}
use Rattle.gs_turn.specs.declared.rule.Standing.TheVariants.{Arriving, Outside, Waiting, Serving}
use Rattle.gs_turn.specs.History.{Leaves, calls_under, has_number}
use Rattle.gs_turn.specs.Standings.{ticket, tickets_held}

-- a number of each view, added up
abbrev pub total : {V : Type 0} → (V → ℕ) → List V → ℕ
total f [] = 0
total f (v ∷ vs) = f v + total f vs

-- the ticket of a pass that waits was drawn and isn't passed by; the pass that is served knows the whole history
abbrev pub StandsWell : {A : Type 0} → ℕ → ℕ → List A → List A → Standing → Type 0
StandsWell drawn served log front Arriving = ⊥
StandsWell drawn served log front Outside = ⊤
StandsWell drawn served log front (Waiting k) = (served ≤ k) × (k < drawn)
StandsWell drawn served log front (Serving k) = (k ≡ served) × (k < drawn) × (front ≡ log)

module _ {S C R : Type 0} where
  -- the first pass, which is to bring the opening state in
  abbrev pub arriving : S → PassView S C R
  arriving s = record { opening = Some s; standing = Arriving; made = 1; front = []; own = (0, []) ∷ []; olds = [] }

  -- what the pass of a seat knows
  pub record Knows (drawn served made : ℕ) (s : S) (log : List (TurnCall C R)) (seat : ℕ)
      (v : PassView S C R) : Type 0 where
    pub stands : StandsWell drawn served log v.front v.standing
    pub ticket_of_some : tickets_held v.standing ≤ length v.own
    pub of_cell : 0 < length v.own → v.opening ≡ Some s
    pub front : IsPrefix v.front log
    pub olds : AllByRecursion (λ old. IsPrefix old log) v.olds
    pub own : AllByRecursion (λ o. (o.0 < made) × (calls_under o.0 log ≡ o.1)) v.own
    pub maker : 0 < v.made → (seat ≡ 0) × (v.made ≡ made)

  -- the state is at home, or a pass is served
  abbrev pub Housed : ℕ → S → List (maybe.Option (Option S)) → List (PassView S C R) → Type 0
  Housed served t homes views =
      (homes ≡ some (Some t) ∷ [])
      ⊎ ((seat : ℕ) × (v : PassView S C R) × (get_elem? views seat ≡ some v) × (v.standing ≡ Serving served))

  -- one history, of which each pass knows a beginning and has the calls of its own numbers
  pub record Running (steps : S → C → R → S → Type 0) (about : Opening S)
      (s : State (Option S) (PassView S C R)) : Type 0 where
    pub log : List (TurnCall C R)
    pub state : S
    pub drawn : ℕ
    pub served : ℕ
    pub made : ℕ
    pub legal : Leaves steps about.state log state
    pub words : s.words ≡ drawn % 2 ^ 64 ∷ served % 2 ^ 64 ∷ length log % 2 ^ 64 ∷ []
    pub housed : Housed served state s.homes s.views
    pub taken : (seat : ℕ) (v : PassView S C R) → get_elem? s.views seat ≡ some v → v.standing ≡ Serving served
        → s.homes ≡ none ∷ []
    pub known : (seat : ℕ) (v : PassView S C R) → get_elem? s.views seat ≡ some v
        → Knows drawn served made about.state log seat v
    pub numbers_apart : (i j : ℕ) (v w : PassView S C R) (number : ℕ) → get_elem? s.views i ≡ some v
        → get_elem? s.views j ≡ some w → has_number number v.own ≡ true → has_number number w.own ≡ true → i ≡ j
    pub tickets_apart : (i j : ℕ) (v w : PassView S C R) (k : ℕ) → get_elem? s.views i ≡ some v
        → get_elem? s.views j ≡ some w → ticket v.standing ≡ Some k → ticket w.standing ≡ Some k → i ≡ j
    pub drawn_is : drawn ≡ served + total (λ (v : PassView S C R). tickets_held v.standing) s.views
    pub made_is : made ≡ total (λ (v : PassView S C R). length v.own) s.views
    pub few : made ≤ about.passes
    pub fits : about.passes < 2 ^ 32
    pub calls : AllByRecursion (λ (e : TurnCall C R). e.number < made) log

  -- the cell just made, with an empty slot; or running
  abbrev pub Kept : (S → C → R → S → Type 0) → Opening S → State (Option S) (PassView S C R) → Type 0
  Kept steps about s = (s ≡ opening (1 ∷ 0 ∷ 0 ∷ []) (None ∷ []) (arriving about.state)) ⊎ Running steps about s
