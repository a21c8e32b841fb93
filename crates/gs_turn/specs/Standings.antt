-- Cited by private contracts alone: where a pass stands.
use Rattle.std.specs.Prelude.{ℕ, Bool, true, false, Option, Some, None}
use Rattle.gs_turn.specs.declared.rule.Standing.{Standing}
use Rattle.gs_turn.specs.declared.rule.Standing.TheVariants.{Arriving, Outside, Waiting, Serving}

abbrev pub is_outside : Standing → Bool
is_outside Arriving = false
is_outside Outside = true
is_outside (Waiting k) = false
is_outside (Serving k) = false

-- the ticket that a pass holds
abbrev pub ticket : Standing → Option ℕ
ticket Arriving = None
ticket Outside = None
ticket (Waiting k) = Some k
ticket (Serving k) = Some k

-- how many tickets a pass holds
abbrev pub tickets_held : Standing → ℕ
tickets_held Arriving = 0
tickets_held Outside = 0
tickets_held (Waiting k) = 1
tickets_held (Serving k) = 1
