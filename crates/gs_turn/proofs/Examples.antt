-- The definitions tried on a register: a call adds to it, and the reply is what it held.
use Rattle.std.specs.Prelude.{◌≡◌, ℕ, ◌+◌, List, [], ◌∷◌, true, false, refl}
use Rattle.std.proofs.Common.{arith}
use Rattle.gs_turn.specs.declared.turn_call.TurnCall.{TurnCall}
use Rattle.gs_turn.specs.History.{Leaves, TurnHistory, turn_call, calls_under, has_number, least_number, with_call, Front}

abbrev adds : ℕ → ℕ → ℕ → ℕ → Type 0
adds before amount reply after = (reply ≡ before) × (after ≡ before + amount)

-- pass 0 adds 5, pass 2 adds 2, and pass 0 adds 1
abbrev three : List (TurnCall ℕ ℕ)
three = turn_call 0 5 10 ∷ turn_call 2 2 15 ∷ turn_call 0 1 17 ∷ []

from_ten : Leaves adds 10 three 18
from_ten = (15, (refl, refl), (17, (refl, refl), (18, (refl, refl), refl)))

-- a reply from a copy of the opening state stands in no history
from_a_copy : TurnHistory adds 10 (turn_call 0 5 10 ∷ turn_call 2 2 10 ∷ []) → ⊥
from_a_copy h =
    let first = h.1.1 in
    let second = h.1.2.1 in
    omega (arith, first.1, second.0)

under_zero : calls_under 0 three ≡ turn_call 0 5 10 ∷ turn_call 0 1 17 ∷ []
under_zero = refl

under_one : calls_under 1 three ≡ []
under_one = refl

-- a pass of the numbers 2 and 1 calls under 1
least_of_two : least_number {C = ℕ} {R = ℕ} ((2, []) ∷ (1, []) ∷ []) ≡ 1
least_of_two = refl

called_under_one : with_call {C = ℕ} {R = ℕ} (turn_call 1 4 9) ((2, []) ∷ (1, []) ∷ []) ≡ (2, []) ∷ (1, turn_call 1 4 9 ∷ []) ∷ []
called_under_one = refl

has_two : has_number {C = ℕ} {R = ℕ} 2 ((2, []) ∷ (1, []) ∷ []) ≡ true
has_two = refl

has_no_three : has_number {C = ℕ} {R = ℕ} 3 ((2, []) ∷ (1, []) ∷ []) ≡ false
has_no_three = refl

-- pass 2 has seen its own call, and knows nothing of the one behind it
front_of_two : Front (turn_call 0 5 10 ∷ turn_call 2 2 15 ∷ []) ((2, turn_call 2 2 15 ∷ []) ∷ []) three
front_of_two = record { begins = (turn_call 0 1 17 ∷ [], refl); own_calls = (refl, tt) }
