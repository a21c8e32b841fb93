-- What a client takes of one more arrival.
use Rattle.std.proofs.Common.{◌≡◌, List, ◌∷◌, Option, Some, None, ap}
use Rattle.std.specs.List.{cons_option}
use Rattle.gs_frames.specs.Client.{ClientSettings, Arrival}
use Rattle.gs_frames.specs.Received.{Received, taken_one, taken}

-- a datagram of the session goes in front of what was taken
pub taken-some : (c : ClientSettings) (arrival : Arrival) (came : List Arrival) (r : Received) → taken_one c arrival ≡ Some r
    → taken c (arrival ∷ came) ≡ r ∷ taken c came
taken-some c arrival came r e = ap (λ (o : Option Received). cons_option o (taken c came)) e

-- another arrival isn't taken
pub taken-none : (c : ClientSettings) (arrival : Arrival) (came : List Arrival) → taken_one c arrival ≡ None → taken c (arrival ∷ came) ≡ taken c came
taken-none c arrival came e = ap (λ (o : Option Received). cons_option o (taken c came)) e

-- what holds of what was taken, and with any one more, holds with one more arrival
pub taken-more : (P : List Received → Type 0) (c : ClientSettings) (arrival : Arrival) (came : List Arrival)
    → P (taken c came) → ((r : Received) → P (r ∷ taken c came)) → P (taken c (arrival ∷ came))
taken-more P c arrival came same more = by (taken_one c arrival)
  where
    by : (o : Option Received) → P (cons_option o (taken c came))
    by None = same
    by (Some r) = more r
