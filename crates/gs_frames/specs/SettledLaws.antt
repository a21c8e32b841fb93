-- Up to which frame it is settled, said without counting up.
use Rattle.std.specs.Prelude.{ℕ, ◌≡◌, ◌≤◌, true, List, ◌∷◌}
use Rattle.gs_frames.specs.Client.{ClientSettings, Arrival}
use Rattle.gs_frames.specs.Received.{Received, taken}
use Rattle.gs_frames.specs.Settled.{is_done, settled}

-- each frame from 1 to n is complete or left
abbrev pub AreDone : ClientSettings → List Received → ℕ → Type 0
AreDone client rs n = (frame : ℕ) → 1 ≤ frame → frame ≤ n → is_done client rs frame ≡ true

-- It is settled up to the greatest frame up to which each is complete or left.
abbrev pub SettledIsGreatest : Type 0
SettledIsGreatest =
    (client : ClientSettings) (rs : List Received)
    → AreDone client rs (settled client rs) × ((n : ℕ) → AreDone client rs n → n ≤ settled client rs)

-- What is settled stays so.
abbrev pub SettledNeverFalls : Type 0
SettledNeverFalls =
    (client : ClientSettings) (arrival : Arrival) (came : List Arrival)
    → settled client (taken client came) ≤ settled client (taken client (arrival ∷ came))
