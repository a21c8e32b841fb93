-- A channel's messages that aren't acknowledged, as its window keeps them: a place for each number from the oldest
-- on, which is empty where that number is acknowledged.
use Rattle.std.specs.Prelude.{ℕ, ◌+◌, ◌&&◌, not, Bool, true, false, List, [], ◌∷◌, Option, Some, None, ◌≡◌, slice_set}
use Rattle.std.specs.Prelude.{slice_index_or}
use Rattle.gs_enet.specs.declared.held.Held.{Held}
use Rattle.gs_enet.specs.Record.{Message, Unacknowledged}
use Rattle.gs_enet.specs.Steps.{has_waited, had_last_wait, due_again}
use Rattle.gs_enet.specs.Write.{written_once}

-- the message of that number on that channel
abbrev pub unacknowledged : ℕ → ℕ → Held → Unacknowledged
unacknowledged channel number h =
    record {
      order = record { content = Message h.bytes; channel = channel; number = number };
      writes = h.writes;
      written = h.written;
      due = h.due;
    }

-- the messages of a channel whose window begins with that number
abbrev pub in_window : ℕ → ℕ → List (Option Held) → List Unacknowledged
in_window channel number [] = []
in_window channel number (None ∷ hs) = in_window channel (number + 1) hs
in_window channel number (Some h ∷ hs) = unacknowledged channel number h ∷ in_window channel (number + 1) hs

-- a test of the message in a place, which fails where there is none
abbrev pub passes : (Held → Bool) → Option Held → Bool
passes test None = false
passes test (Some h) = test h

-- the tests of a message don't read its channel and number
abbrev pub held_waited : ℕ → Held → Bool
held_waited now h = has_waited now (unacknowledged 0 0 h)

abbrev pub held_lost : ℕ → Held → Bool
held_lost now h = had_last_wait now (unacknowledged 0 0 h)

abbrev pub held_due : Held → Bool
held_due h = h.due

-- the message in a place is due again if it has waited, and all else stays
abbrev pub IsMarkedDue : ℕ → Option Held → Option Held → Type 0
IsMarkedDue now None new = new ≡ None
IsMarkedDue now (Some h) None = ⊥
IsMarkedDue now (Some h) (Some k) = unacknowledged 0 0 k ≡ due_again now (unacknowledged 0 0 h)

-- the message in a place was written once more
abbrev pub Rewrites : ℕ → Option Held → Option Held → Type 0
Rewrites now None new = ⊥
Rewrites now (Some h) None = ⊥
Rewrites now (Some h) (Some k) = unacknowledged 0 0 k ≡ written_once now (unacknowledged 0 0 h)

pub record Writes (now : ℕ) (old : List (Option Held)) (place : ℕ) (new : List (Option Held)) : Type 0 where
  pub slot : Option Held
  pub after : new ≡ slice_set old place slot
  pub rewrites : Rewrites now (slice_index_or old place None) slot

-- where the window isn't empty, its first place isn't
abbrev pub front_is_held : List (Option Held) → Bool
front_is_held [] = true
front_is_held (None ∷ hs) = false
front_is_held (Some h ∷ hs) = true
