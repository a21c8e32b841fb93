-- The keys that are down after events.
use Rattle.std.specs.Prelude.{ℤ, Bool, true, false, List, [], ◌∷◌, Option, Some, None, find}
use Rattle.std.specs.Ordering.{int_cmp, is_eq}
use Rattle.std.specs.FinSet as set
use Rattle.gs_input.specs.declared.event.Event.{Event}
use Rattle.gs_input.specs.declared.event.Event.TheVariants.{KeyDown, KeyUp}

-- the codes of keys
abbrev pub Codes : Type 0
Codes = set.FinSet int_cmp

-- the codes that are down after one more event
abbrev pub codes_after : Event → Codes → Codes
codes_after (KeyDown code modifiers) down = set.insert down code
codes_after (KeyUp code modifiers) down = set.remove down code
codes_after _ down = down

-- the codes that are down after events, the newest first
abbrev pub down_after : List Event → Codes
down_after [] = set.empty
down_after (event ∷ earlier) = codes_after event (down_after earlier)

-- a key event of the code
abbrev pub is_key_event : ℤ → Event → Bool
is_key_event code (KeyDown other modifiers) = is_eq (int_cmp code other)
is_key_event code (KeyUp other modifiers) = is_eq (int_cmp code other)
is_key_event code _ = false

abbrev pub is_key_down : Event → Bool
is_key_down (KeyDown code modifiers) = true
is_key_down _ = false

abbrev pub is_down : Option Event → Bool
is_down None = false
is_down (Some event) = is_key_down event

-- whether the last key event of the code was a key down, of events of which the newest is the first
abbrev pub was_last_down : List Event → ℤ → Bool
was_last_down events code = is_down (find (is_key_event code) events)
