-- What the channels hold.
use Rattle.std.specs.Prelude.{ℕ, ◌≡◌, ◌+◌, suc, not, Bool, true, false, List, [], ◌∷◌, ◌++◌, length, map, find, Option}
use Rattle.std.specs.Prelude.{Some, None, is_some, ◌<◌, ◌==◌, ◌||◌, slice_index_or}
use Rattle.std.specs.List.{filter, All}
use Rattle.std.specs.Option.{option_map}
use Rattle.gs_enet.specs.declared.held.Held.{Held}
use Rattle.gs_enet.specs.declared.channel.Channel.{Channel}
use Rattle.gs_enet.specs.Record.{Content, Message, Order, Unacknowledged, window_span, fresh, last_number}
use Rattle.gs_enet.specs.Receive.{is_named}
use Rattle.gs_enet.specs.Steps.{had_last_wait, due_again}
use Rattle.gs_enet.specs.Window.{in_window, passes, held_due}
use Rattle.gs_enet.specs.Write.{first_written}

-- the number that the next message given gets
abbrev pub next_of : Channel → ℕ
next_of ch = ch.first + length ch.window.items

abbrev pub channel_held : ℕ → Channel → List Unacknowledged
channel_held c ch = in_window c ch.first ch.window.items

-- the messages of these channels, of which the first has that number
abbrev pub all_held : ℕ → List Channel → List Unacknowledged
all_held c [] = []
all_held c (ch ∷ chs) = channel_held c ch ++ all_held (suc c) chs

-- nothing is given and nothing heard
pub record SameCounts (old new : Channel) : Type 0 where
  pub next : next_of new ≡ next_of old
  pub heard : new.heard ≡ old.heard

-- the same messages are held
pub record SameHeld (old new : Channel) : Type 0 where
  pub same : SameCounts old new
  pub held : (c : ℕ) → channel_held c new ≡ channel_held c old

-- each channel is as before
abbrev pub AreSame : List Channel → List Channel → Type 0
AreSame old new = (i : ℕ) (d : Channel) → i < length old → SameHeld (slice_index_or old i d) (slice_index_or new i d)

-- a message was given
pub record GivesOne (bytes : List ℕ) (old new : Channel) : Type 0 where
  pub next : next_of new ≡ next_of old + 1
  pub heard : new.heard ≡ old.heard
  pub held : (c : ℕ) → channel_held c new ≡ channel_held c old ++ fresh (Message bytes) c (next_of old) ∷ []

-- the message with that number on the wire, if there is one, was dropped
pub record DropsNamed (number : ℕ) (was : Bool) (old new : Channel) : Type 0 where
  pub same : SameCounts old new
  pub found : (c : ℕ) → is_some (find (is_named c number) (channel_held c old)) ≡ was
  pub held : (c : ℕ) → channel_held c new ≡ filter (λ v. not (is_named c number v)) (channel_held c old)

-- the number of the first lost message, if there is one
abbrev pub LostIs : ℕ → Channel → Option ℕ → Type 0
LostIs now ch number =
    (c : ℕ)
    → option_map (λ (u : Unacknowledged). u.order.number) (find (had_last_wait now) (channel_held c ch)) ≡ number

-- messages that have waited are due again
pub record MarksDue (now : ℕ) (old new : Channel) : Type 0 where
  pub same : SameCounts old new
  pub held : (c : ℕ) → channel_held c new ≡ map (due_again now) (channel_held c old)

-- the message in the next place is to be written, and none before it
abbrev pub HasDue : Channel → Type 0
HasDue ch =
    (ch.next_due < length ch.window.items)
    × (passes held_due (slice_index_or ch.window.items ch.next_due None) ≡ true)

-- the first message that is to be written was written
pub record WritesFirst (now : ℕ) (old new : Channel) : Type 0 where
  pub same : SameCounts old new
  pub held : (c : ℕ) → channel_held c new ≡ first_written now 1 (channel_held c old)

abbrev pub IsNewChannel : Channel → Type 0
IsNewChannel ch = (ch.first ≡ 1) × (ch.window.items ≡ []) × (ch.heard ≡ 0)

-- so many channels on which nothing was given or heard
abbrev pub AreNew : List Channel → ℕ → Type 0
AreNew chs n = (length chs ≡ n) × All IsNewChannel chs

-- the window is full, or there is no further number
abbrev pub is_channel_full : Channel → Bool
is_channel_full ch = (length ch.window.items == window_span) || (next_of ch == last_number)

-- no channel has a place in its window
abbrev pub AreEmpty : List Channel → Type 0
AreEmpty chs = All (λ ch. length ch.window.items ≡ 0) chs
