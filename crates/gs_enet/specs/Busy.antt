-- Cited by private contracts alone: which channels may have a message that is to be written.
use Rattle.std.specs.Prelude.{ℕ, ◌≡◌, ◌≤◌, ◌<◌, List, length, slice_index_or}
use Rattle.gs_enet.specs.declared.busy.Busy.{Busy}
use Rattle.gs_enet.specs.declared.channel.Channel.{Channel}

abbrev pub IsIn : ℕ → Busy → Type 0
IsIn i b = (b.from ≤ i) × (i < b.to)

-- the channel has no message that is to be written
abbrev pub IsSettled : Channel → Type 0
IsSettled ch = ch.next_due ≡ length ch.window.items

-- no other channel has one
abbrev pub AreIdle : (from to : ℕ) → List Channel → Type 0
AreIdle from to chs =
    (i : ℕ) (d : Channel) → i < length chs → ((from ≤ i) × (i < to) → ⊥) → IsSettled (slice_index_or chs i d)
