-- Cited by private contracts alone: the room that a peer has for the events and answers of what it reads.
use Rattle.std.specs.Prelude.{ℕ, ◌≡◌, ◌≤◌, ◌<◌, ◌+◌, ◌^◌, slice_index_or, List, Option, Some, None}
use Rattle.std.specs.VecDeque.{deque_len, deque_capacity}
use Rattle.gs_enet_wire.specs.declared.command.Command.{Command}
use Rattle.gs_enet_wire.specs.declared.command.Command.TheVariants as command
use Rattle.gs_enet.specs.declared.channel.Channel.{Channel}
use Rattle.gs_enet.specs.declared.peer.Peer.{Peer}

-- for one more event besides a loss
abbrev pub HasEventRoom : Peer → Type 0
HasEventRoom p = deque_len p.waiting + 2 ≤ deque_capacity p.waiting

-- for one more answer
abbrev pub HasAnswerRoom : Peer → Type 0
HasAnswerRoom p = deque_len p.pending + 1 ≤ deque_capacity p.pending

-- no more than so many events and answers were added
pub record Grows (events answers : ℕ) (old new : Peer) : Type 0 where
  pub waiting : deque_len new.waiting ≤ deque_len old.waiting + events
  pub waiting_room : deque_capacity new.waiting ≡ deque_capacity old.waiting
  pub pending : deque_len new.pending ≤ deque_len old.pending + answers
  pub pending_room : deque_capacity new.pending ≡ deque_capacity old.pending

-- the channel may hear one message more
abbrev pub HearsMore : ℕ → Peer → Type 0
HearsMore c p = (d : Channel) → (slice_index_or p.channels.items c d).heard + 2 < 2 ^ 64

-- the bytes of a reliable message
abbrev pub message_bytes : Command → Option (List ℕ)
message_bytes (command.Reliable channel number asks bytes) = Some bytes
message_bytes _ = None

-- for what so many commands may add, besides a loss
pub record HasRooms (n : ℕ) (p : Peer) : Type 0 where
  pub waiting : deque_len p.waiting + n + 1 ≤ deque_capacity p.waiting
  pub pending : deque_len p.pending + n ≤ deque_capacity p.pending
