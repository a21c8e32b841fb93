-- What a client owes its host, and which of it goes to its side of the connection.
use Rattle.std.specs.Prelude.{ℕ, suc, pos, ◌≡◌, ◌<◌, Bool, true, false, List, [], ◌∷◌, take, drop, Result, Ok, Err, ◌⊎◌}
use Rattle.std.specs.Prelude.{if◌then◌else◌}
use Rattle.gs_bytes.specs.declared.out_of_memory.OutOfMemory.{OutOfMemory}
use Rattle.gs_control.specs.declared.message.Message.{Message}
use Rattle.gs_control.specs.declared.message.Message.TheVariants.{Invalidate, IdrRequest}
use Rattle.gs_control.specs.Message.{bytes_of}
use Rattle.gs_enet.specs.declared.peer.Peer.{Peer}
use Rattle.gs_enet.specs.Record.{PeerRecord}
use Rattle.gs_enet.specs.Steps.{can_send, with_message}
use Rattle.gs_enet.specs.Standing.{IsPeerOf}
use Rattle.gs_client_core.specs.declared.asker.Owed.{Owed}
use Rattle.gs_client_core.specs.declared.asker.Owed.TheVariants.{Lost, Idr}

-- the channel on which a client asks
abbrev pub request_channel : ℕ
request_channel = 1

-- the message of what is owed: which frames were lost, or that an IDR frame is needed
abbrev pub message_of : Owed → Message
message_of (Lost range) = Invalidate (pos range.first) (pos range.last)
message_of Idr = IdrRequest

abbrev pub owed_message : Owed → List ℕ
owed_message owed = bytes_of (message_of owed)

-- the side is given one of them
abbrev pub asked : Owed → PeerRecord → PeerRecord
asked owed r = with_message request_channel (owed_message owed) r

-- all of them were given, in order
abbrev pub all_asked : List Owed → PeerRecord → PeerRecord
all_asked [] r = r
all_asked (owed ∷ rest) r = all_asked rest (asked owed r)

-- how many go: as many as the side takes, one after the other
abbrev pub going : PeerRecord → List Owed → ℕ
going r [] = 0
going r (owed ∷ rest) = if can_send r request_channel then suc (going (asked owed r) rest) else 0

-- one message went, or the side takes none, or there was no memory
abbrev pub SendsOne : PeerRecord → List ℕ → Result Bool OutOfMemory → Peer → Type 0
SendsOne r bytes (Ok true) new = (can_send r request_channel ≡ true)
    × IsPeerOf new (with_message request_channel bytes r)
SendsOne r bytes (Ok false) new = (can_send r request_channel ≡ false) × IsPeerOf new r
SendsOne r bytes (Err refused) new = (can_send r request_channel ≡ true) × IsPeerOf new r

-- how many of what is owed went
abbrev pub gone_by : Result Bool OutOfMemory → ℕ
gone_by (Ok true) = 1
gone_by (Ok false) = 0
gone_by (Err refused) = 0

-- the first that was owed went, or none was or the side takes none, or there was no memory
abbrev pub SendsFront : PeerRecord → List Owed → Result Bool OutOfMemory → Peer → Type 0
SendsFront r old (Ok true) peer = (can_send r request_channel ≡ true) × IsPeerOf peer (all_asked (take 1 old) r)
SendsFront r old (Ok false) peer = ((old ≡ []) ⊎ (can_send r request_channel ≡ false)) × IsPeerOf peer r
SendsFront r old (Err refused) peer = (can_send r request_channel ≡ true) × IsPeerOf peer r

-- The first so many went, and the rest stays in its order.
pub record HaveGone (r : PeerRecord) (old new : List Owed) (count : ℕ) (peer : Peer) : Type 0 where
  pub rest : new ≡ drop count old
  pub stands : IsPeerOf peer (all_asked (take count old) r)

-- Fewer went than the side takes.
pub record HaveGoneBefore (r : PeerRecord) (old new : List Owed) (peer : Peer) : Type 0 where
  pub count : ℕ
  pub fewer : count < going r old
  pub gone : HaveGone r old new count peer

-- All that the side takes went or, where there was no memory, fewer.
abbrev pub SendsOwed : PeerRecord → List Owed → List Owed → Result ℕ OutOfMemory → Peer → Type 0
SendsOwed r old new (Ok count) peer = (count ≡ going r old) × HaveGone r old new count peer
SendsOwed r old new (Err refused) peer = HaveGoneBefore r old new peer
