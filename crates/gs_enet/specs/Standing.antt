-- The records that a peer stands for: it keeps counts and windows, and not all that was given and told.
use Rattle.std.specs.Prelude.{ℕ, ◌≡◌, ◌<◌, List, ◌++◌, length, slice_index_or}
use Rattle.gs_enet.specs.declared.channel.Channel.{Channel}
use Rattle.gs_enet.specs.declared.peer.Peer.{Peer}
use Rattle.gs_enet.specs.Record.{PeerRecord, Unacknowledged, heard_count}
use Rattle.gs_enet.specs.Steps.{next_number}
use Rattle.gs_enet.specs.Channels.{next_of, all_held}
use Rattle.gs_enet.specs.Controls.{control_held}

-- each channel has the record's counts
abbrev pub HasCounts : PeerRecord → List Channel → Type 0
HasCounts r chs =
    (c : ℕ) (d : Channel) → c < length chs
    → (next_of (slice_index_or chs c d) ≡ next_number r c) × ((slice_index_or chs c d).heard ≡ heard_count r c)

-- every command that it holds
abbrev pub held_by : Peer → List Unacknowledged
held_by p = control_held p.control ++ all_held 0 p.channels.items

pub record IsPeerOf (p : Peer) (r : PeerRecord) : Type 0 where
  pub state : r.state ≡ p.state
  pub own : r.own ≡ p.own
  pub other : r.other ≡ p.other
  pub connect_id : r.connect_id ≡ p.connect_id
  pub extra : r.extra ≡ p.extra
  pub now : r.now ≡ p.moment
  pub disconnected : r.disconnected ≡ p.disconnected
  pub last_control : r.last_control ≡ p.last_control
  pub counts : HasCounts r p.channels.items
  pub waiting : r.waiting ≡ p.waiting.items
  pub pending : r.pending ≡ p.pending.items
  pub unacknowledged : r.unacknowledged ≡ held_by p
