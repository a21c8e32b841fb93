-- What a client received, as datagrams of its session. Every list here has the newest member first: what
-- stands behind a member came before it.
use Rattle.std.specs.Prelude.{ℕ, ◌≡◌, ◌+◌, ◌-◌, Bool, ◌&&◌, List, [], ◌∷◌, ◌++◌, length, drop, Option, Some, None}
use Rattle.std.specs.Prelude.{nat_lt, nat_le, ◌==◌, if◌then◌else◌}
use Rattle.std.specs.List.{filter_map}
use Rattle.gs_rtp.specs.Stream.{StreamSettings}
use Rattle.gs_rtp.specs.declared.video.VideoHead.{VideoHead}
use Rattle.gs_rtp.specs.Video.{video_head}
use Rattle.gs_frames.specs.Shards.{packet_header, CoveredHeader, covered_header}
use Rattle.gs_frames.specs.Client.{ClientSettings, Arrival, Datagram, Reset}

-- a datagram in the grammar, of the session: its head, and the shard that it carries
pub record Received : Type 0 where
  pub head : VideoHead
  pub shard : List ℕ

-- what parity covers of the header of a datagram with this head
abbrev pub covered_of : VideoHead → CoveredHeader
covered_of head = record { stream_index = head.stream_index; flags = head.flags; extra = head.extra }

-- the shard that such a datagram carries: behind what parity covers of its header its payload, which is its last bytes
abbrev pub carried_shard : ℕ → VideoHead → List ℕ → List ℕ
carried_shard packet head bytes =
    covered_header (covered_of head) ++ drop (length bytes - (packet - packet_header)) bytes

abbrev pub of_session : StreamSettings → List ℕ → Option VideoHead → Option Received
of_session settings bytes None = None
of_session settings bytes (Some head) =
    if head.ssrc == settings.ssrc
    then Some (record { head = head; shard = carried_shard settings.packet head bytes })
    else None

-- what a client takes of the bytes that came: nothing where they aren't a datagram of its session
unfoldable pub received : StreamSettings → List ℕ → Option Received
received settings bytes = of_session settings bytes (video_head settings.packet bytes)

abbrev pub IsReceived : StreamSettings → List ℕ → Received → Type 0
IsReceived settings bytes r = received settings bytes ≡ Some r

abbrev pub taken_one : ClientSettings → Arrival → Option Received
taken_one client (Datagram bytes) = received client.stream bytes
taken_one client Reset = None

-- what is taken of all that it was given
abbrev pub taken : ClientSettings → List Arrival → List Received
taken client came = filter_map (taken_one client) came

-- the greatest frame among them, 0 where there is none
abbrev pub greatest : List Received → ℕ
greatest [] = 0
greatest (r ∷ rs) = if nat_lt (greatest rs) r.head.frame then r.head.frame else greatest rs

-- A frame is left once a frame came that is at least the window above it.
abbrev pub is_left : ℕ → List Received → ℕ → Bool
is_left window rs frame = nat_le (frame + window) (greatest rs)

-- the first one that came of those that pass the test
abbrev pub oldest : (Received → Bool) → List Received → Option Received
oldest test [] = None
oldest test (r ∷ rs) = elim (oldest test rs) [ Some first ↦ Some first | None ↦ if test r then Some r else None ]

abbrev pub is_of_frame : ℕ → Received → Bool
is_of_frame frame r = r.head.frame == frame

abbrev pub is_of_block : ℕ → ℕ → Received → Bool
is_of_block frame block r = r.head.frame == frame && r.head.block == block
