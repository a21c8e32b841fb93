-- What a datagram of a greater frame moves.
use Rattle.std.specs.Prelude.{ℕ, ◌-◌, Bool, ◌&&◌, List, [], ◌∷◌, Option, Some, None, nat_lt, if◌then◌else◌}
use Rattle.gs_frames.specs.Client.{ClientSettings, Arrival}
use Rattle.gs_frames.specs.Received.{Received, received, taken, greatest, oldest, is_of_frame}
use Rattle.gs_frames.specs.Verdict.{counting}
use Rattle.gs_frames.specs.VerdictLaws.{are_whole}
use Rattle.gs_fecqueue.specs.declared.moved.Moved.{Moved}

-- each block of the frame is whole
abbrev pub is_whole_in : ClientSettings → List Received → ℕ → Bool
is_whole_in client rs frame = are_whole (counting client.window rs) frame (oldest (is_of_frame frame) rs)

-- so of the open frame that is so many below the greatest
abbrev pub is_whole_below : ClientSettings → List Received → ℕ → Bool
is_whole_below client rs i =
    nat_lt i client.window && nat_lt i (greatest rs) && is_whole_in client rs (greatest rs - i)

abbrev pub moved_to : ClientSettings → List Received → ℕ → Moved
moved_to client rs to = record {
  from = greatest rs;
  to = to;
  whole =
      is_whole_below client rs 0 ∷ is_whole_below client rs 1 ∷ is_whole_below client rs 2
      ∷ is_whole_below client rs 3 ∷ [];
}

-- what a datagram of this frame moves, where its frame is greater than all before it
abbrev pub moved_behind : ClientSettings → List Received → ℕ → Option Moved
moved_behind client rs frame = if nat_lt (greatest rs) frame then Some (moved_to client rs frame) else None

abbrev pub moved_of : ClientSettings → List Received → Option Received → Option Moved
moved_of client rs None = None
moved_of client rs (Some r) = moved_behind client rs r.head.frame

-- What a datagram of any bytes moves, behind all that the client was given before it.
abbrev pub moved_by : ClientSettings → List Arrival → List ℕ → Option Moved
moved_by client came bytes = moved_of client (taken client came) (received client.stream bytes)
