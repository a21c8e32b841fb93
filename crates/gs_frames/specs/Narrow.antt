-- The client of a narrow window: one frame, and a decoder that is never reset. What it hands and asks for can be said
-- without settled frames and without bars.
use Rattle.std.specs.Prelude.{ℕ, zero, suc, ◌≡◌, ◌+◌, ◌-◌, ◌≤◌, Bool, false, ◌&&◌, ◌||◌, not, List, [], ◌∷◌, ◌++◌}
use Rattle.std.specs.Prelude.{Option, Some, None, is_some, nat_lt, nat_le, if◌then◌else◌}
use Rattle.gs_rtp.specs.Stream.{StreamSettings}
use Rattle.gs_frames.specs.declared.range.Range.{Range}
use Rattle.gs_frames.specs.Client.{ClientSettings, datagrams}
use Rattle.gs_frames.specs.Image.{Frame}
use Rattle.gs_frames.specs.Received.{Received, taken, greatest}
use Rattle.gs_frames.specs.Complete.{complete, IsComplete}
use Rattle.gs_frames.specs.Settled.{settled}
use Rattle.gs_frames.specs.Handed.{Handed, is_re_entry, settled_at_resets, is_barred, handed}
use Rattle.gs_frames.specs.Asks.{asks}

abbrev pub narrow : StreamSettings → ClientSettings
narrow settings = record { stream = settings; window = 1 }

-- what it takes of datagrams alone
abbrev pub narrow_taken : StreamSettings → List (List ℕ) → List Received
narrow_taken settings came = taken (narrow settings) (datagrams came)

-- a frame of this kind is handed, where the one below was or wasn't
abbrev pub is_decodable : Bool → Option Frame → Bool
is_decodable below None = false
is_decodable below (Some frame) = is_re_entry frame.kind || below

-- A complete frame is handed where it is a re-entry frame or the frame one below was handed.
unfoldable pub is_narrow_handed : StreamSettings → List Received → ℕ → Bool
is_narrow_handed settings rs zero = false
is_narrow_handed settings rs (suc f) =
    is_decodable (is_narrow_handed settings rs f) (complete (narrow settings) rs (suc f))

abbrev pub handed_one : ℕ → Option Frame → List Handed
handed_one f None = []
handed_one f (Some frame) = record { frame = f; kind = frame.kind; unit = frame.unit } ∷ []

-- those of the first n frames, by rising index
unfoldable pub narrow_handed_through : StreamSettings → List Received → ℕ → List Handed
narrow_handed_through settings rs zero = []
narrow_handed_through settings rs (suc f) =
    narrow_handed_through settings rs f
    ++ (if is_narrow_handed settings rs (suc f) then handed_one (suc f) (complete (narrow settings) rs (suc f)) else [])

abbrev pub narrow_handed_of : StreamSettings → List Received → List Handed
narrow_handed_of settings rs = narrow_handed_through settings rs (greatest rs)

-- the frames handed of what came, the newest datagram first
unfoldable pub narrow_handed : StreamSettings → List (List ℕ) → List Handed
narrow_handed settings came = narrow_handed_of settings (narrow_taken settings came)

-- from the greatest frame before, where that isn't complete, else from the one after it
abbrev pub first_lost : StreamSettings → List Received → ℕ
first_lost settings rs =
    if nat_lt 0 (greatest rs) && not (is_some (complete (narrow settings) rs (greatest rs)))
    then greatest rs
    else greatest rs + 1

-- a range, where it isn't empty
abbrev pub range_or_none : ℕ → ℕ → List Range
range_or_none first last = if nat_le first last then record { first = first; last = last } ∷ [] else []

-- what the arrival of r after rs makes the client ask for: the frames below its own that it passes by
abbrev pub narrow_lost_by : StreamSettings → Received → List Received → List Range
narrow_lost_by settings r rs =
    if nat_lt (greatest rs) r.head.frame then range_or_none (first_lost settings rs) (r.head.frame - 1) else []

unfoldable pub narrow_asks_of : StreamSettings → List Received → List Range
narrow_asks_of settings [] = []
narrow_asks_of settings (r ∷ rs) = narrow_asks_of settings rs ++ narrow_lost_by settings r rs

-- the ranges asked for of what came, in the order of the asks
unfoldable pub narrow_asks : StreamSettings → List (List ℕ) → List Range
narrow_asks settings came = narrow_asks_of settings (narrow_taken settings came)

-- A client with this window and no resets is the client of the definitions.
abbrev pub NarrowClientIsClient : Type 0
NarrowClientIsClient =
    (settings : StreamSettings) (came : List (List ℕ))
    → (handed (narrow settings) (datagrams came) ≡ narrow_handed settings came)
    × (asks (narrow settings) (datagrams came) ≡ narrow_asks settings came)

-- It has settled each complete frame.
abbrev pub NarrowClientSettlesComplete : Type 0
NarrowClientSettlesComplete =
    (settings : StreamSettings) (rs : List Received) (frame : ℕ) (held : Frame)
    → IsComplete (narrow settings) rs frame held → frame ≤ settled (narrow settings) rs

-- Without resets no client bars a frame.
abbrev pub NoResetBarsNothing : Type 0
NoResetBarsNothing =
    (client : ClientSettings) (came : List (List ℕ)) (below : List Handed) (frame kind : ℕ)
    → is_barred (settled_at_resets client (datagrams came)) below frame kind ≡ false
