-- What clients of one to four open frames, with and without resets, hand and ask for, and their verdicts, computed.
use Rattle.std.proofs.Common.{◌≡◌, ◌+◌, ◌-◌, ◌*◌, ℕ, List, [], ◌∷◌, get_or, replicate, Some, refl}
use Rattle.gs_rtp.specs.Stream.{StreamSettings}
use Rattle.gs_frames.specs.Datagrams.{OutgoingFrame, frame_shards, frame_datagrams}
use Rattle.gs_frames.specs.declared.range.Range.{Range}
use Rattle.gs_frames.specs.Image.{frame_image, frame_of}
use Rattle.gs_frames.specs.Plan.{fec_plan}
use Rattle.gs_frames.specs.Client.{ClientSettings, Arrival, Datagram, Reset}
use Rattle.gs_frames.specs.Received.{received}
use Rattle.gs_frames.specs.Verdict.{counting}
use Rattle.gs_frames.specs.Complete.{complete}
use Rattle.gs_frames.specs.Settled.{settled}
use Rattle.gs_frames.specs.Handed.{Handed, handed, handed_through, newly_handed}
use Rattle.gs_frames.specs.Asks.{asks, asks_of, newly_asked}

bare : StreamSettings
bare = record { packet = 1024; percentage = 0; minimum = 0; fps = 60; duration = 5; audio = 0; ssrc = 1 }

abbrev client : ℕ → ClientSettings
client window = record { stream = bare; window = window }

abbrev outgoing : ℕ → ℕ → ℕ → List ℕ → OutgoingFrame
outgoing count frame kind unit = record { count = count; frame = frame; kind = kind; time = 0; unit = unit }

-- frames of one packet each: their units, and the one datagram of each
abbrev unit : ℕ → List ℕ
unit frame = replicate 5 (64 + frame)

abbrev idr : ℕ → Arrival
idr frame = Datagram (get_or (frame_datagrams bare (outgoing (frame - 1) frame 2 (unit frame))) 0 [])

abbrev delta : ℕ → Arrival
delta frame = Datagram (get_or (frame_datagrams bare (outgoing (frame - 1) frame 1 (unit frame))) 0 [])

-- against a frame further back
abbrev older : ℕ → Arrival
older frame = Datagram (get_or (frame_datagrams bare (outgoing (frame - 1) frame 5 (unit frame))) 0 [])

abbrev is_handed : ℕ → ℕ → Handed
is_handed frame kind = record { frame = frame; kind = kind; unit = unit frame }

abbrev lost : ℕ → ℕ → Range
lost first last = record { first = first; last = last }

-- ---- two frames of two packets each, whose datagrams come in turn

abbrev long : ℕ → List ℕ
long c = replicate 1500 c

abbrev part : ℕ → ℕ → Arrival
part frame n = Datagram (get_or (frame_datagrams bare (outgoing (2 * frame - 2) frame 2 (long (64 + frame)))) n [])

abbrev in_turn : List Arrival
in_turn = part 2 1 ∷ part 1 1 ∷ part 2 0 ∷ part 1 0 ∷ []

abbrev long_handed : ℕ → Handed
long_handed frame = record { frame = frame; kind = 2; unit = long (64 + frame) }

-- with one frame open the first is lost
in_turn-one : (handed (client 1) in_turn ≡ long_handed 2 ∷ []) × (asks (client 1) in_turn ≡ lost 1 1 ∷ [])
unfolding bare frame_datagrams frame_shards fec_plan frame_image handed handed_through settled received counting complete frame_of asks asks_of
in_turn-one = (refl, refl)

-- with two it is completed late
in_turn-two : (handed (client 2) in_turn ≡ long_handed 1 ∷ long_handed 2 ∷ []) × (asks (client 2) in_turn ≡ [])
unfolding bare frame_datagrams frame_shards fec_plan frame_image handed handed_through settled received counting complete frame_of asks asks_of
in_turn-two = (refl, refl)

-- its last datagram hands it, and nothing of the second
in_turn-first : newly_handed (client 2) (part 1 1) (part 2 0 ∷ part 1 0 ∷ []) ≡ long_handed 1 ∷ []
unfolding bare frame_datagrams frame_shards fec_plan frame_image handed handed_through settled received counting complete frame_of
in_turn-first = refl

in_turn-four : (handed (client 4) in_turn ≡ long_handed 1 ∷ long_handed 2 ∷ []) × (asks (client 4) in_turn ≡ [])
unfolding bare frame_datagrams frame_shards fec_plan frame_image handed handed_through settled received counting complete frame_of asks asks_of
in_turn-four = (refl, refl)

-- ---- two frames of three, with two open

-- the second hands nothing when it comes: the first isn't settled yet
second-waits : (handed (client 2) (idr 2 ∷ []) ≡ []) × (asks (client 2) (idr 2 ∷ []) ≡ [])
unfolding bare frame_datagrams frame_shards fec_plan frame_image handed handed_through settled received counting complete frame_of asks asks_of
second-waits = (refl, refl)

-- the third leaves the first, which is asked for, and settles both
third-settles : (newly_handed (client 2) (idr 3) (idr 2 ∷ []) ≡ is_handed 2 2 ∷ is_handed 3 2 ∷ [])
    × (newly_asked (client 2) (idr 3) (idr 2 ∷ []) ≡ Some (lost 1 1))
unfolding bare frame_datagrams frame_shards fec_plan frame_image handed handed_through settled received counting complete frame_of asks asks_of
third-settles = (refl, refl)

-- with three open it doesn't
third-waits : (handed (client 3) (idr 3 ∷ idr 2 ∷ []) ≡ []) × (asks (client 3) (idr 3 ∷ idr 2 ∷ []) ≡ [])
unfolding bare frame_datagrams frame_shards fec_plan frame_image handed handed_through settled received counting complete frame_of asks asks_of
third-waits = (refl, refl)

-- ---- a frame completed late

-- while a frame two above came, with three open
late-inside : handed (client 3) (part 1 1 ∷ part 3 1 ∷ part 3 0 ∷ part 2 1 ∷ part 2 0 ∷ part 1 0 ∷ [])
    ≡ long_handed 1 ∷ long_handed 2 ∷ long_handed 3 ∷ []
unfolding bare frame_datagrams frame_shards fec_plan frame_image handed handed_through settled received counting complete frame_of
late-inside = refl

-- one frame too late, with two open
late-outside : (handed (client 2) (part 1 1 ∷ part 3 1 ∷ part 3 0 ∷ part 2 1 ∷ part 2 0 ∷ part 1 0 ∷ []) ≡ long_handed 2 ∷ long_handed 3 ∷ [])
    × (asks (client 2) (part 1 1 ∷ part 3 1 ∷ part 3 0 ∷ part 2 1 ∷ part 2 0 ∷ part 1 0 ∷ []) ≡ lost 1 1 ∷ [])
unfolding bare frame_datagrams frame_shards fec_plan frame_image handed handed_through settled received counting complete frame_of asks asks_of
late-outside = (refl, refl)

-- ---- ranges

-- the frames left are 1 to 3, of which the first is complete
range-without_first : (asks (client 2) (idr 5 ∷ idr 1 ∷ []) ≡ lost 2 3 ∷ []) × (handed (client 2) (idr 5 ∷ idr 1 ∷ []) ≡ is_handed 1 2 ∷ [])
unfolding bare frame_datagrams frame_shards fec_plan frame_image handed handed_through settled received counting complete frame_of asks asks_of
range-without_first = (refl, refl)

-- a complete frame behind the first lost one is within the range
range-over_complete : asks (client 4) (idr 8 ∷ idr 3 ∷ idr 1 ∷ []) ≡ lost 2 4 ∷ []
unfolding bare frame_datagrams frame_shards fec_plan frame_image received counting complete frame_of asks asks_of
range-over_complete = refl

-- ---- resets

-- a delta behind a reset is barred, and the IDR frame after it isn't
reset-bars_delta : (handed (client 1) (idr 3 ∷ delta 2 ∷ Reset ∷ idr 1 ∷ []) ≡ is_handed 1 2 ∷ is_handed 3 2 ∷ [])
    × (asks (client 1) (idr 3 ∷ delta 2 ∷ Reset ∷ idr 1 ∷ []) ≡ [])
unfolding bare frame_datagrams frame_shards fec_plan frame_image handed handed_through settled received counting complete frame_of asks asks_of
reset-bars_delta = (refl, refl)

-- without the reset it is handed
delta-follows : handed (client 1) (idr 3 ∷ delta 2 ∷ idr 1 ∷ []) ≡ is_handed 1 2 ∷ is_handed 2 1 ∷ is_handed 3 2 ∷ []
unfolding bare frame_datagrams frame_shards fec_plan frame_image handed handed_through settled received counting complete frame_of
delta-follows = refl

-- the IDR frame frees the deltas behind it
idr-frees_delta : handed (client 1) (delta 4 ∷ idr 3 ∷ delta 2 ∷ Reset ∷ idr 1 ∷ []) ≡ is_handed 1 2 ∷ is_handed 3 2 ∷ is_handed 4 1 ∷ []
unfolding bare frame_datagrams frame_shards fec_plan frame_image handed handed_through settled received counting complete frame_of
idr-frees_delta = refl

-- a frame against an older one is barred as well, until an IDR frame was handed
reset-bars_older : (handed (client 1) (older 2 ∷ Reset ∷ idr 1 ∷ []) ≡ is_handed 1 2 ∷ [])
    × (handed (client 1) (older 4 ∷ idr 3 ∷ older 2 ∷ Reset ∷ idr 1 ∷ []) ≡ is_handed 1 2 ∷ is_handed 3 2 ∷ is_handed 4 5 ∷ [])
unfolding bare frame_datagrams frame_shards fec_plan frame_image handed handed_through settled received counting complete frame_of
reset-bars_older = (refl, refl)

-- a frame that came before the reset and is settled behind it is freed by an IDR frame that is settled there too
reset-before_settled : handed (client 2) (idr 1 ∷ Reset ∷ delta 2 ∷ []) ≡ is_handed 1 2 ∷ is_handed 2 1 ∷ []
unfolding bare frame_datagrams frame_shards fec_plan frame_image handed handed_through settled received counting complete frame_of
reset-before_settled = refl

-- and barred where that was settled before the reset
reset-settled_before : handed (client 3) (delta 2 ∷ Reset ∷ delta 3 ∷ idr 1 ∷ []) ≡ is_handed 1 2 ∷ []
unfolding bare frame_datagrams frame_shards fec_plan frame_image handed handed_through settled received counting complete frame_of
reset-settled_before = refl
