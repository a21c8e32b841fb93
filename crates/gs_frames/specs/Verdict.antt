-- The verdict on a datagram, by what came before it and what of that counted; and what counts.
use Rattle.std.specs.Prelude.{ℕ, ◌+◌, Bool, true, false, ◌&&◌, not, List, [], ◌∷◌, length, Option, Some, None, nat_le}
use Rattle.std.specs.Prelude.{◌==◌, if◌then◌else◌}
use Rattle.std.specs.List.{filter, list_all, list_any, range_with_len}
use Rattle.gs_rtp.specs.declared.video.VideoHead.{VideoHead}
use Rattle.gs_rtp.specs.Video.{video_head}
use Rattle.gs_frames.specs.declared.verdict.Added.{Added}
use Rattle.gs_frames.specs.declared.verdict.Added.TheVariants.{Foreign, Old, Repeat, Spare, Added as Held, BlockWhole}
use Rattle.gs_frames.specs.declared.verdict.Added.TheVariants.{FrameWhole}
use Rattle.gs_frames.specs.declared.verdict.Why.TheVariants.{Grammar, Ssrc, Shape as OtherShape}
use Rattle.gs_frames.specs.declared.verdict.Shape.{Shape}
use Rattle.gs_frames.specs.Client.{ClientSettings, Arrival}
use Rattle.gs_frames.specs.Received.{Received, carried_shard, taken, greatest, is_left, oldest, is_of_frame}
use Rattle.gs_frames.specs.Received.{is_of_block}

-- what a datagram says of its frame and its block
abbrev pub shape_came : Received → Shape
shape_came r = record { last_block = r.head.last_block; shards = r.head.shards; percentage = r.head.percentage }

-- the first of them, or r where there is none
abbrev pub first_or : Received → Option Received → Received
first_or r None = r
first_or r (Some first) = first

abbrev pub shape_said : Received → Received → Shape
shape_said frame_first block_first = record {
  last_block = frame_first.head.last_block;
  shards = block_first.head.shards;
  percentage = block_first.head.percentage;
}

-- what the first datagram that came of its frame said of the frame, and the first that counted of its block of the
-- block; where there is none, what r says
abbrev pub shape_had : Received → List Received → List Received → Shape
shape_had r before counted =
    shape_said (first_or r (oldest (is_of_frame r.head.frame) before))
    (first_or r (oldest (is_of_block r.head.frame r.head.block) counted))

abbrev pub is_same_shape : Shape → Shape → Bool
is_same_shape a b = a.last_block == b.last_block && a.shards == b.shards && a.percentage == b.percentage

-- of those that counted, the ones of r's block
abbrev pub of_its_block : Received → List Received → List Received
of_its_block r counted = filter (is_of_block r.head.frame r.head.block) counted

-- its shard counted
abbrev pub is_repeat : Received → List Received → Bool
is_repeat r counted = list_any (λ c. c.head.index == r.head.index) (of_its_block r counted)

-- as many shards of its block counted as the block has data shards
abbrev pub is_spare : Received → List Received → Bool
is_spare r counted = nat_le r.head.shards (length (of_its_block r counted))

-- a block is whole where as many of its shards counted as it has data shards
abbrev pub has_all : List Received → Option Received → Bool
has_all shards None = false
has_all shards (Some first) = length shards == first.head.shards

abbrev pub is_block_whole : List Received → ℕ → ℕ → Bool
is_block_whole counted frame block =
    has_all (filter (is_of_block frame block) counted) (oldest (is_of_block frame block) counted)

-- a frame is whole where each of its blocks is
abbrev pub is_frame_whole : List Received → ℕ → ℕ → Bool
is_frame_whole counted frame last_block = list_all (is_block_whole counted frame) (range_with_len 0 (last_block + 1))

-- what a shard that counts makes whole; it is the newest of those that counted
abbrev pub made_whole : Received → List Received → Added
made_whole r counted =
    if is_frame_whole counted r.head.frame r.head.last_block then FrameWhole
    else (if is_block_whole counted r.head.frame r.head.block then BlockWhole else Held)

-- the verdict on a datagram of the session: the first that holds
abbrev pub judged : ℕ → Received → List Received → List Received → Added
judged window r before counted =
    if is_left window before r.head.frame then Old (greatest before)
    else (if not (is_same_shape (shape_had r before counted) (shape_came r))
    then Foreign (OtherShape (shape_had r before counted) (shape_came r))
    else (if is_repeat r counted then Repeat
    else (if is_spare r counted then Spare
    else made_whole r (r ∷ counted))))

-- the datagram counts: its shard is held from then on
abbrev pub is_counting : Added → Bool
is_counting (Foreign why) = false
is_counting (Old current) = false
is_counting Repeat = false
is_counting Spare = false
is_counting Held = true
is_counting BlockWhole = true
is_counting FrameWhole = true

-- those that count, of what was taken
unfoldable pub counting : ℕ → List Received → List Received
counting window [] = []
counting window (r ∷ rs) =
    if is_counting (judged window r rs (counting window rs)) then r ∷ counting window rs else counting window rs

abbrev pub judged_of_session : ClientSettings → List Received → Received → Added
judged_of_session client rs r =
    if r.head.ssrc == client.stream.ssrc
    then judged client.window r rs (counting client.window rs)
    else Foreign (Ssrc r.head.ssrc)

abbrev pub judged_bytes : ClientSettings → List Received → List ℕ → Option VideoHead → Added
judged_bytes client rs bytes None = Foreign Grammar
judged_bytes client rs bytes (Some head) =
    judged_of_session client rs (record { head = head; shard = carried_shard client.stream.packet head bytes })

-- The verdict on a datagram of any bytes, behind all that the client was given before it.
unfoldable pub verdict : ClientSettings → List Arrival → List ℕ → Added
verdict client came bytes = judged_bytes client (taken client came) bytes (video_head client.stream.packet bytes)
