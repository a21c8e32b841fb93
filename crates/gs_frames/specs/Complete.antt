-- Which frames are complete, and what they hold.
use Rattle.std.specs.Prelude.{ℕ, zero, suc, ◌≡◌, ◌+◌, List, [], ◌++◌, length, drop, map, Option, Some, None, ◌==◌}
use Rattle.std.specs.Prelude.{if◌then◌else◌}
use Rattle.std.specs.List.{concat, filter, range_with_len}
use Rattle.gs_rs.specs.declared.shape.CodeShape.{CodeShape}
use Rattle.gs_rs.specs.Shape.{video_code}
use Rattle.gs_rs.specs.Shards.{HeldShard, block_shard}
use Rattle.gs_rtp.specs.Stream.{StreamSettings}
use Rattle.gs_rtp.specs.Video.{parity_count}
use Rattle.gs_frames.specs.Image.{Frame, frame_of}
use Rattle.gs_frames.specs.Shards.{packet_header, payload_of}
use Rattle.gs_frames.specs.Client.{ClientSettings}
use Rattle.gs_frames.specs.Received.{Received, is_of_frame, is_of_block, oldest}
use Rattle.gs_frames.specs.Verdict.{counting}

-- the shard that it carries, by its number in its block
abbrev pub held_shard : Received → HeldShard
held_shard r = record { index = r.head.index; bytes = r.shard }

-- the code of a block, as its first shard says it
abbrev pub code_of : Received → CodeShape
code_of r = video_code r.head.shards (parity_count r.head.shards r.head.percentage)

-- the payloads of a block's data shards, laid end to end
abbrev pub joined_payloads : StreamSettings → List Received → Received → List ℕ
joined_payloads settings held first =
    concat (map (λ i. drop packet_header (block_shard (code_of first) settings.packet (map held_shard held) i))
    (range_with_len 0 first.head.shards))

-- the payloads of a block's data shards, where as many shards are held as it has data shards
abbrev pub block_payloads : StreamSettings → List Received → Option Received → Option (List ℕ)
block_payloads settings held None = None
block_payloads settings held (Some first) =
    if length held == first.head.shards then Some (joined_payloads settings held first) else None

abbrev pub both : Option (List ℕ) → Option (List ℕ) → Option (List ℕ)
both None y = None
both (Some x) None = None
both (Some x) (Some y) = Some (x ++ y)

-- the payloads of the first n blocks of a frame, where each of them is whole
abbrev pub payloads : StreamSettings → List Received → ℕ → ℕ → Option (List ℕ)
payloads settings counted frame zero = Some []
payloads settings counted frame (suc block) =
    both (payloads settings counted frame block)
    (block_payloads settings (filter (is_of_block frame block) counted) (oldest (is_of_block frame block) counted))

-- the image of a frame whose first datagram is known
abbrev pub image_behind : StreamSettings → List Received → ℕ → Option Received → Option (List ℕ)
image_behind settings counted frame None = None
image_behind settings counted frame (Some first) = payloads settings counted frame (first.head.last_block + 1)

abbrev pub frame_in : ℕ → Option (List ℕ) → Option Frame
frame_in payload None = None
frame_in payload (Some image) = frame_of payload image

-- What the frame holds, where it is complete: each of its blocks has as many counting shards as data
-- shards, and the joined payloads are the image of a frame.
unfoldable pub complete : ClientSettings → List Received → ℕ → Option Frame
complete client rs frame =
    frame_in (payload_of client.stream)
    (image_behind client.stream (counting client.window rs) frame (oldest (is_of_frame frame) rs))

abbrev pub IsComplete : ClientSettings → List Received → ℕ → Frame → Type 0
IsComplete client rs frame held = complete client rs frame ≡ Some held
