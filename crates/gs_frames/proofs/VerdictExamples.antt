-- The verdicts on single datagrams, computed.
use Rattle.std.proofs.Common.{◌≡◌, ◌++◌, ℕ, List, [], ◌∷◌, replicate, refl}
use Rattle.gs_rtp.specs.Stream.{StreamSettings}
use Rattle.gs_rtp.specs.declared.video.VideoHead.{VideoHead}
use Rattle.gs_rtp.specs.Video.{video_header}
use Rattle.gs_frames.specs.declared.verdict.Added.TheVariants.{Foreign, Old, Repeat, Spare, Added as Held, BlockWhole, FrameWhole}
use Rattle.gs_frames.specs.declared.verdict.Shape.{Shape}
use Rattle.gs_frames.specs.declared.verdict.Why.TheVariants.{Grammar, Ssrc, Shape as OtherShape}
use Rattle.gs_frames.specs.Client.{ClientSettings, Arrival, Datagram, Reset}
use Rattle.gs_frames.specs.Received.{received}
use Rattle.gs_frames.specs.Verdict.{counting, verdict}

-- payloads of eight bytes
tiny : StreamSettings
tiny = record { packet = 24; percentage = 0; minimum = 0; fps = 60; duration = 5; audio = 0; ssrc = 1 }

abbrev client : ℕ → ClientSettings
client window = record { stream = tiny; window = window }

abbrev shape : ℕ → ℕ → ℕ → Shape
shape last_block shards percentage = record { last_block = last_block; shards = shards; percentage = percentage }

-- the head of shard `index` of block `block` of a frame
abbrev head : ℕ → ℕ → ℕ → Shape → VideoHead
head frame block index said = record {
  sequence = 0;
  timestamp = 0;
  ssrc = 1;
  stream_index = 0;
  frame = frame;
  flags = 1;
  extra = 0;
  multi_flags = 0x10;
  block = block;
  last_block = said.last_block;
  shards = said.shards;
  index = index;
  percentage = said.percentage;
}

abbrev bytes : VideoHead → List ℕ
bytes h = video_header h ++ replicate 8 0

abbrev came : VideoHead → Arrival
came h = Datagram (bytes h)

-- one data shard in each of two blocks
abbrev two_blocks : Shape
two_blocks = shape 1 1 0

-- two data shards and two parity shards in one block
abbrev coded : Shape
coded = shape 0 2 100

outside_grammar : verdict (client 1) [] (0x90 ∷ []) ≡ Foreign Grammar
unfolding tiny verdict
outside_grammar = refl

abbrev of_other_ssrc : VideoHead
of_other_ssrc = record (head 1 0 0 coded) { ssrc = 2 }

other_ssrc : verdict (client 1) [] (bytes of_other_ssrc) ≡ Foreign (Ssrc 2)
unfolding tiny verdict
other_ssrc = refl

-- two frames below the greatest is left with two open, and isn't with three
two_below : (verdict (client 2) (came (head 3 0 0 coded) ∷ []) (bytes (head 1 0 0 coded)) ≡ Old 3)
    × (verdict (client 3) (came (head 3 0 0 coded) ∷ []) (bytes (head 1 0 0 coded)) ≡ Held)
unfolding tiny verdict received counting
two_below = (refl, refl)

-- a frame that is left is old before its shape is looked at
old_first : verdict (client 2) (came (head 3 0 0 coded) ∷ came (head 1 0 0 coded) ∷ []) (bytes (head 1 0 0 two_blocks)) ≡ Old 3
unfolding tiny verdict received counting
old_first = refl

-- another last block than its frame's first datagram, of a block of which nothing came
other_last_block : verdict (client 1) (came (head 1 1 0 two_blocks) ∷ []) (bytes (head 1 0 0 coded)) ≡ Foreign (OtherShape (shape 1 2 100) coded)
unfolding tiny verdict received counting
other_last_block = refl

-- other counts than its block's first one
other_counts : verdict (client 1) (came (head 1 0 0 coded) ∷ []) (bytes (head 1 0 1 (shape 0 3 0))) ≡ Foreign (OtherShape coded (shape 0 3 0))
unfolding tiny verdict received counting
other_counts = refl

-- the shards of one block: any two of four make it whole
added : verdict (client 1) [] (bytes (head 1 0 3 coded)) ≡ Held
unfolding tiny verdict received counting
added = refl

repeated : verdict (client 1) (came (head 1 0 3 coded) ∷ []) (bytes (head 1 0 3 coded)) ≡ Repeat
unfolding tiny verdict received counting
repeated = refl

frame_whole : verdict (client 1) (came (head 1 0 3 coded) ∷ []) (bytes (head 1 0 1 coded)) ≡ FrameWhole
unfolding tiny verdict received counting
frame_whole = refl

spare : verdict (client 1) (came (head 1 0 1 coded) ∷ came (head 1 0 3 coded) ∷ []) (bytes (head 1 0 0 coded)) ≡ Spare
unfolding tiny verdict received counting
spare = refl

-- the second block first, and a reset between them changes nothing
block_whole : (verdict (client 1) [] (bytes (head 1 1 0 two_blocks)) ≡ BlockWhole)
    × (verdict (client 1) (Reset ∷ came (head 1 1 0 two_blocks) ∷ []) (bytes (head 1 0 0 two_blocks)) ≡ FrameWhole)
unfolding tiny verdict received counting
block_whole = (refl, refl)
