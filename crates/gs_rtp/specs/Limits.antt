-- The limits of a stream's settings, and of the heads of its datagrams.
use Rattle.std.specs.Prelude.{ℕ}
pub use Rattle.gs_rs.specs.Limits.{most_shards_of_code}
use Rattle.gs_rtp.specs.declared.limits.TheConstants.{PACKET_LEAST, PACKET_GREATEST, PERCENTAGE_GREATEST}
use Rattle.gs_rtp.specs.declared.limits.TheConstants.{MINIMUM_GREATEST, FPS_LEAST, FPS_GREATEST}
use Rattle.gs_rtp.specs.declared.limits.TheConstants.{SSRC_LEAST, SSRC_GREATEST, FRAME_GREATEST}
use Rattle.gs_rtp.specs.declared.limits.TheConstants.{BLOCKS_GREATEST, LAST_BLOCK_GREATEST, SHARDS_GREATEST}
use Rattle.gs_rtp.specs.declared.limits.TheConstants.{DATAGRAM_GREATEST}

-- the packet size in bytes
abbrev pub least_packet : ℕ
least_packet = PACKET_LEAST

abbrev pub most_packet : ℕ
most_packet = PACKET_GREATEST

-- bytes of a datagram of video or audio
abbrev pub most_stream_datagram : ℕ
most_stream_datagram = DATAGRAM_GREATEST

-- the percentage of parity
abbrev pub most_percentage : ℕ
most_percentage = PERCENTAGE_GREATEST

-- the parity shards that a block with parity has at least
abbrev pub most_minimum : ℕ
most_minimum = MINIMUM_GREATEST

-- frames per second
abbrev pub least_fps : ℕ
least_fps = FPS_LEAST

abbrev pub most_fps : ℕ
most_fps = FPS_GREATEST

-- the number of a session
abbrev pub least_ssrc : ℕ
least_ssrc = SSRC_LEAST

abbrev pub most_ssrc : ℕ
most_ssrc = SSRC_GREATEST

-- the index of a frame
abbrev pub most_frame : ℕ
most_frame = FRAME_GREATEST

-- the blocks of a frame
abbrev pub most_blocks : ℕ
most_blocks = BLOCKS_GREATEST

-- the number of a frame's last block
abbrev pub most_last_block : ℕ
most_last_block = LAST_BLOCK_GREATEST

-- the data shards of a block
abbrev pub most_shards_of_block : ℕ
most_shards_of_block = SHARDS_GREATEST
