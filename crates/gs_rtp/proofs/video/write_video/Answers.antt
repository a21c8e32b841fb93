use Rattle.std.proofs.Common.{◌++◌, [], ℕ, List, drop, arith, refl, ◌∙◌, ap}
use Rattle.byteorder.specs.Endian.{big_bytes, little_bytes}
use Rattle.gs_rtp.proofs.video.write_video.Goals as goal
use Rattle.gs_rtp.proofs.VideoHeads.{header_with-is}
use Rattle.gs_rtp.proofs.Writes.{IsWritten, IsWritten-set, IsWritten-field}

pub returns : goal.returns
returns c =
    let out = c.args.out.now in
    let head = c.args.head.now in
    let room = c.requires.room in
    let start : IsWritten 0 out [] out = record { place_is = refl; room = omega arith; now_is = refl } in
    let version = IsWritten-set 0 out _ _ 144 (omega arith) start in
    let kind = IsWritten-set 1 out _ _ 0 (omega arith) version in
    let sequence = IsWritten-field 2 2 out _ _ (big_bytes 2 head.sequence) c.write_u16.new.buf (omega arith) refl kind c.write_u16.ensures in
    let timestamp = IsWritten-field 4 4 out _ _ (big_bytes 4 head.timestamp) c.write_u32.new.buf (omega arith) refl sequence c.write_u32.ensures in
    let ssrc = IsWritten-field 8 4 out _ _ (big_bytes 4 head.ssrc) c.write_u32-2.new.buf (omega arith) refl timestamp c.write_u32-2.ensures in
    let reserved = IsWritten-field 12 4 out _ _ (big_bytes 4 0) c.write_u32-3.new.buf (omega arith) refl ssrc c.write_u32-3.ensures in
    let stream_index = IsWritten-field 16 4 out _ _ (little_bytes 4 head.stream_index) c.write_u32-4.new.buf
    (omega arith) refl reserved c.write_u32-4.ensures in
    let frame = IsWritten-field 20 4 out _ _ (little_bytes 4 head.frame) c.write_u32-5.new.buf (omega arith) refl stream_index c.write_u32-5.ensures in
    let flags = IsWritten-set 24 out _ _ head.flags (omega arith) frame in
    let extra = IsWritten-set 25 out _ _ head.extra (omega arith) flags in
    let multi_flags = IsWritten-set 26 out _ _ head.multi_flags (omega arith) extra in
    let blocks = IsWritten-set 27 out _ _ c.blocks_of.result (omega arith) multi_flags in
    let shards = IsWritten-field 28 4 out _ _ (little_bytes 4 c.fec_info_of.result) c.write_u32-6.new.buf (omega arith) refl blocks c.write_u32-6.ensures in
    let whole = header_with-is head c.blocks_of.result c.fec_info_of.result c.blocks_of.ensures c.fec_info_of.ensures in
    shards.now_is ∙ ap (λ (header : List ℕ). header ++ drop 32 out) whole
