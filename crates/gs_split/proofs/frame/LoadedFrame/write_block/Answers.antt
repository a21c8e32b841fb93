use Rattle.std.proofs.Common.{◌≡◌, ◌≤◌, ap, ◌∙◌, arith}
use Rattle.gs_rs.specs.Shape.{video_code}
use Rattle.gs_rs.proofs.Differences.{bytes_from_fits}
use Rattle.gs_rtp.specs.Stream.{numbers_of}
use Rattle.gs_split.proofs.WrittenBlocks.{written-block}
use Rattle.gs_split.proofs.frame.LoadedFrame.write_block.Goals as goal

pub returns : goal.returns
returns c =
    let settings = c.args.settings.now in
    let b = c.args.block.now in
    let unit = c.args.unit.now in
    let least : 1024 ≤ settings.packet = settings.packet_least in
    let made : c.unwrap-code.result ≡ video_code c.from-2.result c.from-3.result = rw c.unwrap-code.ensures at c.video.ensures.code in
    let code : c.unwrap-code.result ≡ video_code b.shards b.parity =
    made ∙ ap (λ n. video_code n c.from-3.result) c.from-2.ensures ∙ ap (λ n. video_code b.shards n) c.from-3.ensures in
    written-block (numbers_of settings) c.args.self.now b unit c.unwrap-code.result c.from-packet.result c.write_data_shards.new.out c.encode.new.parity
    (omega arith) c.requires.some c.requires.code c.requires.written (bytes_from_fits unit c.type_inv.unit) c.requires.packets
    code c.from-packet.ensures c.write_data_shards.ensures c.encode.ensures
