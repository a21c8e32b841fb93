use Rattle.std.proofs.Common.{◌≡◌, ◌≤◌, ◌<◌, ◌+◌, ◌*◌, refl, sym, ap, ◌∙◌, arith}
use Rattle.std.proofs.lemmas.Nat.{mul-le}
use Rattle.gs_rtp.specs.Stream.{numbers_of}
use Rattle.gs_split.specs.Loaded.{block_data}
use Rattle.gs_rs.proofs.LaidShards.{laid-written, laid-whole}
use Rattle.gs_split.proofs.DataShards.{length-block_data, block_data-at, block_data-sizes}
use Rattle.gs_split.proofs.frame.LoadedFrame.write_data_shards.Goals as goal

pub shards-preserved : goal.shards-preserved
shards-preserved c =
    let settings = c.args.settings.now in
    let s = numbers_of settings in
    let f = c.args.self.now in
    let b = c.args.block.now in
    let unit = c.args.unit.now in
    let i = c.shards.index in
    let size = settings.packet in
    let within : i < b.shards = c.shards-test.true in
    let room : (i + 1) * size ≤ b.shards * size = mul-le (i + 1) size b.shards size (omega arith) (omega arith) in
    let least : 1024 ≤ size = settings.packet_least in
    let at_is : c.from.result * c.from-packet.result ≡ i * size =
    ap (λ n. n * c.from-packet.result) c.from.ensures ∙ ap (λ n. i * n) c.from-packet.ensures in
    record {
      laid = laid-written size (block_data s f b unit) i (i + 1) (c.from.result * c.from-packet.result) ((i + 1) * size) _ c.shards.out
          c.write_data_shard.new.out (omega (arith, length-block_data s f b unit)) refl at_is refl
          (omega (arith, room, c.shards.auto.out, c.requires.size))
          (block_data-sizes s f b unit (omega arith) c.requires.packets) c.shards.invariant.laid
          (c.write_data_shard.ensures ∙ sym (block_data-at s f b unit i within));
    }

pub returns : goal.returns
returns c =
    let settings = c.args.settings.now in
    let s = numbers_of settings in
    let f = c.args.self.now in
    let b = c.args.block.now in
    let unit = c.args.unit.now in
    let all : c.shards.index ≡ b.shards = omega (arith, c.shards-test.false, c.shards.auto.index-end) in
    laid-whole settings.packet (block_data s f b unit) c.shards.index (c.shards.index * settings.packet) c.shards.out
    (length-block_data s f b unit ∙ sym all) refl
    (c.shards.auto.out ∙ c.requires.size ∙ ap (λ n. n * settings.packet) (sym all)) c.shards.invariant.laid
