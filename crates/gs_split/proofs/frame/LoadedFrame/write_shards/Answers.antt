use Rattle.std.proofs.Common.{◌≡◌, ◌≤◌, ◌+◌, ◌*◌, ℕ, length, refl, ap, ◌∙◌, sym, subst, arith, rules}
use Rattle.std.proofs.lemmas.List.{take_all}
use Rattle.std.proofs.lemmas.Nat.{mul-le}
use Rattle.gs_rtp.specs.Stream.{numbers_of}
use Rattle.gs_rtp.specs.declared.settings.Settings.{Settings}
use Rattle.gs_frames.specs.Image.{packets, frame_image}
use Rattle.gs_frames.specs.Shards.{payload_of}
use Rattle.gs_split.specs.declared.frame.LoadedFrame.{LoadedFrame}
use Rattle.gs_split.specs.declared.placed.PlacedBlock.{PlacedBlock}
use Rattle.gs_split.specs.Plans.{blocks_of}
use Rattle.gs_split.specs.Places.{IsPlaced, block_end, datagrams_before}
use Rattle.gs_split.specs.Loaded.{IsPlanned}
use Rattle.gs_split.proofs.FrameShards.{laid}
use Rattle.gs_split.proofs.PlannedFrames.{limits_of, planned-blocks, facts_of}
use Rattle.gs_split.proofs.WrittenFrames.{length-part, laid-block, frame-laid}
use Rattle.gs_split.proofs.frame.LoadedFrame.write_shards.Goals as goal

-- the block's part ends within the room
ends_within : (settings : Settings) (f : LoadedFrame) (b : PlacedBlock) (end p room : ℕ) → IsPlanned (numbers_of settings) f
    → IsPlaced (blocks_of f.plan) b → end ≡ block_end b → p ≡ settings.packet → room ≡ f.datagrams * settings.packet → end * p ≤ room
ends_within settings f b end p room planned placed end_is p_is room_is =
    let facts = facts_of settings f b planned placed in
    let few : end * p ≤ f.datagrams * p = mul-le end p f.datagrams p (omega (arith, facts.end)) (omega arith) in
    let same : f.datagrams * p ≡ f.datagrams * settings.packet = ap (λ (n : ℕ). f.datagrams * n) p_is in
    omega (arith, few, same)

pub block-block-requires-clause-few : goal.block-block-requires-clause-few
block-block-requires-clause-few c = (planned-blocks (numbers_of c.args.settings.now) c.args.self.now (limits_of c.args.settings.now) c.requires.planned).1

pub end-requires : goal.end-requires
end-requires c = (facts_of c.args.settings.now c.args.self.now c.block-block.result c.requires.planned c.block-block.ensures.placed).few

pub slice_bounds-write_block-end : goal.slice_bounds-write_block-end
slice_bounds-write_block-end c =
    let within : c.end.result * c.from-packet.result ≤ length c.each.out =
    ends_within c.args.settings.now c.args.self.now c.block-block.result c.end.result c.from-packet.result (length c.each.out) c.requires.planned
    c.block-block.ensures.placed c.end.ensures c.from-packet.ensures (c.each.auto.out ∙ c.requires.size) in
    search rules

pub write_block-requires-clause-size : goal.write_block-requires-clause-size
write_block-requires-clause-size c =
    let b = c.block-block.result in
    length-part c.from-packet.result b.first_datagram c.end.result (b.shards + b.parity) c.args.settings.now.packet c.each.out
    (omega (arith, c.end.ensures)) c.from-packet.ensures
    (ends_within c.args.settings.now c.args.self.now b c.end.result c.from-packet.result (length c.each.out) c.requires.planned
    c.block-block.ensures.placed c.end.ensures c.from-packet.ensures (c.each.auto.out ∙ c.requires.size))

pub write_block-requires-clause-some : goal.write_block-requires-clause-some
write_block-requires-clause-some c =
    (facts_of c.args.settings.now c.args.self.now c.block-block.result c.requires.planned c.block-block.ensures.placed).some

pub write_block-requires-clause-code : goal.write_block-requires-clause-code
write_block-requires-clause-code c =
    (facts_of c.args.settings.now c.args.self.now c.block-block.result c.requires.planned c.block-block.ensures.placed).coded c.requires.parity

pub write_block-requires-clause-few : goal.write_block-requires-clause-few
write_block-requires-clause-few c =
    (facts_of c.args.settings.now c.args.self.now c.block-block.result c.requires.planned c.block-block.ensures.placed).few

pub write_block-requires-clause-packets : goal.write_block-requires-clause-packets
write_block-requires-clause-packets c =
    let b = c.block-block.result in
    subst (λ (n : ℕ). b.first_packet + b.shards ≤ packets n (payload_of (numbers_of c.args.settings.now))) (sym c.requires.unit)
    (facts_of c.args.settings.now c.args.self.now b c.requires.planned c.block-block.ensures.placed).packets

pub each-preserved : goal.each-preserved
each-preserved c =
    let settings = c.args.settings.now in
    let f = c.args.self.now in
    let b = c.block-block.result in
    let within : c.end.result * c.from-packet.result ≤ length c.each.out =
    ends_within settings f b c.end.result c.from-packet.result (length c.each.out) c.requires.planned
    c.block-block.ensures.placed c.end.ensures c.from-packet.ensures (c.each.auto.out ∙ c.requires.size) in
    let ends : block_end b * c.from-packet.result ≤ length c.each.out =
    subst (λ (n : ℕ). n * c.from-packet.result ≤ length c.each.out) c.end.ensures within in
    record {
      laid = laid-block (numbers_of settings) f b c.args.unit.now c.each.number (c.each.number + 1) _ c.from-packet.result c.each.out c.write_block.new.out
          c.block-block.ensures.placed c.block-block.ensures.number refl c.from-packet.ensures ends c.each.invariant.laid c.write_block.ensures
          (c.write_block.auto.out
          ∙ length-part c.from-packet.result b.first_datagram c.end.result (b.shards + b.parity) settings.packet c.each.out
          (omega (arith, c.end.ensures)) c.from-packet.ensures within);
    }

pub returns : goal.returns
returns c =
    let settings = c.args.settings.now in
    let s = numbers_of settings in
    let f = c.args.self.now in
    let unit = c.args.unit.now in
    let plans = blocks_of f.plan in
    let all : c.each.number ≡ f.plan.blocks = omega (arith, c.each-test.false, c.each.auto.number-end, c.from-number-end.ensures) in
    let count : datagrams_before c.each.number plans * settings.packet ≡ length c.each.out =
    ap (λ (n : ℕ). datagrams_before n plans * settings.packet) all ∙ ap (λ (n : ℕ). n * settings.packet) (sym c.requires.planned.datagrams)
    ∙ sym (c.each.auto.out ∙ c.requires.size) in
    sym (take_all (datagrams_before c.each.number plans * settings.packet) c.each.out (omega (arith, count)))
    ∙ c.each.invariant.laid
    ∙ ap (λ (n : ℕ). laid s n f.count plans (frame_image f.kind unit (payload_of s))) all
    ∙ frame-laid s f unit c.requires.planned c.requires.unit
