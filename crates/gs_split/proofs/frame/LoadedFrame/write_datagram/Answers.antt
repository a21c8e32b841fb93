use Rattle.std.proofs.Common.{◌≡◌, ◌≤◌, ◌+◌, ◌-◌, ◌++◌, ℕ, List, [], Some, length, take, drop, refl, ap, ◌∙◌, sym, subst, arith}
use Rattle.std.proofs.lemmas.List.{length-drop, length-take-le}
use Rattle.gs_rtp.specs.Stream.{numbers_of}
use Rattle.gs_rtp.specs.Video.{IsVideoHead, video_header}
use Rattle.gs_frames.specs.Shards.{covered_header}
use Rattle.gs_frames.proofs.PlanLimits.{shards-lt}
use Rattle.gs_split.specs.Places.{placed_plan}
use Rattle.gs_split.specs.Loaded.{header_of}
use Rattle.gs_split.proofs.PlannedFrames.{limits_of, planned-blocks, facts_of}
use Rattle.gs_split.proofs.Carried.{covered-read, datagram-at, head-in_grammar, datagram-written}
use Rattle.gs_split.proofs.frame.LoadedFrame.write_datagram.Goals as goal

pub block_of-block-requires-clause-few : goal.block_of-block-requires-clause-few
block_of-block-requires-clause-few c = (planned-blocks (numbers_of c.args.settings.now) c.args.self.now (limits_of c.args.settings.now) c.requires.planned).1

pub overflow_cast-index : goal.overflow_cast-index
overflow_cast-index c =
    let b = c.block_of-block.result in
    let facts = facts_of c.args.settings.now c.args.self.now b c.requires.planned c.block_of-block.ensures.placed in
    let few = shards-lt (placed_plan b) facts.grammar in
    omega (arith, few, c.block_of-block.ensures.to, c.block_of-block.ensures.from)

pub head-requires-clause-number : goal.head-requires-clause-number
head-requires-clause-number c =
    let facts = facts_of c.args.settings.now c.args.self.now c.block_of-block.result c.requires.planned c.block_of-block.ensures.placed in
    omega (arith, facts.number, facts.blocks)

pub head-requires-clause-few : goal.head-requires-clause-few
head-requires-clause-few c = (facts_of c.args.settings.now c.args.self.now c.block_of-block.result c.requires.planned c.block_of-block.ensures.placed).few

pub write_video-requires-clause-grammar : goal.write_video-requires-clause-grammar
write_video-requires-clause-grammar c =
    let f = c.args.self.now in
    let b = c.block_of-block.result in
    let facts = facts_of c.args.settings.now f b c.requires.planned c.block_of-block.ensures.placed in
    let index = c.args.k - b.first_datagram in
    let covered = header_of c.put_payload-covered.result in
    let shard = covered_header covered ++ [] in
    subst IsVideoHead (sym (c.head.ensures shard (sym (covered-read covered [] (omega arith)))))
    (head-in_grammar (numbers_of c.args.settings.now) f b (f.count + b.first_datagram + index) index shard c.requires.planned.frame_least
    c.requires.planned.frame_greatest facts.number facts.blocks facts.grammar
    (omega (arith, c.block_of-block.ensures.to, c.block_of-block.ensures.from)))

-- what stands in the room then
abbrev Written : goal.After-slice_known-3-1 → Type 0
Written c =
    (take (16 + c.args.settings.now.packet) c.write_video.new.out ≡ video_header c.head.result ++ c.put_payload-covered.new.out)
    × (drop (16 + c.args.settings.now.packet) c.write_video.new.out ≡ drop (16 + c.args.settings.now.packet) c.args.out.now)

written_at : (c : goal.After-slice_known-3-1) → Written c
written_at c =
    let size = c.args.settings.now.packet in
    let least : 1024 ≤ size = c.args.settings.now.packet_least in
    let k = 16 + c.from-end.result - 32 in
    let k_is : k ≡ 16 + size - 32 = omega (arith, c.from-end.ensures) in
    let room : k ≤ length (drop 32 c.args.out.now) = omega (arith, k_is, length-drop 32 c.args.out.now, c.requires.room) in
    datagram-written c.head.result c.args.out.now c.put_payload-covered.new.out c.write_video.new.out size (16 + size) k refl (omega arith) c.requires.room
    k_is (c.put_payload-covered.auto.out ∙ length-take-le k (drop 32 c.args.out.now) room) c.write_video.ensures

pub returns-clause-datagram : goal.returns-clause-datagram
returns-clause-datagram c = λ keeps.
    let s = numbers_of c.args.settings.now in
    let f = c.args.self.now in
    let b = c.block_of-block.result in
    let unit = c.args.unit.now in
    let index = c.args.k - b.first_datagram in
    let carried = c.put_payload-covered.ensures keeps in
    datagram-at s f b unit index c.args.k carried.shard c.head.result c.put_payload-covered.new.out c.requires.planned c.block_of-block.ensures.placed
    c.requires.unit (omega (arith, c.block_of-block.ensures.from)) carried.shard_is (c.head.ensures carried.shard carried.covered_is) carried.payload_is
    ∙ ap (λ (l : List ℕ). Some l) (sym (written_at c).0)

pub returns-clause-rest : goal.returns-clause-rest
returns-clause-rest c = (written_at c).1
