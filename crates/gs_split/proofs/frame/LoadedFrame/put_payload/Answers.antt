use Rattle.std.proofs.Common.{◌≡◌, ◌≤◌, ◌<◌, ◌+◌, ◌-◌, ◌*◌, ℕ, List, length, take, drop, refl, ap, ◌∙◌, sym, subst, arith, rules}
use Rattle.std.proofs.lemmas.Nat.{mul-le}
use Rattle.gs_rtp.specs.declared.settings.Settings.{Settings}
use Rattle.gs_rtp.specs.Stream.{numbers_of}
use Rattle.gs_frames.specs.Image.{packets}
use Rattle.gs_frames.specs.Shards.{payload_of, read_covered}
use Rattle.gs_split.specs.declared.frame.LoadedFrame.{LoadedFrame}
use Rattle.gs_split.specs.declared.placed.PlacedBlock.{PlacedBlock}
use Rattle.gs_split.specs.Plans.{blocks_of}
use Rattle.gs_split.specs.Places.{IsPlaced}
use Rattle.gs_split.specs.Loaded.{IsPlanned, covered_at, payload_at, data_shard_at}
use Rattle.gs_split.proofs.PlannedFrames.{limits_of, planned-total, facts_of}
use Rattle.gs_split.proofs.Carried.{bare-of_zero, parity-of_some, covered-read, data_shard-of_block, kept-at}
use Rattle.gs_split.proofs.frame.LoadedFrame.put_payload.Goals as goal

-- without parity it is a data shard
is_data : (settings : Settings) (f : LoadedFrame) (b : PlacedBlock) (index : ℕ) → IsPlanned (numbers_of settings) f → IsPlaced (blocks_of f.plan) b
    → f.plan.percentage ≡ 0 → index < b.shards + b.parity → index < b.shards
is_data settings f b index planned placed zero_is within =
    let none = (facts_of settings f b planned placed).bare (bare-of_zero (numbers_of settings) f planned zero_is) in
    omega (arith, none)

pub write_data-requires-clause-packets : goal.write_data-requires-clause-packets
write_data-requires-clause-packets c =
    let settings = c.args.settings.now in
    let f = c.args.self.now in
    let b = c.args.block.now in
    let facts = facts_of settings f b c.requires.planned c.requires.placed in
    let of_data : c.args.index < b.shards = is_data settings f b c.args.index c.requires.planned c.requires.placed c.if-self-eq0.true c.requires.index in
    let size : payload_of (numbers_of settings) ≡ length c.args.out.now = omega (arith, c.requires.size) in
    let within : b.first_packet + b.shards ≤ packets (length c.args.unit.now) (length c.args.out.now) =
    subst (λ (n : ℕ). b.first_packet + b.shards ≤ packets (length c.args.unit.now) n) size
    (subst (λ (n : ℕ). b.first_packet + b.shards ≤ packets n (payload_of (numbers_of settings))) (sym c.requires.unit) facts.packets) in
    omega (arith, within, of_data)

pub covered-requires : goal.covered-requires
covered-requires c = record { few = (facts_of c.args.settings.now c.args.self.now c.args.block.now c.requires.planned c.requires.placed).few }

pub returns-then-self-eq0 : goal.returns-then-self-eq0
returns-then-self-eq0 c = λ keeps.
    let settings = c.args.settings.now in
    let s = numbers_of settings in
    let f = c.args.self.now in
    let b = c.args.block.now in
    let unit = c.args.unit.now in
    let index = c.args.index in
    let of_data : index < b.shards = is_data settings f b index c.requires.planned c.requires.placed c.if-self-eq0.true c.requires.index in
    let size : length c.args.out.now ≡ payload_of s = omega (arith, c.requires.size) in
    record {
      shard = data_shard_at s f b unit index;
      shard_is = data_shard-of_block s f b unit index of_data;
      covered_is = c.covered.ensures ∙ sym (covered-read (covered_at f b index) (payload_at (payload_of s) f.kind b.first_packet unit index) (omega arith));
      payload_is = c.write_data.ensures ∙ ap (λ (n : ℕ). payload_at n f.kind b.first_packet unit index) size;
    }

-- the kept shard ends within the kept bytes
ends_within : (settings : Settings) (f : LoadedFrame) (b : PlacedBlock) (index i p room : ℕ) → IsPlanned (numbers_of settings) f
    → IsPlaced (blocks_of f.plan) b → index < b.shards + b.parity → i ≡ index → p ≡ settings.packet → f.datagrams * settings.packet ≤ room
    → (b.first_datagram + i) * p + p ≤ room
ends_within settings f b index i p room planned placed within i_is p_is enough =
    let facts = facts_of settings f b planned placed in
    let k = b.first_datagram + i in
    let few : (k + 1) * p ≤ f.datagrams * p = mul-le (k + 1) p f.datagrams p (omega (arith, facts.end)) (omega arith) in
    let turned : (k + 1) * p ≡ k * p + p = omega arith in
    let same : f.datagrams * p ≡ f.datagrams * settings.packet = ap (λ (n : ℕ). f.datagrams * n) p_is in
    omega (arith, few, turned, same)

-- the same part, cut with the numbers of the code
cut-is : (k k' p size : ℕ) (kept : List ℕ) → k' ≡ k → p ≡ size → take (k' * p + p - k' * p) (drop (k' * p) kept) ≡ take size (drop (k * size) kept)
cut-is k k' p size kept k_is p_is =
    let width : k' * p + p - k' * p ≡ size = omega arith in
    let at : k' * p ≡ k * size = ap (λ (n : ℕ). n * p) k_is ∙ ap (λ (n : ℕ). k * n) p_is in
    ap (λ (n : ℕ). take n (drop (k' * p) kept)) width ∙ ap (λ (n : ℕ). take size (drop n kept)) at

pub slice_bounds-copy_shard-end : goal.slice_bounds-copy_shard-end
slice_bounds-copy_shard-end c =
    let settings = c.args.settings.now in
    let f = c.args.self.now in
    let enough : f.datagrams * settings.packet ≤ length c.args.kept.now =
    c.requires.kept (parity-of_some (numbers_of settings) f c.requires.planned c.if-self-eq0.false) in
    let within : (c.args.block.now.first_datagram + c.from.result) * c.from-packet.result + c.from-packet.result ≤ length c.args.kept.now =
    ends_within settings f c.args.block.now c.args.index c.from.result c.from-packet.result (length c.args.kept.now) c.requires.planned
    c.requires.placed c.requires.index c.from.ensures c.from-packet.ensures enough in
    search rules

pub returns : goal.returns
returns c = λ keeps.
    let settings = c.args.settings.now in
    let s = numbers_of settings in
    let f = c.args.self.now in
    let b = c.args.block.now in
    let unit = c.args.unit.now in
    let kept = c.args.kept.now in
    let k = b.first_datagram + c.args.index in
    let least : 1024 ≤ settings.packet = settings.packet_least in
    let parity = parity-of_some s f c.requires.planned c.if-self-eq0.false in
    let shard = take s.packet (drop (k * s.packet) kept) in
    let cut = cut-is k (b.first_datagram + c.from.result) c.from-packet.result s.packet kept (ap (λ (n : ℕ). b.first_datagram + n) c.from.ensures)
    c.from-packet.ensures in
    record {
      shard = shard;
      shard_is = kept-at s f b unit kept c.args.index k c.requires.planned c.requires.placed c.requires.unit (omega arith)
          (planned-total s f (limits_of settings) c.requires.planned) (keeps parity) refl c.requires.index;
      covered_is = c.copy_shard.ensures.covered ∙ ap read_covered cut;
      payload_is = c.copy_shard.ensures.payload ∙ ap (drop 16) cut;
    }
