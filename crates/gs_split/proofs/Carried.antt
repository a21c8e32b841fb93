-- What a datagram carries.
use Rattle.std.proofs.Common.{◌≡◌, ◌≢◌, ◌<◌, ◌≤◌, ◌+◌, ◌-◌, ◌*◌, ◌^◌, ◌++◌, ℕ, true, false, List, [], ◌∷◌, length, get_or, take, drop, map, Some, sym, ap, ◌∙◌}
use Rattle.std.proofs.Common.{subst, arith, inl, inr}
use Rattle.std.specs.Prelude.{nat_lt, nat_le, option_map}
use Rattle.std.specs.List.{slice_get, range_with_len}
use Rattle.std.proofs.Math.Seq.{take-append-add, take-append_seam, drop-append-add, drop-append_seam}
use Rattle.std.proofs.lemmas.Bool.{cases_Bool, cond-true, cond-false, and_parts, ltb-true}
use Rattle.std.proofs.lemmas.List.{length-drop, length-take-le, length-map, map-append, drop-drop}
use Rattle.std.proofs.lemmas.List.Elements.{All-nil, All-append, All-map}
use Rattle.std.proofs.lemmas.List.FromFn.{length-map-range_with_len}
use Rattle.std.proofs.lemmas.Nat.{mul-le}
use Rattle.std.proofs.lemmas.Option.{slice_get-get_or, slice_get-map, slice_get_within, get_or_from_slice_get}
use Rattle.byteorder.specs.Numbers.{little_number-reads_back}
use borrow.Rule.Slice.PartMut.{put_mid}
use Rattle.gs_rs.specs.Shape.{video_code}
use Rattle.gs_rs.specs.Shards.{parity_shard}
use Rattle.gs_rs.proofs.HeldShards.{parity_shards, parity_byte, slice_get-append_left}
use Rattle.gs_rtp.specs.declared.video.VideoHead.{VideoHead}
use Rattle.gs_rtp.specs.Stream.{StreamSettings}
use Rattle.gs_rtp.specs.Video.{IsVideoHead, video_header}
use Rattle.gs_frames.specs.Image.{ceil_div, frame_image, packets}
use Rattle.gs_frames.specs.Plan.{BlockPlan, most_shards, most_blocks}
use Rattle.gs_frames.specs.Received.{Received}
use Rattle.gs_frames.specs.Shards.{CoveredHeader, covered_header, read_covered, payload_of, packet_header, block_shards}
use Rattle.gs_frames.specs.Datagrams.{Place, next_block, datagram_of, shard_head, headed_shard, headed_shards, headed_blocks, unit_plan, first_place}
use Rattle.gs_frames.specs.Datagrams.{frame_shards, frame_datagrams}
use Rattle.gs_frames.proofs.FramesReceived.{place_at, data_total, data_total-cons}
use Rattle.gs_frames.proofs.Images.{length-frame_image}
use Rattle.gs_frames.proofs.PlanLimits.{IsWithinGrammar}
use Rattle.gs_frames.proofs.ShardForms.{data_shards_of}
use Rattle.gs_split.specs.declared.frame.LoadedFrame.{LoadedFrame}
use Rattle.gs_split.specs.declared.placed.PlacedBlock.{PlacedBlock}
use Rattle.gs_split.specs.Plans.{blocks_of}
use Rattle.gs_split.specs.Places.{packets_before, datagrams_before, placed_plan, IsPlaced}
use Rattle.gs_split.specs.Splitting.{KeepsShards, has_parity_at}
use Rattle.gs_split.specs.Loaded.{IsPlanned, loaded_outgoing, place_of, data_shard_at, block_data, placed_shards}
use Rattle.gs_split.proofs.Places.{length-blocks_of}
use Rattle.gs_rs.proofs.LaidShards.{HaveSize, laid-at, take-inside}
use Rattle.gs_split.proofs.DataShards.{length-block_data, block_data-at, data_shards-sizes}
use Rattle.gs_split.proofs.FrameShards.{blocks-at, length-block_shards, shards-of_headed}
use Rattle.gs_split.proofs.WrittenFrames.{plan-is_of}

-- ---- whether the frame has parity, by its plan

pub percentage-of_parity : (s : StreamSettings) (f : LoadedFrame) → has_parity_at s f.unit_length ≡ true → 0 < s.percentage
percentage-of_parity s f parity =
    let tests = and_parts (nat_lt 0 s.percentage)
    (nat_le (ceil_div (packets f.unit_length (payload_of s)) (most_shards s.percentage)) most_blocks) parity in
    ltb-true 0 s.percentage tests.0

pub bare-of_zero : (s : StreamSettings) (f : LoadedFrame) → IsPlanned s f → f.plan.percentage ≡ 0 → has_parity_at s f.unit_length ≡ false
bare-of_zero s f planned zero_is = elim (cases_Bool (has_parity_at s f.unit_length)) [
  | inl parity ↦
      let some : 0 < s.percentage = percentage-of_parity s f parity in
      let same : f.plan.percentage ≡ s.percentage = planned.percentage ∙ cond-true (has_parity_at s f.unit_length) s.percentage 0 parity in
      absurd (omega (arith, same))
  | inr bare ↦ bare
]

pub parity-of_some : (s : StreamSettings) (f : LoadedFrame) → IsPlanned s f → f.plan.percentage ≢ 0 → has_parity_at s f.unit_length ≡ true
parity-of_some s f planned some = elim (cases_Bool (has_parity_at s f.unit_length)) [
  | inl parity ↦ parity
  | inr bare ↦ absurd (some (planned.percentage ∙ cond-false (has_parity_at s f.unit_length) s.percentage 0 bare))
]

-- ---- what a shard begins with

abbrev covered_with : ℕ → ℕ → ℕ → CoveredHeader
covered_with stream_index flags extra = record { stream_index = stream_index; flags = flags; extra = extra }

pub covered-read : (h : CoveredHeader) (rest : List ℕ) → h.stream_index < 2 ^ 32 → read_covered (covered_header h ++ rest) ≡ h
covered-read h rest fits =
    ap (λ (n : ℕ). covered_with n h.flags h.extra)
    (little_number-reads_back 4 h.stream_index (0 ∷ 0 ∷ 0 ∷ 0 ∷ h.flags ∷ h.extra ∷ 0 ∷ 0 ∷ 0 ∷ 0 ∷ 0 ∷ 0 ∷ rest) (omega arith))

-- a data shard is among its block's
pub data_shard-of_block : (s : StreamSettings) (f : LoadedFrame) (b : PlacedBlock) (unit : List ℕ) (index : ℕ) → index < b.shards
    → slice_get (placed_shards s f b unit) index ≡ Some (data_shard_at s f b unit index)
data_shard-of_block s f b unit index within =
    let shards = block_data s f b unit in
    let in_shards : index < length shards = omega (arith, length-block_data s f b unit) in
    slice_get-append_left shards (parity_shards (video_code b.shards b.parity) s.packet shards) index in_shards
    ∙ slice_get-get_or shards index [] in_shards
    ∙ ap (λ (l : List ℕ). Some l) (block_data-at s f b unit index within)

-- ---- a frame's shards

-- each of a block has the packet size
block-sizes : (s : StreamSettings) (plan : BlockPlan) (count : ℕ) (image : List ℕ) → 17 ≤ s.packet → plan.data_shards * payload_of s ≤ length image
    → HaveSize s.packet (block_shards s plan count image)
block-sizes s plan count image least room =
    let code = video_code plan.data_shards plan.parity_shards in
    let shards = data_shards_of s plan count image in
    All-append (λ l. length l ≡ s.packet) shards (parity_shards code s.packet shards)
    (data_shards-sizes s plan.data_shards count image least room)
    (All-map (λ l. length l ≡ s.packet) (parity_shard code s.packet shards) (range_with_len 0 plan.parity_shards)
    (λ j d h. length-map-range_with_len (parity_byte code shards _) 0 s.packet))

-- each of a frame
frame-sizes : (s : StreamSettings) (place : Place) (count : ℕ) (plans : List BlockPlan) (image : List ℕ) → 17 ≤ s.packet
    → data_total plans * payload_of s ≤ length image
    → HaveSize s.packet (map (λ r. r.shard) (headed_blocks s place count plans image))
frame-sizes s place count [] image least room = All-nil (λ l. length l ≡ s.packet)
frame-sizes s place count (plan ∷ plans) image least room =
    let size = payload_of s in
    let shards = block_shards s plan count image in
    let more = count + plan.data_shards + plan.parity_shards in
    let left = drop (plan.data_shards * size) image in
    let first = headed_shards s place plan count 0 shards in
    let rest = headed_blocks s (next_block place) more plans left in
    let total : data_total (plan ∷ plans) * size ≡ plan.data_shards * size + data_total plans * size =
    ap (λ (n : ℕ). n * size) (data_total-cons plan plans) ∙ omega arith in
    subst (HaveSize s.packet) (sym (map-append (λ (r : Received). r.shard) first rest))
    (All-append (λ l. length l ≡ s.packet) (map (λ (r : Received). r.shard) first) (map (λ (r : Received). r.shard) rest)
    (subst (HaveSize s.packet) (sym (shards-of_headed s place plan count 0 shards))
    (block-sizes s plan count image least (omega (arith, room, total))))
    (frame-sizes s (next_block place) more plans left least (omega (arith, room, total, length-drop (plan.data_shards * size) image))))

pub shards-sized : (s : StreamSettings) (f : LoadedFrame) (unit : List ℕ) → IsPlanned s f → length unit ≡ f.unit_length → 17 ≤ s.packet
    → data_total (blocks_of f.plan) ≡ packets f.unit_length (payload_of s)
    → HaveSize s.packet (map (λ r. r.shard) (frame_shards s (loaded_outgoing f unit)))
unfolding frame_shards
shards-sized s f unit planned unit_is least total =
    let size = payload_of s in
    let image = frame_image f.kind unit size in
    let plans = unit_plan s unit in
    let all : data_total plans ≡ packets (length unit) size =
    ap data_total (plan-is_of s f unit planned unit_is) ∙ total ∙ ap (λ (n : ℕ). packets n size) (sym unit_is) in
    let room : data_total plans * size ≡ length image = ap (λ (n : ℕ). n * size) all ∙ sym (length-frame_image f.kind unit size (omega arith)) in
    frame-sizes s (first_place (loaded_outgoing f unit) plans) f.count plans image least (omega (arith, room))

-- the one of a number is that of its block
pub frame-at : (s : StreamSettings) (f : LoadedFrame) (b : PlacedBlock) (unit : List ℕ) (index k : ℕ) (shard : List ℕ) → IsPlanned s f
    → IsPlaced (blocks_of f.plan) b → length unit ≡ f.unit_length → k ≡ b.first_datagram + index
    → slice_get (placed_shards s f b unit) index ≡ Some shard
    → slice_get (frame_shards s (loaded_outgoing f unit)) k ≡ Some (headed_shard s (place_of f b) (placed_plan b) (f.count + k) index shard)
unfolding frame_shards
frame-at s f b unit index k shard planned placed unit_is k_is shard_is =
    let plans = blocks_of f.plan in
    let image = frame_image f.kind unit (payload_of s) in
    let last : length plans - 1 ≡ f.plan.blocks - 1 = ap (λ (n : ℕ). n - 1) (length-blocks_of f.plan) in
    let here : slice_get (block_shards s (placed_plan b) (f.count + datagrams_before b.number plans)
    (drop (packets_before b.number plans * payload_of s) image)) index ≡ Some shard =
    ap (λ (n : ℕ). slice_get (block_shards s (placed_plan b) (f.count + n) (drop (packets_before b.number plans * payload_of s) image)) index)
    (sym placed.datagrams)
    ∙ ap (λ (n : ℕ). slice_get (block_shards s (placed_plan b) (f.count + b.first_datagram) (drop (n * payload_of s) image)) index) (sym placed.packets)
    ∙ shard_is in
    let number : k ≡ datagrams_before b.number plans + index = omega (arith, k_is, placed.datagrams) in
    ap (λ (l : List BlockPlan). slice_get (headed_blocks s (first_place (loaded_outgoing f unit) l) f.count l image) k) (plan-is_of s f unit planned unit_is)
    ∙ blocks-at s f.frame f.time (length plans - 1) 0 f.count plans image b.number b.number (placed_plan b) index k shard (omega arith) number placed.here here
    ∙ ap (λ (n : ℕ). Some (headed_shard s (place_at f.frame f.time n b.number) (placed_plan b) (f.count + k) index shard)) last

-- so its datagram is
pub datagram-at : (s : StreamSettings) (f : LoadedFrame) (b : PlacedBlock) (unit : List ℕ) (index k : ℕ) (shard : List ℕ) (head : VideoHead)
    (payload : List ℕ) → IsPlanned s f → IsPlaced (blocks_of f.plan) b → length unit ≡ f.unit_length → k ≡ b.first_datagram + index
    → slice_get (placed_shards s f b unit) index ≡ Some shard
    → head ≡ shard_head s (place_of f b) (placed_plan b) (f.count + b.first_datagram + index) index shard → payload ≡ drop packet_header shard
    → slice_get (frame_datagrams s (loaded_outgoing f unit)) k ≡ Some (video_header head ++ payload)
unfolding frame_datagrams
datagram-at s f b unit index k shard head payload planned placed unit_is k_is shard_is head_is payload_is =
    let count : f.count + k ≡ f.count + b.first_datagram + index = omega arith in
    slice_get-map datagram_of (frame_shards s (loaded_outgoing f unit)) k
    ∙ ap (option_map datagram_of) (frame-at s f b unit index k shard planned placed unit_is k_is shard_is)
    ∙ ap (λ (n : ℕ). Some (video_header (shard_head s (place_of f b) (placed_plan b) n index shard) ++ drop packet_header shard)) count
    ∙ ap (λ (h : VideoHead). Some (video_header h ++ drop packet_header shard)) (sym head_is)
    ∙ ap (λ (l : List ℕ). Some (video_header head ++ l)) (sym payload_is)

-- the kept shard of a number
pub kept-at : (s : StreamSettings) (f : LoadedFrame) (b : PlacedBlock) (unit kept : List ℕ) (index k : ℕ) → IsPlanned s f
    → IsPlaced (blocks_of f.plan) b → length unit ≡ f.unit_length → 17 ≤ s.packet
    → data_total (blocks_of f.plan) ≡ packets f.unit_length (payload_of s) → KeepsShards s (loaded_outgoing f unit) kept
    → k ≡ b.first_datagram + index → index < b.shards + b.parity
    → slice_get (placed_shards s f b unit) index ≡ Some (take s.packet (drop (k * s.packet) kept))
kept-at s f b unit kept index k planned placed unit_is least total keeps k_is within =
    let size = s.packet in
    let all = frame_shards s (loaded_outgoing f unit) in
    let shards = map (λ (r : Received). r.shard) all in
    let block = placed_shards s f b unit in
    let in_block : index < length block =
    omega (
      arith,
      length-block_shards s (placed_plan b) (f.count + b.first_datagram)
          (drop (b.first_packet * payload_of s) (frame_image f.kind unit (payload_of s))),
    ) in
    let shard = get_or block index [] in
    let here : slice_get block index ≡ Some shard = slice_get-get_or block index [] in_block in
    let found = frame-at s f b unit index k shard planned placed unit_is k_is here in
    let in_all : k < length all = slice_get_within all k (headed_shard s (place_of f b) (placed_plan b) (f.count + k) index shard) found in
    let count : length shards ≡ length all = length-map all (λ (r : Received). r.shard) in
    let among : slice_get shards k ≡ Some shard = slice_get-map (λ (r : Received). r.shard) all k ∙ ap (option_map (λ (r : Received). r.shard)) found in
    let room : (k + 1) * size ≤ length all * size = mul-le (k + 1) size (length all) size (omega arith) (omega arith) in
    let turned : (k + 1) * size ≡ k * size + size = omega arith in
    let cut : take size (drop (k * size) kept) ≡ shard =
    sym (take-inside (k * size) size (length all * size) kept (omega (arith, room, turned)))
    ∙ ap (λ (l : List ℕ). take size (drop (k * size) l)) keeps
    ∙ laid-at size shards k (shards-sized s f unit planned unit_is least total) (omega arith)
    ∙ get_or_from_slice_get shards k shard [] among in
    here ∙ ap (λ (l : List ℕ). Some l) (sym cut)

-- ---- a datagram's head and bytes

pub head-in_grammar : (s : StreamSettings) (f : LoadedFrame) (b : PlacedBlock) (count index : ℕ) (shard : List ℕ) → 1 ≤ f.frame → f.frame ≤ 1048576
    → b.number < f.plan.blocks → f.plan.blocks ≤ 4 → IsWithinGrammar (placed_plan b) → index < b.shards + b.parity
    → IsVideoHead (shard_head s (place_of f b) (placed_plan b) count index shard)
head-in_grammar s f b count index shard least greatest number few grammar within = record {
  frame_least = least;
  frame_greatest = greatest;
  block = omega arith;
  last_block = omega arith;
  shards_least = grammar.shards_least;
  shards_greatest = grammar.shards_greatest;
  index = omega (arith, grammar.parity);
  codable = λ coded. omega (arith, grammar.parity, grammar.codable coded);
}

-- a payload that was written behind the place of a header, and then the header
pub datagram-written : (h : VideoHead) (out payload new : List ℕ) (size end k : ℕ) → end ≡ 16 + size → 16 ≤ size → end ≤ length out → k ≡ end - 32
    → length payload ≡ k → new ≡ video_header h ++ drop 32 (put_mid 32 k out payload)
    → (take end new ≡ video_header h ++ payload) × (drop end new ≡ drop end out)
datagram-written h out payload new size end k end_is least room k_is long new_is =
    let header = video_header h in
    let post = drop k (drop 32 out) in
    let front : length (take 32 out) ≡ 32 = length-take-le 32 out (omega arith) in
    let behind : drop 32 (put_mid 32 k out payload) ≡ payload ++ post =
    ap (λ (n : ℕ). drop n (take 32 out ++ (payload ++ post))) (sym front) ∙ drop-append_seam (take 32 out) (payload ++ post) in
    let is : new ≡ header ++ (payload ++ post) = new_is ∙ ap (λ (l : List ℕ). header ++ l) behind in
    let split : end ≡ 32 + length payload = omega arith in
    let whole : 32 + k ≡ end = omega arith in (
      ap (take end) is ∙ ap (λ (n : ℕ). take n (header ++ (payload ++ post))) split
          ∙ take-append-add header (payload ++ post) (length payload)
          ∙ ap (λ (l : List ℕ). header ++ l) (take-append_seam payload post),
      ap (drop end) is ∙ ap (λ (n : ℕ). drop n (header ++ (payload ++ post))) split
          ∙ drop-append-add header (payload ++ post) (length payload)
          ∙ drop-append_seam payload post ∙ drop-drop k 32 out ∙ ap (λ (n : ℕ). drop n out) whole,
    )
