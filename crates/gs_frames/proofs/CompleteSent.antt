-- A frame that is complete is the one that was sent.
use Rattle.std.proofs.Common.{◌≡◌, ◌≤◌, ◌+◌, ◌-◌, ◌*◌, ℕ, zero, suc, true, List, [], ◌++◌, length, get_or, take, Option, Some, None, refl, sym, ap, subst, ◌∙◌}
use Rattle.std.proofs.Common.{arith}
use Rattle.std.specs.List.{All, slice_get, filter}
use Rattle.std.proofs.lemmas.Bool.{eqb-true}
use Rattle.std.proofs.lemmas.List.{take-append-drop, append_assoc, append-nil}
use Rattle.std.proofs.lemmas.List.Elements.{All-weaker}
use Rattle.std.proofs.lemmas.Option.{slice_get-get_or, slice_get_within, get_or_from_slice_get, same_Some}
use Rattle.gs_gf256.specs.Field.{IsByte}
use Rattle.gs_rtp.specs.Stream.{StreamSettings}
use Rattle.gs_frames.specs.Shards.{payload_of, block_shards}
use Rattle.gs_frames.specs.Datagrams.{unit_plan, headed_blocks, OutgoingFrame, frame_shards}
use Rattle.gs_frames.specs.Image.{Frame, packets, frame_image, frame_of}
use Rattle.gs_frames.specs.Plan.{BlockPlan, without_parity}
use Rattle.gs_frames.specs.Received.{Received, oldest, is_of_frame, is_of_block}
use Rattle.gs_frames.specs.Verdict.{counting}
use Rattle.gs_frames.specs.Complete.{block_payloads, payloads, image_behind, frame_in}
use Rattle.gs_frames.specs.FrameLaws.{IsSent}
use Rattle.gs_frames.specs.CompleteLaws.{ComesFrom, CompleteFrameIsSent}
use Rattle.gs_frames.proofs.Counting.{of_block-frame, complete_by, complete-is}
use Rattle.gs_frames.proofs.Images.{length-frame_image, image_is_read}
use Rattle.gs_frames.proofs.Plans.{plan_covers}
use Rattle.gs_frames.proofs.PlanLimits.{IsWithinGrammar, ArePlans, fec_plan-within}
use Rattle.gs_frames.proofs.FramesReceived.{packets-within, data_total, place_at}
use Rattle.gs_frames.proofs.ShardForms.{frame_image-bytes}
use Rattle.gs_frames.proofs.SentBlocks.{count_at, image_at, image_at-next, image_at-room, image_at-bytes, image_at-end, IsShardOf, IsFrom, blocks_from-are}
use Rattle.gs_frames.proofs.SentBlocks.{blocks-are}
use Rattle.gs_frames.proofs.WholeBlocks.{AreOfSentBlock, block_payloads-sent}
use Rattle.gs_frames.proofs.Fills.{counting-all}
use Rattle.gs_frames.proofs.Members.{kept-each, first-each, comes-each, counting-distinct}
use Rattle.gs_frames.proofs.CompleteStays.{both-some, frame_in-some}

-- ---- the image of a frame that is sent, and its plan

-- the blocks of a plan fill the image
pub record AreBlocksOf (s : StreamSettings) (plans : List BlockPlan) (image : List ℕ) : Type 0 where
  pub room : 16 ≤ s.packet
  pub planned : ArePlans plans
  pub whole : length image ≡ data_total plans * payload_of s
  pub bytes : All IsByte image

-- those of a frame that is sent do
pub sent-blocks : (s : StreamSettings) (out : OutgoingFrame) → IsSent s out
    → AreBlocksOf s (unit_plan s out.unit) (frame_image out.kind out.unit (payload_of s))
sent-blocks s out sent =
    let kind = out.kind in
    let unit = out.unit in
    let payload = payload_of s in
    let limits = sent.limits in
    let packet_least : 1024 ≤ s.packet = limits.packet_least in
    let n = packets (length unit) payload in
    let bounds = packets-within (length unit) payload (omega arith) sent.unit_greatest in
    record {
      room = omega arith;
      planned = fec_plan-within n s.percentage s.minimum bounds.0 bounds.1 limits.percentage_greatest limits.minimum_greatest;
      whole = length-frame_image kind unit payload (omega arith)
          ∙ ap (λ (k : ℕ). k * payload) (sym (plan_covers n s.percentage s.minimum bounds.0 bounds.1 limits.percentage_greatest));
      bytes = frame_image-bytes kind unit payload sent.written sent.unit_bytes;
    }

-- its image is read
pub sent-read : (s : StreamSettings) (out : OutgoingFrame) → IsSent s out
    → frame_of (payload_of s) (frame_image out.kind out.unit (payload_of s)) ≡ Some (record { kind = out.kind; unit = out.unit })
sent-read s out sent =
    let kind = out.kind in
    let unit = out.unit in
    let limits = sent.limits in
    let packet_least : 1024 ≤ s.packet = limits.packet_least in
    let packet_greatest : s.packet ≤ 1440 = limits.packet_greatest in
    let bounds = packets-within (length unit) (payload_of s) (omega arith) sent.unit_greatest in
    image_is_read kind unit (payload_of s) sent.written (omega arith) (omega arith) bounds.1

-- ---- what came of it

-- what came of a block is of its shards
pub block-came : (s : StreamSettings) (frame time last count : ℕ) (plans : List BlockPlan) (image : List ℕ) (rs : List Received) (b : ℕ) (plan : BlockPlan)
    → slice_get plans b ≡ Some plan → ComesFrom (headed_blocks s (place_at frame time last 0) count plans image) frame rs
    → All (λ r. is_of_block frame b r ≡ true
    → IsShardOf (place_at frame time last b) plan (block_shards s plan (count_at b count plans) (image_at (payload_of s) b plans image)) r) rs
block-came s frame time last count plans image rs b plan e comes =
    let shards = block_shards s plan (count_at b count plans) (image_at (payload_of s) b plans image) in
    let Is : Received → Type 0 = λ r. r.head.block ≡ b → IsShardOf (place_at frame time last b) plan shards r in
    All-weaker (λ r. r.head.frame ≡ frame → Is r) (λ r. is_of_block frame b r ≡ true → IsShardOf (place_at frame time last b) plan shards r)
    (λ r is passes. let of = of_block-frame frame b r passes in is of.0 of.1) rs
    (comes-each Is (headed_blocks s (place_at frame time last 0) count plans image) frame rs
    (blocks-are s frame time last 0 count plans image b b plan (omega arith) e) comes)

-- what came of a frame says which block is the last
pub last-came : (s : StreamSettings) (frame time last count : ℕ) (plans : List BlockPlan) (image : List ℕ) (rs : List Received)
    → ComesFrom (headed_blocks s (place_at frame time last 0) count plans image) frame rs
    → All (λ r. is_of_frame frame r ≡ true → r.head.last_block ≡ last) rs
last-came s frame time last count plans image rs comes =
    All-weaker (λ r. r.head.frame ≡ frame → IsFrom frame last 0 r) (λ r. is_of_frame frame r ≡ true → r.head.last_block ≡ last)
    (λ r is passes. let h = is (eqb-true r.head.frame frame passes) in h.last_block) rs
    (comes-each (IsFrom frame last 0) (headed_blocks s (place_at frame time last 0) count plans image) frame rs
    (blocks_from-are s frame time last 0 count plans image) comes)

-- ---- the image behind it

-- what is known of a block's payloads is what stands there in the image
abbrev IsBlockOf : StreamSettings → ℕ → List Received → List BlockPlan → List ℕ → Type 0
IsBlockOf s f counted plans image =
    (b : ℕ) (plan : BlockPlan) (found : List ℕ) → slice_get plans b ≡ Some plan
    → block_payloads s (filter (is_of_block f b) counted) (oldest (is_of_block f b) counted) ≡ Some found
    → found ≡ take (plan.data_shards * payload_of s) (image_at (payload_of s) b plans image)

-- one block more
payloads_more : (size n : ℕ) (plans : List BlockPlan) (plan : BlockPlan) (image before found : List ℕ) → slice_get plans n ≡ Some plan
    → before ++ image_at size n plans image ≡ image → found ≡ take (plan.data_shards * size) (image_at size n plans image)
    → (before ++ found) ++ image_at size (suc n) plans image ≡ image
payloads_more size n plans plan image before found e so_far is =
    let left = image_at size n plans image in
    let d = plan.data_shards * size in
    append_assoc before found (image_at size (suc n) plans image)
    ∙ ap (λ (l : List ℕ). before ++ (l ++ image_at size (suc n) plans image)) is
    ∙ ap (λ (l : List ℕ). before ++ (take d left ++ l)) (image_at-next size n plans plan image e)
    ∙ ap (λ (l : List ℕ). before ++ l) (take-append-drop d left)
    ∙ so_far

-- the payloads of the first blocks, and what stands behind them, are the image
payloads-sent : (s : StreamSettings) (f : ℕ) (counted : List Received) (plans : List BlockPlan) (image : List ℕ) (n : ℕ) (found : List ℕ) → n ≤ length plans
    → IsBlockOf s f counted plans image → payloads s counted f n ≡ Some found → found ++ image_at (payload_of s) n plans image ≡ image
payloads-sent s f counted plans image zero found within blocks e =
    let same : Some [] ≡ Some found = e in
    let empty : [] ≡ found = cc in
    ap (λ (l : List ℕ). l ++ image) (sym empty)
payloads-sent s f counted plans image (suc n) found within blocks e =
    let block = block_payloads s (filter (is_of_block f n) counted) (oldest (is_of_block f n) counted) in
    let parts = both-some (payloads s counted f n) block found e in
    let plan = get_or plans n (without_parity 0) in
    let there : slice_get plans n ≡ Some plan = slice_get-get_or plans n (without_parity 0) (omega arith) in
    let so_far = payloads-sent s f counted plans image n parts.0 (omega arith) blocks parts.2 in
    ap (λ (l : List ℕ). l ++ image_at (payload_of s) (suc n) plans image) (sym parts.4)
    ∙ payloads_more (payload_of s) n plans plan image parts.0 parts.1 there so_far (blocks n plan parts.1 there parts.3)

-- ---- the frame

-- where a block's payloads are known, there is a first one of it
block_payloads-of : (s : StreamSettings) (held : List Received) (o : Option Received) (found : List ℕ) → block_payloads s held o ≡ Some found
    → (first : Received) × (o ≡ Some first)
block_payloads-of s held None found e = cc
block_payloads-of s held (Some first) found e = (first, refl)

-- what counts of a block that was sent: its shards, and the first of them
pub record IsHeldOf (s : StreamSettings) (frame time last count : ℕ) (plans : List BlockPlan) (image : List ℕ) (counted : List Received) (b : ℕ)
    (plan : BlockPlan) : Type 0 where
  pub within : IsWithinGrammar plan
  pub enough : plan.data_shards * payload_of s ≤ length (image_at (payload_of s) b plans image)
  pub bytes : All IsByte (image_at (payload_of s) b plans image)
  pub held : AreOfSentBlock s (place_at frame time last b) plan (count_at b count plans) (image_at (payload_of s) b plans image)
      (filter (is_of_block frame b) counted)
  pub first : (r : Received) → oldest (is_of_block frame b) counted ≡ Some r
      → IsShardOf (place_at frame time last b) plan (block_shards s plan (count_at b count plans) (image_at (payload_of s) b plans image)) r

-- for any block
pub held-sent : (s : StreamSettings) (w : ℕ) (frame time last count : ℕ) (plans : List BlockPlan) (image : List ℕ) (rs : List Received)
    → AreBlocksOf s plans image
    → ComesFrom (headed_blocks s (place_at frame time last 0) count plans image) frame rs → (b : ℕ) (plan : BlockPlan) → slice_get plans b ≡ Some plan
    → IsHeldOf s frame time last count plans image (counting w rs) b plan
held-sent s w frame time last count plans image rs h comes b plan e =
    let here = image_at (payload_of s) b plans image in
    let Is : Received → Type 0 = IsShardOf (place_at frame time last b) plan (block_shards s plan (count_at b count plans) here) in
    let IsOf : Received → Type 0 = λ r. is_of_block frame b r ≡ true → Is r in
    let each = counting-all w IsOf rs (block-came s frame time last count plans image rs b plan e comes) in
    record {
      within = subst IsWithinGrammar (get_or_from_slice_get plans b plan plan e) (h.planned.each b plan (slice_get_within plans b plan e));
      enough = image_at-room (payload_of s) b plans plan image (omega (arith, h.whole)) e;
      bytes = image_at-bytes (payload_of s) b plans image h.bytes;
      held = record { each = kept-each (is_of_block frame b) Is (counting w rs) each; distinct = counting-distinct w frame b rs };
      first = λ r found. first-each (is_of_block frame b) Is (counting w rs) r each found;
    }

-- each of its blocks' payloads are those of the image
blocks-sent : (s : StreamSettings) (w : ℕ) (frame time last count : ℕ) (plans : List BlockPlan) (image : List ℕ) (rs : List Received)
    → AreBlocksOf s plans image
    → ComesFrom (headed_blocks s (place_at frame time last 0) count plans image) frame rs → IsBlockOf s frame (counting w rs) plans image
blocks-sent s w frame time last count plans image rs h comes b plan found e known =
    let counted = counting w rs in
    let held = filter (is_of_block frame b) counted in
    let is = held-sent s w frame time last count plans image rs h comes b plan e in
    let first = block_payloads-of s held (oldest (is_of_block frame b) counted) found known in
    block_payloads-sent s (place_at frame time last b) plan (count_at b count plans) (image_at (payload_of s) b plans image) held first.0 found h.room
    is.within is.enough is.bytes is.held (is.first first.0 first.1) (ap (block_payloads s held) (sym first.1) ∙ known)

-- the payloads of all blocks are the image
pub payloads-image : (s : StreamSettings) (w : ℕ) (frame time last count : ℕ) (plans : List BlockPlan) (image : List ℕ) (rs : List Received) (found : List ℕ)
    → AreBlocksOf s plans image → ComesFrom (headed_blocks s (place_at frame time last 0) count plans image) frame rs
    → payloads s (counting w rs) frame (length plans) ≡ Some found → found ≡ image
payloads-image s w frame time last count plans image rs found h comes known =
    sym (append-nil found) ∙ ap (λ (l : List ℕ). found ++ l) (sym (image_at-end (payload_of s) plans image h.whole))
    ∙ payloads-sent s frame (counting w rs) plans image (length plans) found (omega arith) (blocks-sent s w frame time last count plans image rs h comes) known

-- the first that came says how many blocks there are
pub first-says : (s : StreamSettings) (frame time count : ℕ) (plans : List BlockPlan) (image : List ℕ) (rs : List Received) (first : Received)
    → AreBlocksOf s plans image → ComesFrom (headed_blocks s (place_at frame time (length plans - 1) 0) count plans image) frame rs
    → oldest (is_of_frame frame) rs ≡ Some first → first.head.last_block + 1 ≡ length plans
first-says s frame time count plans image rs first h comes found =
    let last = length plans - 1 in
    let says : first.head.last_block ≡ last =
    first-each (is_of_frame frame) (λ r. r.head.last_block ≡ last) rs first (last-came s frame time last count plans image rs comes) found in
    let some : 1 ≤ length plans = h.planned.some in
    omega arith

-- by what came first of it
sent_behind : (s : StreamSettings) (w : ℕ) (frame time count : ℕ) (plans : List BlockPlan) (image : List ℕ) (rs : List Received) (held : Frame)
    (o : Option Received)
    → AreBlocksOf s plans image → ComesFrom (headed_blocks s (place_at frame time (length plans - 1) 0) count plans image) frame rs
    → oldest (is_of_frame frame) rs ≡ o → complete_by s frame (counting w rs) o ≡ Some held → frame_of (payload_of s) image ≡ Some held
sent_behind s w frame time count plans image rs held None h comes first e = let none : None ≡ Some held = e in cc
sent_behind s w frame time count plans image rs held (Some o) h comes first e =
    let found = frame_in-some (payload_of s) (image_behind s (counting w rs) frame (Some o)) held e in
    let all = first-says s frame time count plans image rs o h comes first in
    let known : payloads s (counting w rs) frame (length plans) ≡ Some found.0 = ap (payloads s (counting w rs) frame) (sym all) ∙ found.1 in
    let same = payloads-image s w frame time (length plans - 1) count plans image rs found.0 h comes known in
    ap (frame_of (payload_of s)) (sym same) ∙ ap (frame_in (payload_of s)) (sym found.1) ∙ e

-- the law
pub complete_is_sent : CompleteFrameIsSent
unfolding frame_shards
complete_is_sent c out rs held sent comes e =
    let unit = out.unit in
    let kind = out.kind in
    let read = sent-read c.stream out sent in
    let image = frame_image kind unit (payload_of c.stream) in
    let behind =
    sent_behind c.stream c.window out.frame out.time out.count (unit_plan c.stream unit) image rs held (oldest (is_of_frame out.frame) rs)
    (sent-blocks c.stream out sent) comes refl
    (sym (complete-is c rs out.frame) ∙ e) in
    let same : Some held ≡ Some (record { kind = kind; unit = unit }) = sym behind ∙ read in
    same_Some held (record { kind = kind; unit = unit }) same
