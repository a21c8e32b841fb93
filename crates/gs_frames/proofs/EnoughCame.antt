-- A frame is complete once enough datagrams of each of its blocks came, where it isn't left.
use Rattle.std.proofs.Common.{◌≡◌, ◌<◌, ◌≤◌, ◌+◌, ◌-◌, ◌*◌, ℕ, zero, suc, Bool, true, List, [], ◌∷◌, ◌++◌, length, get_or, take, Option, Some, None, refl, ap}
use Rattle.std.proofs.Common.{◌∙◌, arith}
use Rattle.std.specs.List.{All, filter, slice_get}
use Rattle.std.proofs.lemmas.Bool.{cond-false, eq-eqb}
use Rattle.std.proofs.lemmas.List.Elements.{All-weaker}
use Rattle.std.proofs.lemmas.Option.{slice_get-get_or}
use Rattle.gs_rtp.specs.Stream.{StreamSettings}
use Rattle.gs_frames.specs.Shards.{payload_of, block_shards}
use Rattle.gs_frames.specs.Datagrams.{unit_plan, headed_blocks, frame_shards}
use Rattle.gs_frames.specs.Image.{frame_image}
use Rattle.gs_frames.specs.Plan.{BlockPlan, without_parity}
use Rattle.gs_frames.specs.declared.verdict.Shape.{Shape}
use Rattle.gs_frames.specs.Received.{Received, oldest, is_of_frame, is_of_block}
use Rattle.gs_frames.specs.Verdict.{counting}
use Rattle.gs_frames.specs.Complete.{block_payloads, both, payloads, image_behind, frame_in}
use Rattle.gs_frames.specs.FillLaws.{Agree}
use Rattle.gs_frames.specs.CompleteLaws.{ComesFrom, HasEnough, EnoughCompleteFrame}
use Rattle.gs_frames.proofs.Counting.{oldest-none, NoneOf-from_oldest, NoneOf-counting, filter_of_block-none, complete-is}
use Rattle.gs_frames.proofs.Fills.{distinct_shards_fill}
use Rattle.gs_frames.proofs.FramesReceived.{place_at}
use Rattle.gs_frames.proofs.SentBlocks.{count_at, image_at, IsShardOf}
use Rattle.gs_frames.proofs.WholeBlocks.{block_payloads-is}
use Rattle.gs_frames.proofs.CompleteSent.{AreBlocksOf, sent-blocks, sent-read, block-came, last-came, held-sent, payloads-image, first-says}

-- ---- each block is whole

-- each block has enough shards
abbrev HaveEnough : List Received → ℕ → List BlockPlan → Type 0
HaveEnough rs frame plans = (block : ℕ) (plan : BlockPlan) → slice_get plans block ≡ Some plan → HasEnough rs frame block plan.data_shards

-- what each of them says
abbrev said : ℕ → BlockPlan → Shape
said last plan = record { last_block = last; shards = plan.data_shards; percentage = plan.percentage }

-- what came of a frame that was sent agrees
came-agrees : (s : StreamSettings) (frame time last count : ℕ) (plans : List BlockPlan) (image : List ℕ) (rs : List Received) (b : ℕ) (plan : BlockPlan)
    → slice_get plans b ≡ Some plan → ComesFrom (headed_blocks s (place_at frame time last 0) count plans image) frame rs
    → Agree rs frame b (said last plan)
came-agrees s frame time last count plans image rs b plan e comes =
    let Is : Received → Type 0 =
    IsShardOf (place_at frame time last b) plan (block_shards s plan (count_at b count plans) (image_at (payload_of s) b plans image)) in
    record {
      frames = All-weaker (λ r. is_of_frame frame r ≡ true → r.head.last_block ≡ last) (λ r. r.head.frame ≡ frame → r.head.last_block ≡ last)
          (λ r says is. says (eq-eqb r.head.frame frame is)) rs (last-came s frame time last count plans image rs comes);
      blocks = All-weaker (λ r. is_of_block frame b r ≡ true → Is r)
          (λ r. is_of_block frame b r ≡ true → (r.head.shards ≡ plan.data_shards) × (r.head.percentage ≡ plan.percentage))
          (λ r says is. let h = says is in (h.head.shards, h.head.percentage)) rs (block-came s frame time last count plans image rs b plan e comes);
    }

-- so as many shards of a block count as it has data shards
block-full : (s : StreamSettings) (w : ℕ) (frame time last count : ℕ) (plans : List BlockPlan) (image : List ℕ) (rs : List Received) (b : ℕ) (plan : BlockPlan)
    → slice_get plans b ≡ Some plan → ComesFrom (headed_blocks s (place_at frame time last 0) count plans image) frame rs
    → All (λ r. r.head.frame < frame + w) rs → HasEnough rs frame b plan.data_shards → length (filter (is_of_block frame b) (counting w rs)) ≡ plan.data_shards
block-full s w frame time last count plans image rs b plan e comes below enough =
    distinct_shards_fill w rs enough.chosen frame b (said last plan)
    (came-agrees s frame time last count plans image rs b plan e comes) below
    enough.distinct enough.of_block enough.came (omega (arith, enough.count))

-- where none came first, none is kept
oldest-none_kept : (test : Received → Bool) (rs : List Received) → oldest test rs ≡ None → filter test rs ≡ []
oldest-none_kept test [] e = refl
oldest-none_kept test (r ∷ rs) e =
    let parts = oldest-none test r rs e in
    cond-false (test r) (r ∷ filter test rs) (filter test rs) parts.1 ∙ oldest-none_kept test rs parts.0

-- what is there, where not nothing is
some-first : (o : Option Received) → (o ≡ None → ⊥) → (first : Received) × (o ≡ Some first)
some-first None some = absurd (some refl)
some-first (Some first) some = (first, refl)

-- the payloads of a block with enough shards are known
block-known : (s : StreamSettings) (w : ℕ) (frame time last count : ℕ) (plans : List BlockPlan) (image : List ℕ) (rs : List Received)
    → AreBlocksOf s plans image
    → ComesFrom (headed_blocks s (place_at frame time last 0) count plans image) frame rs → All (λ r. r.head.frame < frame + w) rs → HaveEnough rs frame plans
    → (b : ℕ) (plan : BlockPlan) → slice_get plans b ≡ Some plan
    → block_payloads s (filter (is_of_block frame b) (counting w rs)) (oldest (is_of_block frame b) (counting w rs))
    ≡ Some (take (plan.data_shards * payload_of s) (image_at (payload_of s) b plans image))
block-known s w frame time last count plans image rs h comes below enough b plan e =
    let counted = counting w rs in
    let held = filter (is_of_block frame b) counted in
    let is = held-sent s w frame time last count plans image rs h comes b plan e in
    let full = block-full s w frame time last count plans image rs b plan e comes below (enough b plan e) in
    let least : 1 ≤ plan.data_shards = is.within.shards_least in
    let first = some-first (oldest (is_of_block frame b) counted) (λ none.
    let empty : length held ≡ 0 = ap (λ (l : List Received). length l) (oldest-none_kept (is_of_block frame b) counted none) in
    absurd (omega arith)) in
    ap (block_payloads s held) first.1
    ∙ block_payloads-is s (place_at frame time last b) plan (count_at b count plans) (image_at (payload_of s) b plans image) held first.0 h.room
    is.within is.enough is.bytes is.held (is.first first.0 first.1) full

-- ---- the frame is complete

-- where each block's payloads are known, so are those of the first blocks
payloads-known : (s : StreamSettings) (f : ℕ) (counted : List Received) (plans : List BlockPlan) (image : List ℕ) (n : ℕ) → n ≤ length plans
    → ((b : ℕ) (plan : BlockPlan) → slice_get plans b ≡ Some plan
    → block_payloads s (filter (is_of_block f b) counted) (oldest (is_of_block f b) counted)
    ≡ Some (take (plan.data_shards * payload_of s) (image_at (payload_of s) b plans image)))
    → (found : List ℕ) × (payloads s counted f n ≡ Some found)
payloads-known s f counted plans image zero within known = ([], refl)
payloads-known s f counted plans image (suc n) within known =
    let before = payloads-known s f counted plans image n (omega arith) known in
    let plan = get_or plans n (without_parity 0) in
    let there : slice_get plans n ≡ Some plan = slice_get-get_or plans n (without_parity 0) (omega arith) in
    let block = take (plan.data_shards * payload_of s) (image_at (payload_of s) n plans image) in (
      before.0 ++ block,
      ap (λ (o : Option (List ℕ)). both o (block_payloads s (filter (is_of_block f n) counted) (oldest (is_of_block f n) counted))) before.1
          ∙ ap (λ (o : Option (List ℕ)). both (Some before.0) o) (known n plan there),
    )

-- a datagram of the frame came
first-came : (s : StreamSettings) (w : ℕ) (frame time last count : ℕ) (plans : List BlockPlan) (image : List ℕ) (rs : List Received) → AreBlocksOf s plans image
    → ComesFrom (headed_blocks s (place_at frame time last 0) count plans image) frame rs → All (λ r. r.head.frame < frame + w) rs → HaveEnough rs frame plans
    → (first : Received) × (oldest (is_of_frame frame) rs ≡ Some first)
first-came s w frame time last count plans image rs h comes below enough =
    some-first (oldest (is_of_frame frame) rs) (λ none.
    let some : 1 ≤ length plans = h.planned.some in
    let plan = get_or plans 0 (without_parity 0) in
    let there : slice_get plans 0 ≡ Some plan = slice_get-get_or plans 0 (without_parity 0) (omega arith) in
    let is = held-sent s w frame time last count plans image rs h comes 0 plan there in
    let least : 1 ≤ plan.data_shards = is.within.shards_least in
    let full = block-full s w frame time last count plans image rs 0 plan there comes below (enough 0 plan there) in
    let empty : length (filter (is_of_block frame 0) (counting w rs)) ≡ 0 =
    ap (λ (l : List Received). length l) (filter_of_block-none frame 0 (counting w rs) (NoneOf-counting w frame rs (NoneOf-from_oldest frame rs none))) in
    absurd (omega arith))

-- its image is known
image-known : (s : StreamSettings) (w : ℕ) (frame time count : ℕ) (plans : List BlockPlan) (image : List ℕ) (rs : List Received) → AreBlocksOf s plans image
    → ComesFrom (headed_blocks s (place_at frame time (length plans - 1) 0) count plans image) frame rs → All (λ r. r.head.frame < frame + w) rs
    → HaveEnough rs frame plans
    → image_behind s (counting w rs) frame (oldest (is_of_frame frame) rs) ≡ Some image
image-known s w frame time count plans image rs h comes below enough =
    let counted = counting w rs in
    let last = length plans - 1 in
    let first = first-came s w frame time last count plans image rs h comes below enough in
    let all = first-says s frame time count plans image rs first.0 h comes first.1 in
    let found =
    payloads-known s frame counted plans image (length plans) (omega arith) (block-known s w frame time last count plans image rs h comes below enough) in
    let same = payloads-image s w frame time last count plans image rs found.0 h comes found.1 in
    ap (image_behind s counted frame) first.1
    ∙ ap (payloads s counted frame) all ∙ found.1 ∙ ap (λ (l : List ℕ). Some l) same

-- the law
pub enough_complete : EnoughCompleteFrame
unfolding frame_shards
enough_complete c out rs sent comes below enough =
    let unit = out.unit in
    let image = frame_image out.kind unit (payload_of c.stream) in
    complete-is c rs out.frame
    ∙ ap (frame_in (payload_of c.stream))
    (image-known c.stream c.window out.frame out.time out.count (unit_plan c.stream unit) image rs (sent-blocks c.stream out sent) comes below enough)
    ∙ sent-read c.stream out sent
