-- A frame of one block is complete once any of its datagrams came, as many as it has data shards, no two of one number.
use Rattle.std.proofs.Common.{◌≡◌, ◌≢◌, ◌<◌, ◌≤◌, ◌+◌, ◌-◌, ◌*◌, ℕ, zero, suc, List, [], ◌∷◌, length, get_or, map, Option, Some, None, refl, sym, ap, subst}
use Rattle.std.proofs.Common.{◌∙◌, arith, inl, inr}
use Rattle.std.specs.Prelude.{◌||◌, ◌==◌, is_some}
use Rattle.std.specs.List.{All, AllPairs, Contains, slice_get}
use Rattle.std.proofs.lemmas.Bool.{and_from, cases_lt, eq-eqb}
use Rattle.std.proofs.lemmas.List.{append-nil, length-map, get_or-map}
use Rattle.std.proofs.lemmas.List.Elements.{All-head, All-tail, All-map, All-weaker, All-contains_itself, Contains-get_or}
use Rattle.gs_rs.specs.Shape.{video_code}
use Rattle.gs_rtp.specs.Stream.{StreamSettings}
use Rattle.gs_frames.specs.Shards.{payload_of, block_shards}
use Rattle.gs_frames.specs.Datagrams.{Place, unit_plan, OutgoingFrame, frame_datagrams, headed_shard, headed_shards, headed_blocks, frame_shards}
use Rattle.gs_frames.specs.Image.{Frame, frame_image}
use Rattle.gs_frames.specs.Plan.{BlockPlan}
use Rattle.gs_frames.specs.Client.{ClientSettings, HasWindow, Datagram, datagrams}
use Rattle.gs_frames.specs.Received.{Received, received, taken, greatest, is_left}
use Rattle.gs_frames.specs.Complete.{complete}
use Rattle.gs_frames.specs.Settled.{one_further, settled_among, settled}
use Rattle.gs_frames.specs.Handed.{settled_at_resets, hand_on, handed_through, handed}
use Rattle.gs_frames.specs.FrameLaws.{IsSent}
use Rattle.gs_frames.specs.CompleteLaws.{HasEnough}
use Rattle.gs_frames.proofs.Counting.{greatest-new, greatest-kept}
use Rattle.gs_frames.proofs.Taken.{taken-some}
use Rattle.gs_rs.proofs.HeldShards.{length-with_parity}
use Rattle.gs_frames.proofs.FramesReceived.{data_total, data_total-cons, frame_is_received, place_at}
use Rattle.gs_frames.proofs.ShardForms.{data_shards_of, are_data_shards}
use Rattle.gs_frames.proofs.Fills.{greatest-less}
use Rattle.gs_frames.proofs.SentBlocks.{shards-are}
use Rattle.gs_frames.proofs.CompleteSent.{AreBlocksOf, sent-blocks}
use Rattle.gs_frames.proofs.EnoughCame.{enough_complete}

-- ---- datagrams by their numbers

-- what is taken of them is what is received of each
taken-numbers : (c : ClientSettings) (sent : List (List ℕ)) (rs : List Received) (d : Received) (ks : List ℕ)
    → map (received c.stream) sent ≡ map (λ r. Some r) rs → All (λ k. k < length rs) ks
    → taken c (datagrams (map (λ k. get_or sent k []) ks)) ≡ map (λ k. get_or rs k d) ks
taken-numbers c sent rs d [] e within = refl
taken-numbers c sent rs d (k ∷ ks) e within =
    let in_rs : k < length rs = All-head (λ n. n < length rs) k ks within in
    let counts : length sent ≡ length rs =
    sym (length-map sent (received c.stream)) ∙ ap (λ (l : List (Option Received)). length l) e ∙ length-map rs (λ (r : Received). Some r) in
    let first : received c.stream (get_or sent k []) ≡ Some (get_or rs k d) =
    sym (get_or-map (received c.stream) sent k [] None (omega arith))
    ∙ ap (λ (l : List (Option Received)). get_or l k None) e
    ∙ get_or-map (λ (r : Received). Some r) rs k d None in_rs in
    taken-some c (Datagram (get_or sent k [])) (datagrams (map (λ j. get_or sent j []) ks)) (get_or rs k d) first
    ∙ ap (λ (l : List Received). get_or rs k d ∷ l) (taken-numbers c sent rs d ks e (All-tail (λ n. n < length rs) k ks within))

-- as much is received of a block as it has shards
pub length-headed_shards : (s : StreamSettings) (place : Place) (plan : BlockPlan) (count index : ℕ) (shards : List (List ℕ))
    → length (headed_shards s place plan count index shards) ≡ length shards
length-headed_shards s place plan count index [] = refl
length-headed_shards s place plan count index (shard ∷ shards) =
    ap (λ (n : ℕ). suc n) (length-headed_shards s place plan (count + 1) (index + 1) shards)

-- each has the number of its shard
index-headed_shards : (s : StreamSettings) (place : Place) (plan : BlockPlan) (count index : ℕ) (shards : List (List ℕ)) (k : ℕ) (d : Received)
    → k < length shards → (get_or (headed_shards s place plan count index shards) k d).head.index ≡ index + k
index-headed_shards s place plan count index [] k d h = absurd (omega arith)
index-headed_shards s place plan count index (shard ∷ shards) zero d h = omega arith
index-headed_shards s place plan count index (shard ∷ shards) (suc k) d h =
    index-headed_shards s place plan (count + 1) (index + 1) shards k d (omega arith) ∙ omega arith

-- ---- a frame of one block

-- the only block of a plan
only_block : (plan other : BlockPlan) (block : ℕ) → slice_get (plan ∷ []) block ≡ Some other → (block ≡ 0) × (other ≡ plan)
only_block plan other zero e = (refl, cc)
only_block plan other (suc block) e = cc

-- numbers of a frame's datagrams, where the frame is one block: as many as it has data shards, no two the same
pub record IsOneBlock (s : StreamSettings) (out : OutgoingFrame) (plan : BlockPlan) (ks : List ℕ) : Type 0 where
  pub sent : IsSent s out
  pub planned : unit_plan s out.unit ≡ plan ∷ []
  pub within : All (λ k. k < plan.data_shards + plan.parity_shards) ks
  pub distinct : AllPairs (λ m n. m ≢ n) ks
  pub counted : length ks ≡ plan.data_shards

-- the frame's datagrams of these numbers
abbrev pub of_numbers : StreamSettings → OutgoingFrame → List ℕ → List (List ℕ)
of_numbers s out ks = map (λ k. get_or (frame_datagrams s out) k []) ks

-- the shards that are received of it
abbrev block_received : StreamSettings → OutgoingFrame → BlockPlan → List Received
block_received s out plan =
    headed_shards s (place_at out.frame out.time 0 0) plan out.count 0 (block_shards s plan out.count (frame_image out.kind out.unit (payload_of s)))

-- they are all that is received of the frame
frame_shards-one : (s : StreamSettings) (out : OutgoingFrame) (plan : BlockPlan) → unit_plan s out.unit ≡ plan ∷ []
    → frame_shards s out ≡ block_received s out plan
unfolding frame_shards
frame_shards-one s out plan planned =
    let image = frame_image out.kind out.unit (payload_of s) in
    ap (λ (plans : List BlockPlan). headed_blocks s (place_at out.frame out.time (length plans - 1) 0) out.count plans image) planned
    ∙ append-nil (block_received s out plan)

-- and as many as the block has shards
length-block_received : (s : StreamSettings) (out : OutgoingFrame) (plan : BlockPlan) → IsSent s out
    → unit_plan s out.unit ≡ plan ∷ [] → length (block_received s out plan) ≡ plan.data_shards + plan.parity_shards
length-block_received s out plan sent planned =
    let image = frame_image out.kind out.unit (payload_of s) in
    let AreBlocks : List BlockPlan → Type 0 = λ plans. AreBlocksOf s plans image in
    let blocks : AreBlocksOf s (plan ∷ []) image = subst AreBlocks planned (sent-blocks s out sent) in
    let total : data_total (plan ∷ []) * payload_of s ≡ plan.data_shards * payload_of s =
    ap (λ (n : ℕ). n * payload_of s) (data_total-cons plan [] ∙ omega arith) in
    let are = are_data_shards s plan out.count image blocks.room (omega (arith, blocks.whole, total)) blocks.bytes in
    length-headed_shards s (place_at out.frame out.time 0 0) plan out.count 0 (block_shards s plan out.count image)
    ∙ length-with_parity (video_code plan.data_shards plan.parity_shards) s.packet (data_shards_of s plan out.count image) are.count

-- what is taken of them: distinct shards of the frame's one block
record IsTaken (c : ClientSettings) (out : OutgoingFrame) (ks : List ℕ) : Type 0 where
  rs : List Received
  is : taken c (datagrams (of_numbers c.stream out ks)) ≡ rs
  size : length rs ≡ length ks
  frames : All (λ r. r.head.frame ≡ out.frame) rs
  blocks : All (λ r. r.head.block ≡ 0) rs
  distinct : AllPairs (λ r t. r.head.index ≢ t.head.index) rs
  sent : All (Contains (frame_shards c.stream out)) rs

-- what a client takes of those
one_block-taken : (c : ClientSettings) (out : OutgoingFrame) (plan : BlockPlan) (ks : List ℕ)
    → IsOneBlock c.stream out plan ks → IsTaken c out ks
one_block-taken c out plan ks one =
    let s = c.stream in
    let place = place_at out.frame out.time 0 0 in
    let shards = block_shards s plan out.count (frame_image out.kind out.unit (payload_of s)) in
    let all = block_received s out plan in
    let size_is : length all ≡ plan.data_shards + plan.parity_shards = length-block_received s out plan one.sent one.planned in
    let shards_size : length all ≡ length shards = length-headed_shards s place plan out.count 0 shards in
    let same = frame_shards-one s out plan one.planned in
    let none : Received = headed_shard s place plan 0 0 [] in
    let pick : ℕ → Received = λ k. get_or all k none in
    let inside : All (λ k. k < length all) ks = λ j d h. let below = one.within j d h in omega arith in
    let number : (i : ℕ) (d : Received) → i < length ks → (get_or (map pick ks) i d).head.index ≡ get_or ks i 0 = λ i d h.
    let below = inside i 0 h in
    ap (λ (r : Received). r.head.index) (get_or-map pick ks i 0 d h) ∙ index-headed_shards s place plan out.count 0 shards (get_or ks i 0) none (omega arith)
    ∙ omega arith in
    let are = shards-are s place plan out.count shards in
    record {
      rs = map pick ks;
      is = taken-numbers c (frame_datagrams s out) all none ks
          (frame_is_received s out one.sent ∙ ap (λ (rs : List Received). map (λ r. Some r) rs) same) inside;
      size = length-map ks pick;
      frames = All-map (λ r. r.head.frame ≡ out.frame) pick ks (λ j d h. (are (get_or ks j d) none (inside j d h)).head.frame);
      blocks = All-map (λ r. r.head.block ≡ 0) pick ks (λ j d h. (are (get_or ks j d) none (inside j d h)).head.block);
      distinct = λ i j d less h.
          let in_j : j < length ks = omega (arith, length-map ks pick) in
          let in_i : i < length ks = omega arith in
          λ e. one.distinct i j 0 less in_j (sym (number i d in_i) ∙ e ∙ number j d in_j);
      sent = All-map (Contains (frame_shards s out)) pick ks (λ j d h.
          let Among : List Received → Type 0 = λ l. Contains l (pick (get_or ks j d)) in
          subst Among (sym same) (Contains-get_or all (get_or ks j d) none (inside j d h)));
    }

-- it is complete
pub one_block-complete : (c : ClientSettings) (out : OutgoingFrame) (plan : BlockPlan) (ks : List ℕ)
    → HasWindow c → IsOneBlock c.stream out plan ks
    → complete c (taken c (datagrams (of_numbers c.stream out ks))) out.frame ≡ Some (record { kind = out.kind; unit = out.unit })
one_block-complete c out plan ks window one =
    let t = one_block-taken c out plan ks one in
    let enough : HasEnough t.rs out.frame 0 plan.data_shards = record {
      chosen = t.rs;
      count = t.size ∙ one.counted;
      distinct = t.distinct;
      of_block = λ j d h.
          let r = get_or t.rs j d in
          and_from (r.head.frame == out.frame) (r.head.block == 0) (eq-eqb r.head.frame out.frame (t.frames j d h)) (eq-eqb r.head.block 0 (t.blocks j d h));
      came = All-contains_itself t.rs;
    } in
    ap (λ (rs : List Received). complete c rs out.frame) t.is
    ∙ enough_complete c out t.rs one.sent (λ j d h here. t.sent j d h)
    (λ j d h. omega (arith, t.frames j d h, window.least))
    (λ block other e.
    let only = only_block plan other block (ap (λ (l : List BlockPlan). slice_get l block) (sym one.planned) ∙ e) in
    let OfBlock : ℕ → Type 0 = λ b. HasEnough t.rs out.frame b plan.data_shards in
    let OfPlan : BlockPlan → Type 0 = λ p. HasEnough t.rs out.frame block p.data_shards in
    subst OfPlan (sym only.1) (subst OfBlock (sym only.0) enough))

-- ---- the first frame is handed

-- of one frame alone, that one is the greatest
greatest-one : (f : ℕ) (rs : List Received) → All (λ r. r.head.frame ≡ f) rs → 1 ≤ length rs → greatest rs ≡ f
greatest-one f [] all some = absurd (omega arith)
greatest-one f (r ∷ rs) all some =
    let first : r.head.frame ≡ f = All-head (λ t. t.head.frame ≡ f) r rs all in
    let below : greatest rs < f + 1 =
    greatest-less (f + 1) rs (omega arith) (All-weaker (λ t. t.head.frame ≡ f) (λ t. t.head.frame < f + 1) (λ t e. omega arith) rs
    (All-tail (λ t. t.head.frame ≡ f) r rs all)) in
    elim (cases_lt (greatest rs) r.head.frame) [
      | inl less ↦ greatest-new r rs less ∙ first
      | inr more ↦ greatest-kept r rs more ∙ omega arith
    ]

-- no reset came among datagrams
pub no_resets : (c : ClientSettings) (came : List (List ℕ)) → settled_at_resets c (datagrams came) ≡ []
no_resets c [] = refl
no_resets c (bytes ∷ came) = no_resets c came

-- the first frame, where it is complete and alone, is settled
settled-first : (c : ClientSettings) (rs : List Received) (held : Frame) → greatest rs ≡ 1 → complete c rs 1 ≡ Some held → settled c rs ≡ 1
unfolding settled
settled-first c rs held first is =
    ap (settled_among c rs) first
    ∙ ap (λ (o : Option Frame). one_further 0 0 (is_some o || is_left c.window rs 1)) is

-- an IDR frame is handed then
handed_of-first : (c : ClientSettings) (rs : List Received) (unit : List ℕ) → complete c rs 1 ≡ Some (record { kind = 2; unit = unit })
    → handed_through c rs [] 1 ≡ record { frame = 1; kind = 2; unit = unit } ∷ []
unfolding handed_through
handed_of-first c rs unit is = ap (hand_on [] [] 1) is

-- the first frame, an IDR frame, where enough of it came and nothing else, is handed
pub one_block-handed : (c : ClientSettings) (out : OutgoingFrame) (plan : BlockPlan) (ks : List ℕ) → out.frame ≡ 1 → out.kind ≡ 2 → 1 ≤ length ks
    → HasWindow c → IsOneBlock c.stream out plan ks
    → handed c (datagrams (of_numbers c.stream out ks)) ≡ record { frame = 1; kind = 2; unit = out.unit } ∷ []
unfolding handed
one_block-handed c out plan ks first idr some window one =
    let came = of_numbers c.stream out ks in
    let rs = taken c (datagrams came) in
    let t = one_block-taken c out plan ks one in
    let size : length t.rs ≡ length ks = t.size in
    let whole : complete c rs 1 ≡ Some (record { kind = 2; unit = out.unit }) =
    ap (complete c rs) (sym first) ∙ one_block-complete c out plan ks window one ∙ ap (λ (k : ℕ). Some (record { kind = k; unit = out.unit })) idr in
    let alone : greatest rs ≡ 1 = ap greatest t.is ∙ greatest-one out.frame t.rs t.frames (omega arith) ∙ first in
    ap (λ (resets : List ℕ). handed_through c rs resets (settled c rs)) (no_resets c came)
    ∙ ap (handed_through c rs []) (settled-first c rs (record { kind = 2; unit = out.unit }) alone whole)
    ∙ handed_of-first c rs out.unit whole
