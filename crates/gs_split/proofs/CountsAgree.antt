-- A frame's datagrams depend on the number of datagrams before it modulo 2^32 alone.
use Rattle.std.proofs.Common.{◌≡◌, ◌+◌, ◌*◌, ◌%◌, ◌^◌, ℕ, List, [], ◌∷◌, ◌++◌, length, take, drop, map, refl, ap, ◌∙◌, subst, arith}
use Rattle.std.specs.List.{concat}
use Rattle.gs_rs.specs.Shape.{video_code}
use Rattle.gs_rs.specs.Shards.{with_parity_shards}
use Rattle.gs_rtp.specs.Stream.{StreamSettings}
use Rattle.gs_frames.specs.Image.{frame_image}
use Rattle.gs_frames.specs.Plan.{BlockPlan}
use Rattle.gs_frames.specs.Shards.{payload_of, flags, data_shard, data_shards_from, shares, block_shards}
use Rattle.gs_frames.specs.Received.{Received}
use Rattle.gs_frames.specs.Datagrams.{Place, next_block, headed_shard, headed_shards, headed_blocks, datagram_of, unit_plan, first_place, OutgoingFrame}
use Rattle.gs_frames.specs.Datagrams.{frame_shards, frame_datagrams}
use Rattle.gs_split.specs.Splitting.{frame_behind, KeepsShards}

abbrev pub Agree : ℕ → ℕ → Type 0
Agree m n = m % 2 ^ 32 ≡ n % 2 ^ 32

agree-add : (m n k : ℕ) → Agree m n → Agree (m + k) (n + k)
agree-add m n k same = omega (arith, same)

agree-24 : (m n : ℕ) → Agree m n → m % 2 ^ 24 ≡ n % 2 ^ 24
agree-24 m n same = omega (arith, same)

agree-16 : (m n : ℕ) → Agree m n → m % 2 ^ 16 ≡ n % 2 ^ 16
agree-16 m n same = omega (arith, same)

data_shard-agrees : (m n flags : ℕ) (payload : List ℕ) → Agree m n → data_shard m flags payload ≡ data_shard n flags payload
data_shard-agrees m n flags payload same = rw (agree-24 m n same) refl

data_shards-agree : (d i m n : ℕ) (payloads : List (List ℕ)) → Agree m n → data_shards_from d i m payloads ≡ data_shards_from d i n payloads
data_shards-agree d i m n [] same = refl
data_shards-agree d i m n (payload ∷ payloads) same =
    ap (λ (x : List ℕ). x ∷ data_shards_from d (i + 1) (m + 1) payloads) (data_shard-agrees m n (flags d i) payload same)
    ∙ ap (λ (xs : List (List ℕ)). data_shard n (flags d i) payload ∷ xs)
    (data_shards-agree d (i + 1) (m + 1) (n + 1) payloads (agree-add m n 1 same))

block_shards-agree : (settings : StreamSettings) (plan : BlockPlan) (m n : ℕ) (image : List ℕ) → Agree m n
    → block_shards settings plan m image ≡ block_shards settings plan n image
block_shards-agree settings plan m n image same =
    ap (λ (shards : List (List ℕ)). with_parity_shards (video_code plan.data_shards plan.parity_shards) settings.packet shards)
    (data_shards-agree plan.data_shards 0 m n (shares plan.data_shards (payload_of settings) image) same)

headed_shard-agrees : (settings : StreamSettings) (place : Place) (plan : BlockPlan) (m n index : ℕ) (shard : List ℕ) → Agree m n
    → headed_shard settings place plan m index shard ≡ headed_shard settings place plan n index shard
headed_shard-agrees settings place plan m n index shard same = rw (agree-16 m n same) refl

headed_shards-agree : (settings : StreamSettings) (place : Place) (plan : BlockPlan) (m n index : ℕ) (shards : List (List ℕ)) → Agree m n
    → headed_shards settings place plan m index shards ≡ headed_shards settings place plan n index shards
headed_shards-agree settings place plan m n index [] same = refl
headed_shards-agree settings place plan m n index (shard ∷ shards) same =
    ap (λ (x : Received). x ∷ headed_shards settings place plan (m + 1) (index + 1) shards)
    (headed_shard-agrees settings place plan m n index shard same)
    ∙ ap (λ (xs : List Received). headed_shard settings place plan n index shard ∷ xs)
    (headed_shards-agree settings place plan (m + 1) (n + 1) (index + 1) shards (agree-add m n 1 same))

headed_blocks-agree : (settings : StreamSettings) (place : Place) (m n : ℕ) (plans : List BlockPlan) (image : List ℕ) → Agree m n
    → headed_blocks settings place m plans image ≡ headed_blocks settings place n plans image
headed_blocks-agree settings place m n [] image same = refl
headed_blocks-agree settings place m n (plan ∷ plans) image same =
    let rest = headed_blocks settings (next_block place) (m + plan.data_shards + plan.parity_shards) plans
    (drop (plan.data_shards * payload_of settings) image) in
    ap (λ (shards : List (List ℕ)). headed_shards settings place plan m 0 shards ++ rest) (block_shards-agree settings plan m n image same)
    ∙ ap (λ (xs : List Received). xs ++ rest)
    (headed_shards-agree settings place plan m n 0 (block_shards settings plan n image) same)
    ∙ ap (λ (xs : List Received). headed_shards settings place plan n 0 (block_shards settings plan n image) ++ xs)
    (headed_blocks-agree settings (next_block place) (m + plan.data_shards + plan.parity_shards)
    (n + plan.data_shards + plan.parity_shards) plans (drop (plan.data_shards * payload_of settings) image)
    (agree-add (m + plan.data_shards) (n + plan.data_shards) plan.parity_shards (agree-add m n plan.data_shards same)))

pub frame_shards-agree : (s : StreamSettings) (m n frame kind time : ℕ) (unit : List ℕ) → Agree m n
    → frame_shards s (frame_behind m frame kind time unit) ≡ frame_shards s (frame_behind n frame kind time unit)
unfolding frame_shards
frame_shards-agree s m n frame kind time unit same =
    headed_blocks-agree s (first_place (frame_behind n frame kind time unit) (unit_plan s unit)) m n (unit_plan s unit)
    (frame_image kind unit (payload_of s)) same

-- of frames that agree in all else
pub same-shards : (s : StreamSettings) (out other : OutgoingFrame) → Agree out.count other.count → out.frame ≡ other.frame → out.kind ≡ other.kind
    → out.time ≡ other.time → out.unit ≡ other.unit → frame_shards s out ≡ frame_shards s other
same-shards s out other same frame kind time unit =
    frame_shards-agree s out.count other.count out.frame out.kind out.time out.unit same
    ∙ ap (λ (n : ℕ). frame_shards s (frame_behind other.count n out.kind out.time out.unit)) frame
    ∙ ap (λ (n : ℕ). frame_shards s (frame_behind other.count other.frame n out.time out.unit)) kind
    ∙ ap (λ (n : ℕ). frame_shards s (frame_behind other.count other.frame other.kind n out.unit)) time
    ∙ ap (λ (l : List ℕ). frame_shards s (frame_behind other.count other.frame other.kind other.time l)) unit

pub same-datagrams : (s : StreamSettings) (out other : OutgoingFrame) → frame_shards s out ≡ frame_shards s other
    → frame_datagrams s out ≡ frame_datagrams s other
unfolding frame_datagrams
same-datagrams s out other same = ap (map datagram_of) same

-- so the bytes that keep the shards of one keep those of the other
pub keeps-same : (s : StreamSettings) (out other : OutgoingFrame) (kept : List ℕ) → frame_shards s out ≡ frame_shards s other
    → KeepsShards s out kept → KeepsShards s other kept
keeps-same s out other kept same keeps =
    subst (λ (l : List Received). take (length l * s.packet) kept ≡ concat (map (λ r. r.shard) l)) same keeps
