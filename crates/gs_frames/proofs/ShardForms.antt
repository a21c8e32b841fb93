-- The shards of a block of a frame's image: their length, their bytes and the fields that parity covers.
use Rattle.std.proofs.Common.{◌≡◌, ◌<◌, ◌≤◌, ◌+◌, ◌-◌, ◌*◌, ◌%◌, ◌^◌, ℕ, zero, suc, Bool, true, false, List, [], ◌∷◌, ◌++◌, length, get_or, take, drop, map}
use Rattle.std.proofs.Common.{replicate, refl, sym, ap, subst, ◌∙◌, arith, inl, inr, lit<}
use Rattle.std.specs.Prelude.{◌==◌, if◌then◌else◌}
use Rattle.std.specs.Int.{byte_at}
use Rattle.std.specs.List.{All, range_with_len}
use Rattle.std.proofs.lemmas.List.{length-take-le, length-drop}
use Rattle.std.proofs.lemmas.List.Elements.{All-from_recursion, recursion_from_All, All-nil, All-cons, All-head, All-tail, All-append, All-replicate, All-map}
use Rattle.std.proofs.lemmas.List.Elements.{All-take, All-drop, All-weaker}
use Rattle.std.proofs.lemmas.List.FromFn.{length-map-range_with_len}
use Rattle.gs_gf256.specs.Field.{IsByte, product}
use Rattle.gs_gf256.proofs.FieldLemmas.{product-zero_r}
use Rattle.gs_gf256.proofs.FieldSums.{field_sum_none}
use Rattle.gs_rs.specs.declared.shape.CodeShape.{CodeShape}
use Rattle.gs_rs.specs.Shape.{video_code, coefficient}
use Rattle.gs_rtp.specs.Stream.{StreamSettings}
use Rattle.gs_rs.specs.Shards.{parity_shard, shard_byte}
use Rattle.gs_frames.specs.Shards.{payload_of, shares, flags, data_shard, data_shards_from, block_shards}
use Rattle.gs_frames.specs.Image.{frame_image, last_length}
use Rattle.gs_frames.specs.ImageLaws.{IsWrittenKind}
use Rattle.gs_frames.specs.Plan.{BlockPlan}
use Rattle.gs_rs.specs.ShardLaws.{AreDataShards}
use Rattle.gs_rs.proofs.HeldShards.{parity_shards, parity_byte, IsByte-parity_byte}
use Rattle.gs_frames.proofs.ShardsReceived.{shard_with, IsShard}

-- ---- the bytes of an image

-- a kind is a byte
kind-lt : (kind : ℕ) → IsWrittenKind kind → IsByte kind
kind-lt kind h = elim h [ inl one ↦ omega arith | inr others ↦ elim others [ inl two ↦ omega arith | inr five ↦ omega arith ] ]

-- an image of bytes is bytes
pub frame_image-bytes : (kind : ℕ) (unit : List ℕ) (payload : ℕ) → IsWrittenKind kind → All IsByte unit → All IsByte (frame_image kind unit payload)
unfolding frame_image
frame_image-bytes kind unit payload known bytes =
    let last = last_length (length unit) payload in
    let header = 1 ∷ 0 ∷ 0 ∷ kind ∷ byte_at 0 last ∷ byte_at 1 last ∷ 0 ∷ 0 ∷ [] in
    All-append IsByte (header ++ unit) (replicate _ 0)
    (All-append IsByte header unit
    (All-from_recursion IsByte header (lit< tt, (lit< tt, (lit< tt, (kind-lt kind known, (omega arith, (omega arith, (lit< tt, (lit< tt, tt))))))))) bytes)
    (All-replicate IsByte _ 0 (lit< tt))

-- ---- shares of it

-- as many shares as are asked for
pub length-shares : (n size : ℕ) (bytes : List ℕ) → length (shares n size bytes) ≡ n
length-shares zero size bytes = refl
length-shares (suc n) size bytes = ap (λ (k : ℕ). suc k) (length-shares n size (drop size bytes))

-- each is whole, where there are enough bytes
shares-whole : (n size : ℕ) (bytes : List ℕ) → n * size ≤ length bytes → All (λ share. length share ≡ size) (shares n size bytes)
shares-whole zero size bytes room = All-nil (λ share. length share ≡ size)
shares-whole (suc n) size bytes room =
    All-cons (λ share. length share ≡ size) (take size bytes) (shares n size (drop size bytes))
    (length-take-le size bytes (omega arith))
    (shares-whole n size (drop size bytes) (omega (arith, length-drop size bytes)))

-- shares of bytes are bytes
shares-bytes : (n size : ℕ) (bytes : List ℕ) → All IsByte bytes → All (All IsByte) (shares n size bytes)
shares-bytes zero size bytes all = All-nil (All IsByte)
shares-bytes (suc n) size bytes all =
    All-cons (All IsByte) (take size bytes) (shares n size (drop size bytes)) (All-take IsByte size bytes all)
    (shares-bytes n size (drop size bytes) (All-drop IsByte size bytes all))

-- ---- data shards

-- the flags are a byte
flags_of-lt : (last first : Bool) → 1 + (if last then 2 else 0) + (if first then 4 else 0) < 256
flags_of-lt true true = lit< tt
flags_of-lt true false = lit< tt
flags_of-lt false true = lit< tt
flags_of-lt false false = lit< tt

-- for any shard of a block
flags-lt : (d i : ℕ) → IsByte (flags d i)
flags-lt d i = flags_of-lt (i + 1 == d) (i == 0)

-- a data shard is a shard
data_is_shard : (size count mark : ℕ) (payload : List ℕ) → IsByte mark → 16 + length payload ≡ size → IsShard size (data_shard count mark payload)
data_is_shard size count mark payload hm whole =
    let n = count % 2 ^ 24 * 256 in
    record {
      first = byte_at 0 n;
      second = byte_at 1 n;
      third = byte_at 2 n;
      fourth = byte_at 3 n;
      flags = mark;
      extra = 0;
      payload = payload;
      is = refl;
      IsByte-first = omega arith;
      IsByte-second = omega arith;
      IsByte-third = omega arith;
      IsByte-fourth = omega arith;
      IsByte-flags = hm;
      IsByte-extra = lit< tt;
      whole = whole;
    }

-- the length of a shard
length-shard : (size : ℕ) (shard : List ℕ) → IsShard size shard → length shard ≡ size
length-shard size shard h = ap (λ (bytes : List ℕ). length bytes) h.is ∙ omega (arith, h.whole)

-- its bytes
shard-bytes : (size : ℕ) (shard : List ℕ) → (h : IsShard size shard) → All IsByte h.payload → All IsByte shard
shard-bytes size shard h bytes =
    let Bytes : List ℕ → Type 0 = λ s. All IsByte s in
    let zero_is : IsByte 0 = lit< tt in
    subst Bytes (sym h.is)
    (All-from_recursion IsByte (shard_with h.first h.second h.third h.fourth h.flags h.extra h.payload) (
      h.IsByte-first,
      (
        h.IsByte-second,
        (
          h.IsByte-third,
          (
            h.IsByte-fourth,
            (
              zero_is,
              (
                zero_is,
                (
                  zero_is,
                  (
                    zero_is,
                    (
                      h.IsByte-flags,
                      (
                        h.IsByte-extra,
                        (zero_is, (zero_is, (zero_is, (zero_is, (zero_is, (zero_is, recursion_from_All IsByte h.payload bytes)))))),
                      ),
                    ),
                  ),
                ),
              ),
            ),
          ),
        ),
      ),
    ))

-- what holds of each data shard
All-data_shards : (P Q : List ℕ → Type 0) → ((count mark : ℕ) (payload : List ℕ) → IsByte mark → Q payload → P (data_shard count mark payload))
    → (d i count : ℕ) (payloads : List (List ℕ)) → All Q payloads → All P (data_shards_from d i count payloads)
All-data_shards P Q each d i count [] all = All-nil P
All-data_shards P Q each d i count (payload ∷ payloads) all =
    All-cons P (data_shard count (flags d i) payload) (data_shards_from d (i + 1) (count + 1) payloads)
    (each count (flags d i) payload (flags-lt d i) (All-head Q payload payloads all))
    (All-data_shards P Q each d (i + 1) (count + 1) payloads (All-tail Q payload payloads all))

-- as many data shards as payloads
pub length-data_shards_from : (d i count : ℕ) (payloads : List (List ℕ)) → length (data_shards_from d i count payloads) ≡ length payloads
length-data_shards_from d i count [] = refl
length-data_shards_from d i count (payload ∷ payloads) = ap (λ (k : ℕ). suc k) (length-data_shards_from d (i + 1) (count + 1) payloads)

-- ---- parity shards

-- where all shards have 0, each has
shard_byte-zero : (shards : List (List ℕ)) (i k : ℕ) → All (λ shard. get_or shard k 0 ≡ 0) shards → shard_byte shards i k ≡ 0
shard_byte-zero [] i k all = refl
shard_byte-zero (shard ∷ shards) zero k all = All-head (λ s. get_or s k 0 ≡ 0) shard shards all
shard_byte-zero (shard ∷ shards) (suc i) k all = shard_byte-zero shards i k (All-tail (λ s. get_or s k 0 ≡ 0) shard shards all)

-- where all data shards have 0, a parity shard has 0
parity_byte-zero : (code : CodeShape) (shards : List (List ℕ)) (row k : ℕ) → All (λ shard. get_or shard k 0 ≡ 0) shards → parity_byte code shards row k ≡ 0
parity_byte-zero code shards row k all =
    field_sum_none (λ i. product (coefficient code row i) (shard_byte shards i k)) code.data
    (λ i h. ap (product (coefficient code row i)) (shard_byte-zero shards i k all) ∙ product-zero_r (coefficient code row i))

-- sixteen numbers and more, where those are 0 that parity doesn't cover
same_fields : (a b c d e f g h i j k l m n o p : ℕ) (payload : List ℕ) → e ≡ 0 → f ≡ 0 → g ≡ 0 → h ≡ 0 → k ≡ 0 → l ≡ 0 → m ≡ 0 → n ≡ 0 → o ≡ 0 → p ≡ 0
    → a ∷ b ∷ c ∷ d ∷ e ∷ f ∷ g ∷ h ∷ i ∷ j ∷ k ∷ l ∷ m ∷ n ∷ o ∷ p ∷ payload ≡ shard_with a b c d i j payload
same_fields a b c d e f g h i j k l m n o p payload e0 f0 g0 h0 k0 l0 m0 n0 o0 p0 = rw (e0, f0, g0, h0, k0, l0, m0, n0, o0, p0) refl

abbrev sixteen_more : ℕ → ℕ
sixteen_more m = suc (suc (suc (suc (suc (suc (suc (suc (suc (suc (suc (suc (suc (suc (suc (suc m)))))))))))))))

-- a parity shard is a shard
pub parity_is_shard : (code : CodeShape) (size : ℕ) (shards : List (List ℕ)) (row : ℕ) → 16 ≤ size → AreDataShards code size shards → All (IsShard size) shards
    → IsShard size (parity_shard code size shards row)
parity_is_shard code size shards row room data_shards are =
    let g : ℕ → ℕ = parity_byte code shards row in
    let m = size - 16 in
    let size_is : size ≡ sixteen_more m = omega arith in
    let rest = map g (range_with_len 16 m) in
    let none : (k : ℕ) → ((a b c d mark extra : ℕ) (payload : List ℕ) → get_or (shard_with a b c d mark extra payload) k 0 ≡ 0) → g k ≡ 0 = λ k zero_at.
    parity_byte-zero code shards row k
    (All-weaker (IsShard size) (λ shard. get_or shard k 0 ≡ 0)
    (λ shard h. ap (λ (s : List ℕ). get_or s k 0) h.is ∙ zero_at h.first h.second h.third h.fourth h.flags h.extra h.payload) shards are) in
    record {
      first = g 0;
      second = g 1;
      third = g 2;
      fourth = g 3;
      flags = g 8;
      extra = g 9;
      payload = rest;
      is = ap (λ (n : ℕ). map g (range_with_len 0 n)) size_is
          ∙ same_fields (g 0) (g 1) (g 2) (g 3) (g 4) (g 5) (g 6) (g 7) (g 8) (g 9) (g 10) (g 11) (g 12) (g 13) (g 14) (g 15) rest
          (none 4 (λ a b c d mark extra payload. refl)) (none 5 (λ a b c d mark extra payload. refl))
          (none 6 (λ a b c d mark extra payload. refl)) (none 7 (λ a b c d mark extra payload. refl))
          (none 10 (λ a b c d mark extra payload. refl)) (none 11 (λ a b c d mark extra payload. refl))
          (none 12 (λ a b c d mark extra payload. refl)) (none 13 (λ a b c d mark extra payload. refl))
          (none 14 (λ a b c d mark extra payload. refl)) (none 15 (λ a b c d mark extra payload. refl));
      IsByte-first = IsByte-parity_byte code shards row 0 data_shards.bytes;
      IsByte-second = IsByte-parity_byte code shards row 1 data_shards.bytes;
      IsByte-third = IsByte-parity_byte code shards row 2 data_shards.bytes;
      IsByte-fourth = IsByte-parity_byte code shards row 3 data_shards.bytes;
      IsByte-flags = IsByte-parity_byte code shards row 8 data_shards.bytes;
      IsByte-extra = IsByte-parity_byte code shards row 9 data_shards.bytes;
      whole = omega (arith, length-map-range_with_len g 16 m);
    }

-- ---- a block's shards

-- the data shards of a block of an image
abbrev pub data_shards_of : StreamSettings → BlockPlan → ℕ → List ℕ → List (List ℕ)
data_shards_of s plan count image = data_shards_from plan.data_shards 0 count (shares plan.data_shards (payload_of s) image)

-- bytes of the payload's length
abbrev IsPayload : StreamSettings → List ℕ → Type 0
IsPayload s payload = (16 + length payload ≡ s.packet) × All IsByte payload

-- the shares of an image are payloads
shares-payloads : (s : StreamSettings) (n : ℕ) (image : List ℕ) → 16 ≤ s.packet → n * payload_of s ≤ length image → All IsByte image
    → All (IsPayload s) (shares n (payload_of s) image)
shares-payloads s n image room enough bytes = λ i d h.
    let size_is = shares-whole n (payload_of s) image enough i d h in
    (omega arith, shares-bytes n (payload_of s) image bytes i d h)

-- a block's data shards are shards
pub data_are_shards : (s : StreamSettings) (plan : BlockPlan) (count : ℕ) (image : List ℕ) → 16 ≤ s.packet
    → plan.data_shards * payload_of s ≤ length image → All IsByte image → All (IsShard s.packet) (data_shards_of s plan count image)
data_are_shards s plan count image room enough bytes =
    All-data_shards (IsShard s.packet) (IsPayload s) (λ n mark payload hm h. data_is_shard s.packet n mark payload hm h.0) plan.data_shards 0 count
    (shares plan.data_shards (payload_of s) image) (shares-payloads s plan.data_shards image room enough bytes)

-- and the data shards of its code
pub are_data_shards : (s : StreamSettings) (plan : BlockPlan) (count : ℕ) (image : List ℕ) → 16 ≤ s.packet
    → plan.data_shards * payload_of s ≤ length image → All IsByte image
    → AreDataShards (video_code plan.data_shards plan.parity_shards) s.packet (data_shards_of s plan count image)
unfolding data_is_shard
are_data_shards s plan count image room enough bytes =
    let payloads = shares plan.data_shards (payload_of s) image in
    record {
      count = length-data_shards_from plan.data_shards 0 count payloads ∙ length-shares plan.data_shards (payload_of s) image;
      sizes = All-weaker (IsShard s.packet) (λ shard. length shard ≡ s.packet) (length-shard s.packet) (data_shards_of s plan count image)
          (data_are_shards s plan count image room enough bytes);
      bytes = All-data_shards (All IsByte) (IsPayload s)
          (λ n mark payload hm h. shard-bytes s.packet (data_shard n mark payload) (data_is_shard s.packet n mark payload hm h.0) h.1)
          plan.data_shards 0 count payloads (shares-payloads s plan.data_shards image room enough bytes);
    }

-- so are its parity shards
pub block_are_shards : (s : StreamSettings) (plan : BlockPlan) (count : ℕ) (image : List ℕ) → 16 ≤ s.packet
    → plan.data_shards * payload_of s ≤ length image → All IsByte image → All (IsShard s.packet) (block_shards s plan count image)
block_are_shards s plan count image room enough bytes =
    let code = video_code plan.data_shards plan.parity_shards in
    let data_shards = data_shards_of s plan count image in
    let are = data_are_shards s plan count image room enough bytes in
    All-append (IsShard s.packet) data_shards (parity_shards code s.packet data_shards) are
    (All-map (IsShard s.packet) (parity_shard code s.packet data_shards) (range_with_len 0 plan.parity_shards) (λ j d h.
    parity_is_shard code s.packet data_shards _ room (are_data_shards s plan count image room enough bytes) are))
