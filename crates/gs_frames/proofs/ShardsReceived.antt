-- A shard's datagram is received as the shard.
use Rattle.std.proofs.Common.{◌≡◌, ◌<◌, ◌≤◌, ◌+◌, ◌-◌, ◌^◌, ℕ, List, [], ◌∷◌, ◌++◌, length, drop, Some, None, refl, sym, ap, subst, ◌∙◌, arith}
use Rattle.std.specs.Prelude.{◌==◌}
use Rattle.std.specs.Int.{byte_at}
use Rattle.std.proofs.lemmas.Bool.{cond-true, eq-eqb}
use Rattle.byteorder.specs.Endian.{little_bytes, little_number}
use Rattle.gs_gf256.specs.Field.{IsByte}
use Rattle.gs_rtp.specs.Stream.{StreamSettings}
use Rattle.gs_rtp.specs.declared.video.VideoHead.{VideoHead}
use Rattle.gs_rtp.specs.Video.{video_header, IsVideoHead, FitsHeadTypes}
use Rattle.gs_rtp.proofs.VideoReading.{video_head-header}
use Rattle.gs_frames.specs.Datagrams.{Place, shard_head, headed_shard, datagram_of}
use Rattle.gs_frames.specs.Plan.{BlockPlan}
use Rattle.gs_frames.specs.Shards.{covered_header}
use Rattle.gs_frames.specs.Received.{covered_of, carried_shard, of_session, received}
use Rattle.gs_frames.proofs.PlanLimits.{IsWithinGrammar, shards-lt}

-- the length of a datagram
length-video_header : (h : VideoHead) (bytes : List ℕ) → length (video_header h ++ bytes) ≡ 32 + length bytes
length-video_header h bytes = omega arith

-- a shard by the fields that parity covers, and its payload
abbrev pub shard_with : ℕ → ℕ → ℕ → ℕ → ℕ → ℕ → List ℕ → List ℕ
shard_with a b c d flags extra payload = a ∷ b ∷ c ∷ d ∷ 0 ∷ 0 ∷ 0 ∷ 0 ∷ flags ∷ extra ∷ 0 ∷ 0 ∷ 0 ∷ 0 ∷ 0 ∷ 0 ∷ payload

-- a shard of this size: the four bytes of its number, the flags, another byte and the payload, and between
-- them 0 in the fields that parity doesn't cover
pub record IsShard (size : ℕ) (shard : List ℕ) : Type 0 where
  pub first : ℕ
  pub second : ℕ
  pub third : ℕ
  pub fourth : ℕ
  pub flags : ℕ
  pub extra : ℕ
  pub payload : List ℕ
  pub is : shard ≡ shard_with first second third fourth flags extra payload
  pub IsByte-first : IsByte first
  pub IsByte-second : IsByte second
  pub IsByte-third : IsByte third
  pub IsByte-fourth : IsByte fourth
  pub IsByte-flags : IsByte flags
  pub IsByte-extra : IsByte extra
  pub whole : 16 + length payload ≡ size

-- lists of four, by their elements
same_four : (a b c d a' b' c' d' : ℕ) → a ≡ a' → b ≡ b' → c ≡ c' → d ≡ d' → a ∷ b ∷ c ∷ d ∷ [] ≡ a' ∷ b' ∷ c' ∷ d' ∷ []
same_four a b c d a' b' c' d' p q r s = cc

-- four bytes, read as a number and written again
number_again : (a b c d : ℕ) (rest : List ℕ) → IsByte a → IsByte b → IsByte c → IsByte d
    → little_bytes 4 (little_number 4 (a ∷ b ∷ c ∷ d ∷ rest)) ≡ a ∷ b ∷ c ∷ d ∷ []
number_again a b c d rest ha hb hc hd =
    let n = little_number 4 (a ∷ b ∷ c ∷ d ∷ rest) in
    same_four (byte_at 0 n) (byte_at 1 n) (byte_at 2 n) (byte_at 3 n) a b c d (omega arith) (omega arith) (omega arith) (omega arith)

-- the number that they are has 32 bits
number-lt : (a b c d : ℕ) (rest : List ℕ) → IsByte a → IsByte b → IsByte c → IsByte d → little_number 4 (a ∷ b ∷ c ∷ d ∷ rest) < 2 ^ 32
number-lt a b c d rest ha hb hc hd = omega arith

-- the shard that a datagram carries
pub carried-is : (packet : ℕ) (h : VideoHead) (payload : List ℕ) → 16 + length payload ≡ packet
    → carried_shard packet h (video_header h ++ payload) ≡ covered_header (covered_of h) ++ payload
carried-is packet h payload whole =
    let front : length (video_header h ++ payload) - (packet - 16) ≡ 32 = omega (arith, length-video_header h payload) in
    ap (λ (n : ℕ). covered_header (covered_of h) ++ drop n (video_header h ++ payload)) front

-- which block of which frame a head may say
pub record IsPlace (place : Place) : Type 0 where
  pub frame_least : 1 ≤ place.frame
  pub frame_greatest : place.frame ≤ 1048576
  pub block_within : place.block ≤ place.last_block
  pub last_greatest : place.last_block ≤ 3

-- a head with such a place is in the grammar
head-grammar : (s : StreamSettings) (plan : BlockPlan) (place : Place) (count index : ℕ) (shard : List ℕ) → IsPlace place → IsWithinGrammar plan
    → index < plan.data_shards + plan.parity_shards → IsVideoHead (shard_head s place plan count index shard)
head-grammar s plan place count index shard h p within = record {
  frame_least = h.frame_least;
  frame_greatest = h.frame_greatest;
  block = h.block_within;
  last_block = h.last_greatest;
  shards_least = p.shards_least;
  shards_greatest = p.shards_greatest;
  index = omega (arith, p.parity);
  codable = λ coded. omega (arith, p.parity, p.codable coded);
}

-- and its fields fit their types
head-fits : (s : StreamSettings) (plan : BlockPlan) (place : Place) (count index : ℕ) (a b c d flags extra : ℕ) (payload : List ℕ) → s.ssrc < 2 ^ 32
    → IsPlace place → IsWithinGrammar plan → index < plan.data_shards + plan.parity_shards → IsByte a → IsByte b → IsByte c → IsByte d → IsByte flags
    → IsByte extra
    → FitsHeadTypes (shard_head s place plan count index (shard_with a b c d flags extra payload))
head-fits s plan place count index a b c d flags extra payload ssrc h p within ha hb hc hd hf he =
    let frame : place.frame ≤ 1048576 = h.frame_greatest in
    let block : place.block ≤ place.last_block = h.block_within in
    let last_block : place.last_block ≤ 3 = h.last_greatest in
    let total = shards-lt plan p in
    record {
      sequence = omega arith;
      timestamp = omega arith;
      ssrc = ssrc;
      stream_index = number-lt a b c d (0 ∷ 0 ∷ 0 ∷ 0 ∷ flags ∷ extra ∷ 0 ∷ 0 ∷ 0 ∷ 0 ∷ 0 ∷ 0 ∷ payload) ha hb hc hd;
      frame = omega arith;
      flags = hf;
      extra = he;
      multi_flags = omega arith;
      block = omega arith;
      last_block = omega arith;
      shards = omega arith;
      index = omega arith;
      percentage = p.percentage_greatest;
    }

-- the datagram of a shard by its fields
fields_received : (s : StreamSettings) (plan : BlockPlan) (place : Place) (count index : ℕ) (a b c d flags extra : ℕ) (payload : List ℕ) → s.ssrc < 2 ^ 32
    → IsPlace place → IsWithinGrammar plan → index < plan.data_shards + plan.parity_shards → IsByte a → IsByte b → IsByte c → IsByte d → IsByte flags
    → IsByte extra → 16 + length payload ≡ s.packet
    → received s (datagram_of (headed_shard s place plan count index (shard_with a b c d flags extra payload)))
    ≡ Some (headed_shard s place plan count index (shard_with a b c d flags extra payload))
unfolding received
fields_received s plan place count index a b c d flags extra payload ssrc h p within ha hb hc hd hf he whole =
    let shard = shard_with a b c d flags extra payload in
    let head = shard_head s place plan count index shard in
    let datagram = video_header head ++ payload in
    let rest = 0 ∷ 0 ∷ 0 ∷ 0 ∷ flags ∷ extra ∷ 0 ∷ 0 ∷ 0 ∷ 0 ∷ 0 ∷ 0 ∷ payload in
    ap (of_session s datagram)
    (video_head-header s.packet head payload (head-fits s plan place count index a b c d flags extra payload ssrc h p within ha hb hc hd hf he)
    (head-grammar s plan place count index shard h p within) (omega arith))
    ∙ cond-true (s.ssrc == s.ssrc) (Some (record { head = head; shard = carried_shard s.packet head datagram })) None (eq-eqb s.ssrc s.ssrc refl)
    ∙ ap (λ (bytes : List ℕ). Some (record { head = head; shard = bytes }))
    (carried-is s.packet head payload whole
    ∙ ap (λ (number : List ℕ). number ++ rest) (number_again a b c d rest ha hb hc hd))

-- any shard's datagram
pub shard_is_received : (s : StreamSettings) (plan : BlockPlan) (place : Place) (count index : ℕ) (shard : List ℕ) → s.ssrc < 2 ^ 32
    → IsPlace place → IsWithinGrammar plan → index < plan.data_shards + plan.parity_shards → IsShard s.packet shard
    → received s (datagram_of (headed_shard s place plan count index shard)) ≡ Some (headed_shard s place plan count index shard)
shard_is_received s plan place count index shard ssrc h p within is_shard =
    let IsReceivedSame : List ℕ → Type 0 =
    λ bytes. received s (datagram_of (headed_shard s place plan count index bytes)) ≡ Some (headed_shard s place plan count index bytes) in
    subst IsReceivedSame (sym is_shard.is)
    (fields_received s plan place count index is_shard.first is_shard.second is_shard.third is_shard.fourth is_shard.flags is_shard.extra is_shard.payload
    ssrc h p within is_shard.IsByte-first is_shard.IsByte-second is_shard.IsByte-third is_shard.IsByte-fourth is_shard.IsByte-flags
    is_shard.IsByte-extra is_shard.whole)
