-- The fields of a video header as numbers.
use Rattle.std.proofs.Common.{◌≡◌, ◌≤◌, ◌<◌, ◌+◌, ◌*◌, ◌%◌, ◌^◌, ℕ, refl, ap, ◌∙◌, arith, inl, inr}
use Rattle.std.proofs.lemmas.Bool.{cases_lt}
use Rattle.std.proofs.lemmas.Grind.{or_after_shift}
use Rattle.std.proofs.lemmas.Nat.{or_shifted}
use Rattle.std.specs.Prelude.{bit_or, List, [], ◌∷◌, ◌++◌}
use Rattle.byteorder.specs.Endian.{big_bytes, little_bytes}
use Rattle.gs_rtp.specs.declared.video.VideoHead.{VideoHead}
use Rattle.gs_rtp.specs.Video.{IsVideoHead, parity_count, block_byte, fec_info, video_header}

-- at percentage 0 there is no parity
pub parity_count-zero : (data_shards : ℕ) → parity_count data_shards 0 ≡ 0
parity_count-zero data_shards = let none : data_shards * 0 ≡ 0 = omega arith in rw none refl

-- a block has fewer than 1,024 shards
pub IsVideoHead-total : (h : VideoHead) → IsVideoHead h → h.shards + parity_count h.shards h.percentage < 1024
IsVideoHead-total h grammar = elim (cases_lt 0 h.percentage) [
  | inl coded ↦ let few : h.shards + parity_count h.shards h.percentage ≤ 255 = grammar.codable coded in omega arith
  | inr plain ↦
      let zero_is : h.percentage ≡ 0 = omega arith in
      let none : parity_count h.shards h.percentage ≡ 0 = ap (parity_count h.shards) zero_is ∙ parity_count-zero h.shards in
      let few : h.shards ≤ 1023 = grammar.shards_greatest in
      omega arith
]

-- the number of a shard has ten bits
pub IsVideoHead-index : (h : VideoHead) → IsVideoHead h → h.index < 1024
IsVideoHead-index h grammar =
    let total = IsVideoHead-total h grammar in
    let within : h.index < h.shards + parity_count h.shards h.percentage = grammar.index in
    omega arith

-- the three fields of a word, put together by `|`
pub fec_info-or : (h : VideoHead) → IsVideoHead h → h.percentage < 2 ^ 8
    → bit_or (bit_or (h.shards * 2 ^ 22 % 2 ^ 32) (h.index * 2 ^ 12 % 2 ^ 32)) (h.percentage * 2 ^ 4 % 2 ^ 32) ≡ fec_info h
fec_info-or h grammar fits =
    let few : h.shards ≤ 1023 = grammar.shards_greatest in
    let index = IsVideoHead-index h grammar in
    let high : bit_or (h.shards * 2 ^ 22 % 2 ^ 32) (h.index * 2 ^ 12 % 2 ^ 32) ≡ (h.shards * 2 ^ 10 + h.index) * 2 ^ 12 =
    or_after_shift h.shards (2 ^ 22) (2 ^ 32) (h.index * 2 ^ 12 % 2 ^ 32) refl (omega arith) (omega arith) ∙ omega arith in
    let low : h.percentage * 2 ^ 4 % 2 ^ 32 ≡ h.percentage * 2 ^ 4 = omega arith in
    ap (λ (n : ℕ). bit_or n (h.percentage * 2 ^ 4 % 2 ^ 32)) high ∙ ap (bit_or ((h.shards * 2 ^ 10 + h.index) * 2 ^ 12)) low
    ∙ or_shifted (h.shards * 2 ^ 10 + h.index) 12 (h.percentage * 2 ^ 4) (omega arith) ∙ omega arith

-- the header, by its fields before the last five bytes, and these
abbrev pub header_with : VideoHead → ℕ → ℕ → List ℕ
header_with h blocks info =
    0x90 ∷ 0 ∷ big_bytes 2 h.sequence ++ big_bytes 4 h.timestamp ++ big_bytes 4 h.ssrc
    ++ 0 ∷ 0 ∷ 0 ∷ 0 ∷ []
    ++ little_bytes 4 h.stream_index ++ little_bytes 4 h.frame
    ++ h.flags ∷ h.extra ∷ h.multi_flags ∷ blocks ∷ []
    ++ little_bytes 4 info

pub header_with-is : (h : VideoHead) (blocks info : ℕ) → blocks ≡ block_byte h → info ≡ fec_info h → header_with h blocks info ≡ video_header h
header_with-is h blocks info b i = ap (λ (n : ℕ). header_with h n info) b ∙ ap (header_with h (block_byte h)) i
