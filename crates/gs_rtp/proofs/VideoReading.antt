-- What a reader of a written video header finds.
use Rattle.std.proofs.Common.{◌≡◌, eq-eqb, if◌then◌else◌, ◌≤◌, ◌<◌, ◌+◌, ◌/◌, ◌%◌, ◌^◌, ℕ, Bool, true, false, List, [], ◌++◌, length, refl, sym, ap, subst, ◌∙◌}
use Rattle.std.proofs.Common.{arith, rules, Some, None}
use Rattle.std.specs.Prelude.{IsTrue, slice_index}
use Rattle.std.proofs.lemmas.Bool.Decides.{nat_tests}
use Rattle.byteorder.specs.Endian.{big_from, little_from}
use Rattle.byteorder.specs.Numbers.{big_number-reads_back, little_number-reads_back}
use Rattle.gs_rtp.specs.declared.video.VideoHead.{VideoHead}
use Rattle.gs_rtp.specs.Video.{IsVideoHead, is_video_head, FitsHeadTypes, block_byte, fec_info, video_header, short_video_header, fields_after, video_fields}
use Rattle.gs_rtp.specs.Video.{is_video, IsVideoBytes, video_head}
use Rattle.gs_rtp.proofs.VideoHeads.{IsVideoHead-index}

-- what the test of a head says
pub is_video_head-holds : (h : VideoHead) → IsTrue (is_video_head h) → IsVideoHead h
is_video_head-holds h t =
    record {
      frame_least = grind (arith, nat_tests);
      frame_greatest = grind (arith, nat_tests);
      block = grind (arith, nat_tests);
      last_block = grind (arith, nat_tests);
      shards_least = grind (arith, nat_tests);
      shards_greatest = grind (arith, nat_tests);
      index = grind (arith, nat_tests);
      codable = λ some. grind (arith, nat_tests);
    }

-- a head in the grammar passes the test
pub IsVideoHead-tests : (h : VideoHead) → IsVideoHead h → IsTrue (is_video_head h)
IsVideoHead-tests h grammar = search rules

-- a head is known by its fields
same_head : (sequence timestamp ssrc stream_index frame flags extra multi_flags block last_block shards index percentage : ℕ) (h : VideoHead)
    → sequence ≡ h.sequence → timestamp ≡ h.timestamp → ssrc ≡ h.ssrc → stream_index ≡ h.stream_index → frame ≡ h.frame
    → flags ≡ h.flags → extra ≡ h.extra → multi_flags ≡ h.multi_flags → block ≡ h.block → last_block ≡ h.last_block
    → shards ≡ h.shards → index ≡ h.index → percentage ≡ h.percentage
    → record {
      sequence = sequence;
      timestamp = timestamp;
      ssrc = ssrc;
      stream_index = stream_index;
      frame = frame;
      flags = flags;
      extra = extra;
      multi_flags = multi_flags;
      block = block;
      last_block = last_block;
      shards = shards;
      index = index;
      percentage = percentage;
    } ≡ h
same_head sequence timestamp ssrc stream_index frame flags extra multi_flags block last_block shards index percentage h a b c d e f g h' i j k l m =
    rw (a, b, c, d, e, f, g, h', i, j, k, l, m) refl

-- the word of a header
fec_info-lt : (h : VideoHead) → FitsHeadTypes h → IsVideoHead h → fec_info h < 256 ^ 4
fec_info-lt h fits grammar =
    let index = IsVideoHead-index h grammar in
    let shards : h.shards ≤ 1023 = grammar.shards_greatest in
    let percentage : h.percentage < 2 ^ 8 = fits.percentage in
    omega arith

-- bytes that hold each field of a head at its place, its bits put together, have that head
fields_after-is : (start : ℕ) (bytes : List ℕ) (h : VideoHead) → FitsHeadTypes h → IsVideoHead h
    → big_from 2 2 bytes ≡ h.sequence → big_from 4 4 bytes ≡ h.timestamp → big_from 8 4 bytes ≡ h.ssrc
    → little_from start 4 bytes ≡ h.stream_index → little_from (start + 4) 4 bytes ≡ h.frame
    → slice_index bytes (start + 8) ≡ h.flags → slice_index bytes (start + 9) ≡ h.extra → slice_index bytes (start + 10) ≡ h.multi_flags
    → slice_index bytes (start + 11) ≡ block_byte h → little_from (start + 12) 4 bytes ≡ fec_info h
    → fields_after start bytes ≡ h
fields_after-is start bytes h fits grammar sequence timestamp ssrc stream_index frame flags extra multi_flags blocks word =
    let index = IsVideoHead-index h grammar in
    let shards : h.shards ≤ 1023 = grammar.shards_greatest in
    let percentage : h.percentage < 2 ^ 8 = fits.percentage in
    let block : h.block ≤ h.last_block = grammar.block in
    let last_block : h.last_block ≤ 3 = grammar.last_block in
    let block_is : block_byte h / 2 ^ 4 % 2 ^ 2 ≡ h.block = omega arith in
    let last_block_is : block_byte h / 2 ^ 6 ≡ h.last_block = omega arith in
    let shards_are : fec_info h / 2 ^ 22 ≡ h.shards = omega arith in
    let index_is : fec_info h / 2 ^ 12 % 2 ^ 10 ≡ h.index = omega arith in
    let percentage_is : fec_info h / 2 ^ 4 % 2 ^ 8 ≡ h.percentage = omega arith in
    same_head _ _ _ _ _ _ _ _ _ _ _ _ _ h sequence timestamp ssrc stream_index frame flags extra multi_flags
    (ap (λ (n : ℕ). n / 2 ^ 4 % 2 ^ 2) blocks ∙ block_is)
    (ap (λ (n : ℕ). n / 2 ^ 6) blocks ∙ last_block_is)
    (ap (λ (n : ℕ). n / 2 ^ 22) word ∙ shards_are)
    (ap (λ (n : ℕ). n / 2 ^ 12 % 2 ^ 10) word ∙ index_is)
    (ap (λ (n : ℕ). n / 2 ^ 4 % 2 ^ 8) word ∙ percentage_is)

-- the fields that a reader finds are those that were written
pub video_fields-header : (h : VideoHead) (payload : List ℕ) → FitsHeadTypes h → IsVideoHead h → video_fields (video_header h ++ payload) ≡ h
video_fields-header h payload fits grammar =
    fields_after-is 16 (video_header h ++ payload) h fits grammar
    (big_number-reads_back 2 h.sequence [] fits.sequence) (big_number-reads_back 4 h.timestamp [] fits.timestamp)
    (big_number-reads_back 4 h.ssrc [] fits.ssrc) (little_number-reads_back 4 h.stream_index [] fits.stream_index)
    (little_number-reads_back 4 h.frame [] fits.frame) refl refl refl refl
    (little_number-reads_back 4 (fec_info h) [] (fec_info-lt h fits grammar))

-- the same of the short header
pub video_fields-short : (h : VideoHead) (payload : List ℕ) → FitsHeadTypes h → IsVideoHead h → video_fields (short_video_header h ++ payload) ≡ h
video_fields-short h payload fits grammar =
    fields_after-is 12 (short_video_header h ++ payload) h fits grammar
    (big_number-reads_back 2 h.sequence [] fits.sequence) (big_number-reads_back 4 h.timestamp [] fits.timestamp)
    (big_number-reads_back 4 h.ssrc [] fits.ssrc) (little_number-reads_back 4 h.stream_index [] fits.stream_index)
    (little_number-reads_back 4 h.frame [] fits.frame) refl refl refl refl
    (little_number-reads_back 4 (fec_info h) [] (fec_info-lt h fits grammar))

-- what the test of a datagram says
pub is_video-holds : (packet : ℕ) (bytes : List ℕ) → IsTrue (is_video packet bytes) → IsVideoBytes packet bytes
is_video-holds packet bytes t =
    record {
      version = grind (arith, nat_tests);
      whole = grind (arith, nat_tests);
      head = is_video_head-holds (video_fields bytes) (grind (arith, nat_tests));
    }

-- a datagram in the grammar passes the test
pub IsVideoBytes-tests : (packet : ℕ) (bytes : List ℕ) → IsVideoBytes packet bytes → IsTrue (is_video packet bytes)
IsVideoBytes-tests packet bytes h =
    let version = eq-eqb _ _ h.version in
    let whole = eq-eqb _ _ h.whole in
    let head = IsVideoHead-tests (video_fields bytes) h.head in
    rw (version, whole, head) refl

-- what a choice that gives a head says
chosen : (b : Bool) (g h : VideoHead) → (if b then Some g else None) ≡ Some h → IsTrue b × (g ≡ h)
chosen true g h e = (refl, cc)
chosen false g h e = cc

-- bytes with a head are in the grammar, and the head has their fields
pub video_head-some : (packet : ℕ) (bytes : List ℕ) (h : VideoHead) → video_head packet bytes ≡ Some h → IsVideoBytes packet bytes × (video_fields bytes ≡ h)
video_head-some packet bytes h e =
    let taken = chosen (is_video packet bytes) (video_fields bytes) h e in
    (is_video-holds packet bytes taken.0, taken.1)

-- bytes in the grammar have their fields as head
pub video_head-of : (packet : ℕ) (bytes : List ℕ) → IsVideoBytes packet bytes → video_head packet bytes ≡ Some (video_fields bytes)
video_head-of packet bytes h =
    ap (λ (b : Bool). if b then Some (video_fields bytes) else None) (IsVideoBytes-tests packet bytes h)

-- the head of a written datagram
pub video_head-header : (packet : ℕ) (h : VideoHead) (payload : List ℕ) → FitsHeadTypes h → IsVideoHead h → length payload + 16 ≡ packet
    → video_head packet (video_header h ++ payload) ≡ Some h
video_head-header packet h payload fits grammar len =
    let fields = video_fields-header h payload fits grammar in
    let bytes : IsVideoBytes packet (video_header h ++ payload) = record {
      version = refl;
      whole = omega arith;
      head = let P : VideoHead → Type 0 = λ g. IsVideoHead g in subst P (sym fields) grammar;
    } in
    video_head-of packet (video_header h ++ payload) bytes ∙ ap (λ (g : VideoHead). Some g) fields

-- the same of the short header
pub video_head-short : (packet : ℕ) (h : VideoHead) (payload : List ℕ) → FitsHeadTypes h → IsVideoHead h → length payload + 16 ≡ packet
    → video_head packet (short_video_header h ++ payload) ≡ Some h
video_head-short packet h payload fits grammar len =
    let fields = video_fields-short h payload fits grammar in
    let bytes : IsVideoBytes packet (short_video_header h ++ payload) = record {
      version = refl;
      whole = omega arith;
      head = let P : VideoHead → Type 0 = λ g. IsVideoHead g in subst P (sym fields) grammar;
    } in
    video_head-of packet (short_video_header h ++ payload) bytes ∙ ap (λ (g : VideoHead). Some g) fields
