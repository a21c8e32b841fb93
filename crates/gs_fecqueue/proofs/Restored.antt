-- The payloads of a block's data shards, where enough shards of it are held.
use Rattle.std.proofs.Common.{◌≡◌, ◌≢◌, ◌<◌, ◌≤◌, ◌+◌, ◌-◌, ◌*◌, ◌↔◌, ◌⊎◌, ℕ, Bool, true, false, List, ◌++◌, length, get_or, take, drop, Result, Ok, Err, refl}
use Rattle.std.proofs.Common.{sym, ap, subst, ◌∙◌, arith, inl, inr}
use Rattle.std.specs.Prelude.{IsErr, OnOk}
use Rattle.std.specs.List.{All}
use Rattle.std.proofs.lemmas.Bool.{cases_lt}
use Rattle.std.proofs.lemmas.List.{length-take-le, take-append-le, take-take}
use Rattle.std.proofs.lemmas.List.Elements.{All-take}
use Rattle.std.proofs.lemmas.Nat.{mul-le}
use Rattle.gs_gf256.specs.Field.{IsByte}
use Rattle.gs_rs.specs.declared.shape.CodeShape.{CodeShape}
use Rattle.gs_rs.specs.declared.restore.TooFew.{TooFew}
use Rattle.gs_rs.specs.Shape.{IsCode, shard_count, video_code}
use Rattle.gs_rs.specs.Codeword.{IsBlock, shard_of}
use Rattle.gs_rs.specs.Restore.{IsPresent, count_present, RestoresSomeBlock}
use Rattle.gs_rs.specs.declared.shape.Form.TheVariants.{Video, Audio}
use Rattle.gs_rs.proofs.Blocks.{data_alone}
use Rattle.gs_rtp.specs.Stream.{StreamSettings}
use Rattle.gs_rtp.specs.declared.video.VideoHead.{VideoHead}
use Rattle.gs_rtp.specs.Video.{IsVideoHead, parity_count}
use Rattle.gs_rtp.proofs.VideoHeads.{parity_count-zero}
use Rattle.gs_frames.specs.Shards.{payload_of}
use Rattle.gs_frames.specs.Received.{Received}
use Rattle.gs_frames.specs.Complete.{code_of, joined_payloads}
use Rattle.gs_fecqueue.specs.Places.{shard_total, kept_payload, AreShards, HasFlagsOf, HasPlaced}
use Rattle.gs_fecqueue.proofs.Counted.{among-held, count-flags}
use Rattle.gs_rs.proofs.Flags.{count-before}
use Rattle.gs_fecqueue.proofs.Payloads.{joined-is}
use Rattle.gs_rs.proofs.PlaceWrites.{front-place}

-- counts within the limits make a video code
video_is_code : (d p : ℕ) → 0 < d → d + p ≤ 255 → IsCode (video_code d p)
video_is_code d p some fits = record { some_data = some; points_fit = fits; audio_counts = λ e. let no : Video ≡ Audio = e in cc }

-- a shard that is held is present
held-present : (present : List Bool) (held : List Received) (first : Received) → HasFlagsOf present held first → AreShards held first
    → (k : ℕ) (d : Received) → k < length held → IsPresent present (get_or held k d).head.index
held-present present held first has are k d h =
    has.each (get_or held k d).head.index (are.indices k d h) ∙ among-held held k d h

-- enough are present
pub enough-present : (present : List Bool) (held : List Received) (first : Received) (result : Result (Unit {0}) TooFew) (P : Type 0)
    → HasFlagsOf present held first → AreShards held first → length held ≡ first.head.shards
    → IsErr result ↔ (count_present present < first.head.shards) → OnOk result P → P
enough-present present held first (Ok x) P has are full few p = p
enough-present present held first (Err e) P has are full few p =
    let less = few.0 refl in absurd (omega (arith, count-flags present held first has are))

-- what was restored is what is joined
pub restored-joined : (s : StreamSettings) (held : List Received) (first : Received) (present : List Bool) (before after : List ℕ)
    → IsCode (code_of first) → AreShards held first → HasFlagsOf present held first → length held ≡ first.head.shards
    → HasPlaced (payload_of s) before held → RestoresSomeBlock (code_of first) (payload_of s) present before after
    → take (first.head.shards * payload_of s) after ≡ joined_payloads s held first
restored-joined s held first present before after is are has full placed some =
    let size = payload_of s in
    let block = some.0 in
    let count = count-flags present held first has are in
    let same : All (λ r. kept_payload r ≡ shard_of size block r.head.index) held =
    λ k d h.
    let index = (get_or held k d).head.index in
    let here = held-present present held first has are k d h in
    sym (placed k d h) ∙ some.2 index (are.indices k d h) (here, omega (arith, count-before present index here)) in
    some.3 ∙ sym (joined-is s held first block are full (inl is) some.1 same)

-- a code that can't be is that of a block without parity
pub bare-joined : (s : StreamSettings) (held : List Received) (first : Received) (bytes : List ℕ)
    → AreShards held first → length held ≡ first.head.shards → (first.head.shards ≡ 0) ⊎ (255 < shard_total first.head)
    → shard_total first.head * payload_of s ≤ length bytes → All IsByte bytes → HasPlaced (payload_of s) bytes held
    → take (first.head.shards * payload_of s) bytes ≡ joined_payloads s held first
bare-joined s held first bytes are full none room all_bytes placed =
    let size = payload_of s in
    let d = first.head.shards in
    let least : 1 ≤ d = are.grammar.shards_least in
    let many : 255 < shard_total first.head = elim none [ inl zero_is ↦ absurd (omega arith) | inr many ↦ many ] in
    let bare : first.head.percentage ≡ 0 = elim (cases_lt 0 first.head.percentage) [
      | inl coded ↦ absurd (omega (arith, are.grammar.codable coded))
      | inr h ↦ omega arith
    ] in
    let no_parity : parity_count d first.head.percentage ≡ 0 = ap (parity_count d) bare ∙ parity_count-zero d in
    let same_total : shard_total first.head ≡ d = omega arith in
    let data_room : d * size ≤ length bytes = omega (arith, ap (λ (n : ℕ). n * size) same_total) in
    let block = take (d * size) bytes in
    let is_block : IsBlock (code_of first) size block =
    data_alone (code_of first) size block no_parity (length-take-le (d * size) bytes data_room) (All-take IsByte (d * size) bytes all_bytes) in
    let same : All (λ r. kept_payload r ≡ shard_of size block r.head.index) held =
    λ k d' h. let within = are.indices k d' h in
    sym (placed k d' h) ∙ sym (front-place d size bytes (get_or held k d').head.index data_room (omega arith)) in
    sym (joined-is s held first block are full (inr no_parity) is_block same ∙ take-take (d * size) (d * size) bytes (omega arith))

-- what a block with a code holds in front, where it was restored as far as it wasn't there
pub coded-joined : (s : StreamSettings) (held : List Received) (first : Received) (present : List Bool) (bytes after rest : List ℕ) (size shards : ℕ)
    (code : CodeShape) (result : Result (Unit {0}) TooFew)
    → payload_of s ≡ size → AreShards held first → HasFlagsOf present held first → HasPlaced size bytes held → shards ≡ first.head.shards
    → length held ≡ first.head.shards → length present * size ≤ length bytes
    → code ≡ video_code shards (length present - shards) → ((shards ≡ 0) ⊎ (255 < shards + (length present - shards)) → ⊥)
    → length after ≡ length (take (length present * size) bytes) → IsErr result ↔ (count_present present < code.data)
    → OnOk result (RestoresSomeBlock code size present (take (length present * size) bytes) after)
    → take (shards * size) (after ++ rest) ≡ joined_payloads s held first
coded-joined s held first present bytes after rest size shards code result size_is are has placed shards_are full room code_made good whole few some =
    let d = first.head.shards in
    let total = length present in
    let part = take (total * size) bytes in
    let count : total ≡ shard_total first.head = has.count in
    let counts : total - shards ≡ parity_count d first.head.percentage = omega arith in
    let code_is : code ≡ code_of first = code_made ∙ ap (λ (m : ℕ). video_code m (total - shards)) shards_are ∙ ap (video_code d) counts in
    let fits : shard_total first.head ≤ 255 = elim (cases_lt 255 (shard_total first.head)) [
      | inl many ↦ absurd (good (inr (omega arith)))
      | inr fits ↦ fits
    ] in
    let is : IsCode (code_of first) = video_is_code d (parity_count d first.head.percentage) (omega (arith, are.grammar.shards_least)) fits in
    let Few : CodeShape → Type 0 = λ x. IsErr result ↔ (count_present present < x.data) in
    let restores = enough-present present held first result (RestoresSomeBlock code size present part after) has are full (subst Few code_is few) some in
    let Restores : CodeShape → Type 0 = λ x. RestoresSomeBlock x size present part after in
    let At : ℕ → Type 0 = λ n. RestoresSomeBlock (code_of first) n present part after in
    let here : HasPlaced size part held =
    λ k d' h. let within = are.indices k d' h in
    front-place total size bytes (get_or held k d').head.index room (omega arith) ∙ placed k d' h in
    let Placed : ℕ → Type 0 = λ n. HasPlaced n part held in
    let joined = restored-joined s held first present part after is are has full (subst Placed (sym size_is) here)
    (subst At (sym size_is) (subst Restores code_is restores)) in
    let less : shards * size ≤ total * size = mul-le shards size total size (omega arith) (omega arith) in
    let front : length after ≡ total * size = whole ∙ length-take-le (total * size) bytes room in
    take-append-le (shards * size) after rest (omega arith)
    ∙ ap (λ (m : ℕ). take (m * size) after) shards_are
    ∙ ap (λ (m : ℕ). take (d * m) after) (sym size_is)
    ∙ joined
