-- The units of a block, where four shards of it are held.
use Rattle.std.proofs.Common.{◌≡◌, ◌<◌, ◌≤◌, ◌*◌, ◌↔◌, ℕ, Bool, List, length, get_or, Result, Ok, Err, refl, sym, ap, subst, ◌∙◌, arith, inl}
use Rattle.std.specs.Prelude.{IsErr, OnOk}
use Rattle.std.specs.List.{All}
use Rattle.gs_rs.specs.declared.shape.CodeShape.{CodeShape}
use Rattle.gs_rs.specs.declared.restore.TooFew.{TooFew}
use Rattle.gs_rs.specs.Shape.{audio_code}
use Rattle.gs_rs.specs.Codeword.{shard_of}
use Rattle.gs_rs.specs.Shards.{HeldShard, block_shard}
use Rattle.gs_rs.specs.Restore.{IsPresent, count_present, RestoresSomeBlock}
use Rattle.gs_rs.proofs.Rows.{IsCode-audio}
use Rattle.gs_rs.proofs.HeldShards.{held_shards_fix}
use Rattle.gs_audio.specs.Places.{AreAudioShards, HasMarks, HasPlacedAudio, HasRestored}
use Rattle.gs_audio.proofs.Counted.{among-held, count-marks}
use Rattle.gs_rs.proofs.Flags.{count-before}
use Rattle.gs_rs.proofs.PlaceWrites.{front-place}

-- enough are present
enough : (few : ℕ) (result : Result (Unit {0}) TooFew) (P : Type 0) → few ≡ 4 → IsErr result ↔ (few < 4) → OnOk result P → P
enough few (Ok x) P is some p = p
enough few (Err e) P is some p = let less = some.0 refl in absurd (omega arith)

-- what was restored is what the held shards fix
restored : (size : ℕ) (held : List HeldShard) (present : List Bool) (before after : List ℕ) → length present ≡ 6 → length after ≡ 6 * size
    → AreAudioShards held → HasMarks present held → HasPlacedAudio size before held → length held ≡ 4
    → RestoresSomeBlock audio_code size present before after → HasRestored size after held
restored size held present before after six whole are marks placed full some i h =
    let block = some.0 in
    let count = count-marks present held six marks are in
    let same : All (λ s. s.bytes ≡ shard_of size block s.index) held =
    λ k d h'.
    let index = (get_or held k d).index in
    let here : IsPresent present index = marks index (are.indices k d h') ∙ among-held held k d h' in
    sym (placed k d h') ∙ some.2 index (are.indices k d h') (here, omega (arith, count-before present index here)) in
    let fixed : block_shard audio_code size held i ≡ shard_of size block i =
    held_shards_fix audio_code size block held (inl IsCode-audio) some.1
    (record { count = full; distinct = are.distinct; in_range = are.indices; are = same }) i h in
    let room : 4 * size ≤ length block = omega (arith, some.1.size) in
    sym (front-place 4 size after i (omega arith) h) ∙ ap (λ (l : List ℕ). shard_of size l i) some.3
    ∙ front-place 4 size block i room h ∙ sym fixed

pub units-restored : (size : ℕ) (held : List HeldShard) (present : List Bool) (before after : List ℕ) (code : CodeShape) (result : Result (Unit {0}) TooFew)
    → code ≡ audio_code → length present ≡ 6 → length before ≡ 6 * size → length after ≡ length before
    → AreAudioShards held → HasMarks present held → HasPlacedAudio size before held → length held ≡ 4
    → IsErr result ↔ (count_present present < code.data) → OnOk result (RestoresSomeBlock code size present before after)
    → HasRestored size after held
units-restored size held present before after code result code_is six room kept are marks placed full few some =
    let Few : CodeShape → Type 0 = λ x. IsErr result ↔ (count_present present < x.data) in
    let Some_ : CodeShape → Type 0 = λ x. OnOk result (RestoresSomeBlock x size present before after) in
    let count : count_present present ≡ 4 = count-marks present held six marks are ∙ full in
    restored size held present before after six (kept ∙ room) are marks placed full
    (enough (count_present present) result (RestoresSomeBlock audio_code size present before after) count (subst Few code_is few) (subst Some_ code_is some))
