-- What a reader of a written audio header finds.
use Rattle.std.proofs.Common.{eq-eqb, ◌≡◌, ◌≢◌, if◌then◌else◌, ◌<◌, ◌+◌, ◌*◌, ◌/◌, ◌%◌, ◌^◌, ◌⊎◌, ℕ, Bool, true, false, List, [], ◌++◌, length, refl, ◌∙◌}
use Rattle.std.proofs.Common.{arith, inl, inr}
use Rattle.std.proofs.lemmas.Bool.Decides.{nat_tests}
use Rattle.std.specs.Prelude.{◌==◌, ◌&&◌, nat_lt, slice_index}
use Rattle.byteorder.specs.Endian.{big_from}
use Rattle.byteorder.specs.Numbers.{big_number-reads_back}
use Rattle.gs_rtp.specs.declared.audio.AudioHead.{AudioHead}
use Rattle.gs_rtp.specs.Stream.{StreamSettings, AreSettingsWithinLimits}
use Rattle.gs_rtp.specs.Audio.{block_units, block_parity, audio_header, unit_header, parity_header, is_time, IsAudioDatagram, ReadsBackAudio}
use Rattle.gs_bytes.proofs.Cases.{not_zero}

-- the time of a unit, and its number again
unit_time : (d n : ℕ) → (d ≡ 5) ⊎ (d ≡ 10) → ((n * d) % (d * 1) ≡ 0) × (n * d / d ≡ n)
unit_time d n (inl e) = rw e (omega arith, omega arith)
unit_time d n (inr e) = rw e (omega arith, omega arith)

-- the time of a block's first unit
block_time : (d k : ℕ) → (d ≡ 5) ⊎ (d ≡ 10) → ((k * 4 * d) % (d * 4) ≡ 0) × (k * 4 * d / d ≡ k * 4)
block_time d k (inl e) = rw e (omega arith, omega arith)
block_time d k (inr e) = rw e (omega arith, omega arith)

-- it fits four bytes
time_fits : (d n : ℕ) → (d ≡ 5) ⊎ (d ≡ 10) → n < 16777216 → n * d < 256 ^ 4
time_fits d n (inl e) few = rw e (omega arith)
time_fits d n (inr e) few = rw e (omega arith)

-- a test that all its parts pass
pass_three : (a b c : Bool) → a ≡ true → b ≡ true → c ≡ true → (a && b && c) ≡ true
pass_three a b c x y z = rw (x, y, z) refl

-- bytes with these fields are a unit's datagram
unit-is : (settings : StreamSettings) (bytes : List ℕ) (n ssrc : ℕ) → AreSettingsWithinLimits settings → settings.audio ≢ 0 → n < 16777216
    → slice_index bytes 0 ≡ 128 → slice_index bytes 1 ≡ 97 → length bytes ≡ 12 + settings.audio
    → big_from 4 4 bytes ≡ n * settings.duration → big_from 8 4 bytes ≡ ssrc
    → IsAudioDatagram settings bytes (record { parity = false; shard = n % 4; block = n / 4; ssrc = ssrc })
unit-is settings bytes n ssrc limits some few first kind whole time source =
    let times = unit_time settings.duration n limits.duration_known in
    let in_time : nat_lt n 16777216 ≡ true = grind (arith, nat_tests) in
    let on_time : is_time settings 1 (n * settings.duration) ≡ true =
    rw (times.0, times.1, in_time) refl in
    let long : (12 + settings.audio == 12 + settings.audio) ≡ true = eq-eqb (12 + settings.audio) (12 + settings.audio) refl in
    rw (first, kind, whole, time, source, not_zero settings.audio some, on_time, long, times.1) refl

-- bytes with these fields are a parity shard's datagram
parity-is : (settings : StreamSettings) (bytes : List ℕ) (shard k ssrc : ℕ) → AreSettingsWithinLimits settings → settings.audio ≢ 0 → k * 4 < 16777216
    → shard < 2
    → slice_index bytes 0 ≡ 128 → slice_index bytes 1 ≡ 127 → length bytes ≡ 24 + settings.audio
    → slice_index bytes 12 ≡ shard → big_from 16 4 bytes ≡ k * 4 * settings.duration → big_from 8 4 bytes ≡ ssrc
    → IsAudioDatagram settings bytes (record { parity = true; shard = shard; block = k; ssrc = ssrc })
parity-is settings bytes shard k ssrc limits some few small first kind whole number time source =
    let times = block_time settings.duration k limits.duration_known in
    let in_time : nat_lt (k * 4) 16777216 ≡ true = grind (arith, nat_tests) in
    let on_time : is_time settings 4 (k * 4 * settings.duration) ≡ true =
    rw (times.0, times.1, in_time) refl in
    let long : (24 + settings.audio == 24 + settings.audio) ≡ true = eq-eqb (24 + settings.audio) (24 + settings.audio) refl in
    let is_small : nat_lt shard 2 ≡ true = grind (arith, nat_tests) in
    let back : k * 4 / 4 ≡ k = omega arith in
    rw (first, kind, whole, number, time, source, not_zero settings.audio some, on_time, long, is_small, times.1, back) refl

pub unit-reads_back : (settings : StreamSettings) (shard block ssrc : ℕ) (unit : List ℕ) → AreSettingsWithinLimits settings → settings.audio ≢ 0
    → shard < 4 → block * 4 < 16777216 → ssrc < 2 ^ 32 → length unit ≡ settings.audio
    → IsAudioDatagram settings (unit_header settings (record { parity = false; shard = shard; block = block; ssrc = ssrc }) ++ unit)
    (record { parity = false; shard = shard; block = block; ssrc = ssrc })
unit-reads_back settings shard block ssrc unit limits some small few fits len =
    let h : AudioHead = record { parity = false; shard = shard; block = block; ssrc = ssrc } in
    let n : ℕ = block * 4 + shard in
    let below : n < 16777216 = omega arith in
    let shard_is : n % 4 ≡ shard = omega arith in
    let block_is : n / 4 ≡ block = omega arith in
    unit-is settings (unit_header settings h ++ unit) n ssrc limits some below refl refl (omega arith)
    (big_number-reads_back 4 (n * settings.duration) [] (time_fits settings.duration n limits.duration_known below)) (big_number-reads_back 4 ssrc [] fits)
    ∙ rw (shard_is, block_is) refl

pub parity-reads_back : (settings : StreamSettings) (shard block ssrc : ℕ) (bytes : List ℕ) → AreSettingsWithinLimits settings → settings.audio ≢ 0
    → shard < 2 → block * 4 < 16777216 → ssrc < 2 ^ 32 → length bytes ≡ settings.audio
    → IsAudioDatagram settings (parity_header settings (record { parity = true; shard = shard; block = block; ssrc = ssrc }) ++ bytes)
    (record { parity = true; shard = shard; block = block; ssrc = ssrc })
parity-reads_back settings shard block ssrc bytes limits some small few fits len =
    let h : AudioHead = record { parity = true; shard = shard; block = block; ssrc = ssrc } in
    parity-is settings (parity_header settings h ++ bytes) shard block ssrc limits some few small refl refl (omega arith) refl
    (big_number-reads_back 4 (block * 4 * settings.duration) [] (time_fits settings.duration (block * 4) limits.duration_known few))
    (big_number-reads_back 4 ssrc [] fits)

-- the header of either
pub audio-reads_back : ReadsBackAudio
audio-reads_back settings h shard limits some grammar fits len =
    let P : Bool → Type 0 = λ parity. h.shard < (if parity then block_parity else block_units)
    → IsAudioDatagram settings (audio_header settings (record { parity = parity; shard = h.shard; block = h.block; ssrc = h.ssrc }) ++ shard)
    (record { parity = parity; shard = h.shard; block = h.block; ssrc = h.ssrc }) in
    let cases : (parity : Bool) → P parity = λ parity. elim parity as P [
      | true ↦ λ small. parity-reads_back settings h.shard h.block h.ssrc shard limits some small grammar.block fits len
      | false ↦ λ small. unit-reads_back settings h.shard h.block h.ssrc shard limits some small grammar.block fits len
    ] in
    cases h.parity grammar.shard
