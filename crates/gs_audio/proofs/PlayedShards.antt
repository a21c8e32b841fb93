-- What is taken of the datagrams of some units: units, and parity shards of blocks that are whole.
use Rattle.std.proofs.Common.{◌≡◌, ◌≢◌, ◌<◌, ◌≤◌, ◌+◌, ◌-◌, ◌*◌, ◌/◌, ◌%◌, ℕ, zero, suc, true, false, cond, List, [], ◌∷◌, ◌++◌, length, drop, Option, Some}
use Rattle.std.proofs.Common.{None, ◌⊎◌, inl, inr, refl, sym, ap, subst, ◌∙◌, arith}
use Rattle.std.specs.Prelude.{◌==◌}
use Rattle.std.specs.List.{All, Contains, slice_get, flat_map, range_with_len}
use Rattle.std.proofs.lemmas.Bool.{cases_eq, cond-true, cond-false, eq-eqb, ne_eqb}
use Rattle.std.proofs.lemmas.List.{length-append, drop_at}
use Rattle.std.proofs.lemmas.List.Elements.{All-nil, All-cons, All-append, All-contains, All-weaker}
use Rattle.std.proofs.lemmas.List.FromFn.{length-map-range_with_len}
use Rattle.std.proofs.lemmas.Option.{same_Some, none-some, slice_get-get_or}
use Rattle.gs_rs.specs.Shape.{audio_code}
use Rattle.gs_rs.specs.Shards.{HeldShard, parity_shard}
use Rattle.gs_rs.proofs.HeldShards.{parity_byte}
use Rattle.gs_rtp.specs.Stream.{StreamSettings, AreSettingsWithinLimits}
use Rattle.gs_rtp.specs.declared.audio.AudioHead.{AudioHead}
use Rattle.gs_rtp.specs.Audio.{IsAudioHead, audio_header, audio_head, ReadsBackAudio}
use Rattle.gs_rtp.specs.AudioDatagrams.{numbered, units_of_block, unit_datagram, parity_datagram, unit_datagrams, audio_datagrams}
use Rattle.gs_audio.specs.Received.{AudioShard, shard_number, carried_audio, audio_of_session, received_audio, taken_audio}
use Rattle.gs_audio.specs.PlayedLaws.{AreSessionUnits, AreOfUnits}
use Rattle.gs_bytes.proofs.Lists.{All-filter_map}
use Rattle.gs_audio.proofs.Sent.{numbered-is}

-- ---- shards of a block

-- a unit
pub record IsUnitShard (units : List (List ℕ)) (block : ℕ) (s : HeldShard) : Type 0 where
  pub among : s.index < 4
  pub is : slice_get units (block * 4 + s.index) ≡ Some s.bytes

-- a parity shard, where the block is whole
pub record IsParityShard (size : ℕ) (units : List (List ℕ)) (block : ℕ) (s : HeldShard) : Type 0 where
  pub least : 4 ≤ s.index
  pub greatest : s.index < 6
  pub whole : block * 4 + 4 ≤ length units
  pub is : s.bytes ≡ parity_shard audio_code size (units_of_block units block) (s.index - 4)

abbrev pub IsShardOf : ℕ → List (List ℕ) → ℕ → HeldShard → Type 0
IsShardOf size units block s = IsUnitShard units block s ⊎ IsParityShard size units block s

pub within : (size : ℕ) (units : List (List ℕ)) (block : ℕ) (s : HeldShard) → IsShardOf size units block s → s.index < 6
within size units block s is = elim is [
  | inl unit ↦ let h = unit.among in omega (arith, h)
  | inr parity ↦ parity.greatest
]

abbrev pub IsTakenOf : ℕ → List (List ℕ) → AudioShard → Type 0
IsTakenOf size units r = IsShardOf size units r.block r.shard

-- ---- one datagram

-- what is received of a header with a shard behind it
received-is : ReadsBackAudio → (s : StreamSettings) (h : AudioHead) (shard : List ℕ) → AreSettingsWithinLimits s → s.audio ≢ 0 → IsAudioHead h → h.ssrc ≡ s.ssrc
    → length shard ≡ s.audio
    → received_audio s (audio_header s h ++ shard) ≡ Some (record { block = h.block; shard = record { index = shard_number h; bytes = shard } })
unfolding received_audio
received-is reads s h shard limits some grammar own size =
    let bytes = audio_header s h ++ shard in
    let few = limits.ssrc_greatest in
    let read : audio_head s bytes ≡ Some h = reads s h shard limits some grammar (omega (arith, own, few)) size in
    let made : List ℕ → Option AudioShard = λ b. Some (record { block = h.block; shard = record { index = shard_number h; bytes = b } }) in
    let cut : drop (length bytes - s.audio) bytes ≡ shard =
    drop_at (audio_header s h) shard (length bytes - s.audio) (omega (arith, length-append (audio_header s h) shard, size)) in
    ap (audio_of_session s bytes) read
    ∙ cond-true (h.ssrc == s.ssrc) (Some (carried_audio s bytes h)) None (eq-eqb h.ssrc s.ssrc own)
    ∙ ap made cut

-- a stream without audio has none
received-none : (s : StreamSettings) (bytes : List ℕ) → s.audio ≡ 0 → received_audio s bytes ≡ None
unfolding received_audio
received-none s bytes silent =
    let e : (s.audio == 0) ≡ true = eq-eqb s.audio 0 silent in
    rw e refl

-- what is taken of a datagram, where anything is, is a shard of a block
abbrev Takes : StreamSettings → List (List ℕ) → List ℕ → Type 0
Takes s units bytes = (r : AudioShard) → received_audio s bytes ≡ Some r → IsTakenOf s.audio units r

takes-some : (s : StreamSettings) (units : List (List ℕ)) (bytes : List ℕ) (r : AudioShard) → received_audio s bytes ≡ Some r → IsTakenOf s.audio units r
    → Takes s units bytes
takes-some s units bytes r is of r' e = subst (IsTakenOf s.audio units) (same_Some r r' (sym is ∙ e)) of

takes-none : (s : StreamSettings) (units : List (List ℕ)) (bytes : List ℕ) → received_audio s bytes ≡ None → Takes s units bytes
takes-none s units bytes none r e = absurd (none-some r (sym none ∙ e))

-- a unit's own
unit-taken : ReadsBackAudio → (s : StreamSettings) (units : List (List ℕ)) (n : ℕ) → AreSettingsWithinLimits s → AreSessionUnits s units → s.audio ≢ 0
    → n < length units
    → Takes s units (unit_datagram s units n)
unit-taken reads s units n limits are some h =
    let few = are.few in
    let head : AudioHead = record { parity = false; shard = n % 4; block = n / 4; ssrc = s.ssrc } in
    let is = numbered-is units n in
    let size : length (numbered units n) ≡ s.audio = ap (λ (u : List ℕ). length u) is ∙ are.sizes n [] h in
    let shard : AudioShard = record { block = n / 4; shard = record { index = n % 4; bytes = numbered units n } } in
    let whole : n / 4 * 4 + n % 4 ≡ n = omega arith in
    takes-some s units (unit_datagram s units n) shard
    (received-is reads s head (numbered units n) limits some (record { shard = omega arith; block = omega (arith, few) }) refl size)
    (inl (record {
      among = omega arith;
      is = ap (slice_get units) whole ∙ slice_get-get_or units n [] h ∙ ap (λ (u : List ℕ). Some u) (sym is);
    }))

-- one of a parity shard
parity-taken : ReadsBackAudio → (s : StreamSettings) (units : List (List ℕ)) (n j : ℕ) → AreSettingsWithinLimits s → AreSessionUnits s units → s.audio ≢ 0
    → n < length units → n % 4 ≡ 3 → j < 2 → Takes s units (parity_datagram s units (n / 4) j)
parity-taken reads s units n j limits are some h last small =
    let few = are.few in
    let head : AudioHead = record { parity = true; shard = j; block = n / 4; ssrc = s.ssrc } in
    let block = units_of_block units (n / 4) in
    let bytes : ℕ → List ℕ = λ i. parity_shard audio_code s.audio block i in
    let size : length (bytes j) ≡ s.audio = length-map-range_with_len (parity_byte audio_code block j) 0 s.audio in
    let shard : AudioShard = record { block = n / 4; shard = record { index = 4 + j; bytes = bytes j } } in
    let back : j ≡ 4 + j - 4 = omega arith in
    takes-some s units (parity_datagram s units (n / 4) j) shard
    (received-is reads s head (bytes j) limits some (record { shard = small; block = omega (arith, few) }) refl size)
    (inr (record {
      least = omega arith;
      greatest = omega arith;
      whole = omega arith;
      is = ap bytes back;
    }))

-- ---- all of them

All-range : {X : Type 0} (P : X → Type 0) (f : ℕ → List X) (a n : ℕ) → ((i : ℕ) → i < a + n → All P (f i)) → All P (flat_map f (range_with_len a n))
All-range P f a zero each = All-nil P
All-range P f a (suc n) each =
    All-append P (f a) (flat_map f (range_with_len (a + 1) n)) (each a (omega arith)) (All-range P f (a + 1) n (λ i h. each i (omega arith)))

of-unit : ReadsBackAudio → (s : StreamSettings) (units : List (List ℕ)) (n : ℕ) → AreSettingsWithinLimits s → AreSessionUnits s units → s.audio ≢ 0
    → n < length units
    → All (Takes s units) (unit_datagrams s units n)
of-unit reads s units n limits are some h =
    let P : List ℕ → Type 0 = Takes s units in
    let first = parity_datagram s units (n / 4) 0 in
    let second = parity_datagram s units (n / 4) 1 in
    let rest : All P (cond (n % 4 == 3) (first ∷ second ∷ []) []) = elim (cases_eq (n % 4) 3) [
      | inl last ↦
          subst (All P) (sym (cond-true (n % 4 == 3) (first ∷ second ∷ []) [] (eq-eqb (n % 4) 3 last)))
          (All-cons P first (second ∷ []) (parity-taken reads s units n 0 limits are some h last (omega arith))
          (All-cons P second [] (parity-taken reads s units n 1 limits are some h last (omega arith)) (All-nil P)))
      | inr other ↦ subst (All P) (sym (cond-false (n % 4 == 3) (first ∷ second ∷ []) [] (ne_eqb (n % 4) 3 other))) (All-nil P)
    ] in
    All-cons P (unit_datagram s units n) (cond (n % 4 == 3) (first ∷ second ∷ []) []) (unit-taken reads s units n limits are some h) rest

of-units : ReadsBackAudio → (s : StreamSettings) (units : List (List ℕ)) → AreSettingsWithinLimits s → AreSessionUnits s units → (bytes : List ℕ)
    → Contains (audio_datagrams s units) bytes → Takes s units bytes
of-units reads s units limits are bytes among = elim (cases_eq s.audio 0) [
  | inl silent ↦ takes-none s units bytes (received-none s bytes silent)
  | inr some ↦
      All-contains (Takes s units) (audio_datagrams s units) bytes
      (All-range (Takes s units) (unit_datagrams s units) 0 (length units) (λ n h. of-unit reads s units n limits are some (omega arith))) among
]

-- so is each that is taken of what came
pub taken-of : ReadsBackAudio → (s : StreamSettings) (units came : List (List ℕ)) → AreSettingsWithinLimits s → AreSessionUnits s units
    → AreOfUnits s units came
    → All (IsTakenOf s.audio units) (taken_audio s came)
taken-of reads s units came limits are of =
    All-filter_map (received_audio s) (IsTakenOf s.audio units) came
    (All-weaker (Contains (audio_datagrams s units)) (Takes s units) (of-units reads s units limits are) came of)
