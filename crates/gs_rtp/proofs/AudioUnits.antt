-- The datagrams of audio units do not change where more units follow.
use Rattle.std.proofs.Common.{◌≡◌, ◌<◌, ◌≤◌, ◌+◌, ◌-◌, ◌*◌, ◌/◌, ◌%◌, ℕ, zero, suc, Bool, true, false, List, [], ◌∷◌, ◌++◌, length, take, drop, refl, sym, ap}
use Rattle.std.proofs.Common.{◌∙◌, arith, inl, inr}
use Rattle.std.specs.Prelude.{◌==◌, if◌then◌else◌}
use Rattle.std.proofs.lemmas.Bool.{cases_Bool, eqb-true}
use Rattle.std.proofs.lemmas.List.{take-append-le, drop-append-le, length-drop}
use Rattle.gs_rs.specs.Shape.{audio_code}
use Rattle.gs_rs.specs.Shards.{parity_shard}
use Rattle.gs_rtp.specs.Stream.{StreamSettings}
use Rattle.gs_rtp.specs.Audio.{audio_header, block_units}
use Rattle.gs_rtp.specs.AudioDatagrams.{numbered, unit_datagrams}

numbered-front : (us vs : List (List ℕ)) (n : ℕ) → n < length us → numbered (us ++ vs) n ≡ numbered us n
numbered-front [] vs n h = absurd (omega arith)
numbered-front (u ∷ us) vs zero h = refl
numbered-front (u ∷ us) vs (suc n) h = numbered-front us vs n (omega arith)

-- the units of a block that is whole
block-front : (us vs : List (List ℕ)) (block : ℕ) → block * block_units + block_units ≤ length us
    → take block_units (drop (block * block_units) (us ++ vs)) ≡ take block_units (drop (block * block_units) us)
block-front us vs block h =
    ap (take block_units) (drop-append-le (block * block_units) us vs (omega arith))
    ∙ take-append-le block_units (drop (block * block_units) us) vs (omega (arith, length-drop (block * block_units) us))

abbrev parity_by : StreamSettings → ℕ → List (List ℕ) → List (List ℕ)
parity_by settings block held =
    (audio_header settings (record { parity = true; shard = 0; block = block; ssrc = settings.ssrc }) ++ parity_shard audio_code settings.audio held 0)
    ∷ (audio_header settings (record { parity = true; shard = 1; block = block; ssrc = settings.ssrc }) ++ parity_shard audio_code settings.audio held 1) ∷ []

abbrev with_parity : StreamSettings → ℕ → Bool → List ℕ → List (List ℕ) → List (List ℕ)
with_parity settings n last unit held =
    (audio_header settings (record { parity = false; shard = n % block_units; block = n / block_units; ssrc = settings.ssrc }) ++ unit)
    ∷ (if last then parity_by settings (n / block_units) held else [])

pub unit_datagrams-front : (settings : StreamSettings) (us vs : List (List ℕ)) (n : ℕ) → n < length us
    → unit_datagrams settings (us ++ vs) n ≡ unit_datagrams settings us n
unit_datagrams-front settings us vs n h =
    let block = take block_units (drop (n / block_units * block_units) (us ++ vs)) in
    ap (λ (u : List ℕ). with_parity settings n (n % block_units == block_units - 1) u block) (numbered-front us vs n h)
    ∙ elim (cases_Bool (n % block_units == block_units - 1)) [
      | inl last ↦
          let at_end : n % block_units ≡ block_units - 1 = eqb-true (n % block_units) (block_units - 1) last in
          ap (with_parity settings n (n % block_units == block_units - 1) (numbered us n)) (block-front us vs (n / block_units) (omega arith))
      | inr within ↦
          ap (λ (b : Bool). with_parity settings n b (numbered us n) (take block_units (drop (n / block_units * block_units) (us ++ vs)))) within
          ∙ sym (ap (λ (b : Bool). with_parity settings n b (numbered us n) (take block_units (drop (n / block_units * block_units) us))) within)
    ]
