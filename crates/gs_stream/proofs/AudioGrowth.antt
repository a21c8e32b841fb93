-- More units take back no audio datagram that went out.
use Rattle.std.proofs.Common.{◌≡◌, ◌<◌, ◌+◌, ◌-◌, ℕ, zero, suc, List, ◌∷◌, ◌++◌, length, refl, ap}
use Rattle.std.proofs.Common.{◌∙◌, arith, length-append}
use Rattle.std.specs.List.{flat_map, range_with_len}
use Rattle.std.proofs.lemmas.Grind.{flat_map-append}
use Rattle.gs_rtp.specs.Stream.{StreamSettings}
use Rattle.gs_rtp.specs.AudioDatagrams.{unit_datagrams, audio_datagrams}
use Rattle.gs_rtp.proofs.AudioUnits.{unit_datagrams-front}
use Rattle.gs_tape.specs.Tick.{Tick}
use Rattle.gs_refs.specs.declared.entry.Entry.{Entry}
use Rattle.gs_stream.specs.Audio.{audio_units, audio_stream}
use Rattle.gs_bytes.specs.Prefix.{IsPrefixOf}
use Rattle.gs_bytes.proofs.Lists.{flat_map-range}
use Rattle.gs_stream.proofs.Growth.{sounds_only_grow}

range-append : (a n m : ℕ) → range_with_len a (n + m) ≡ range_with_len a n ++ range_with_len (a + n) m
range-append a zero m =
    let none : zero + m ≡ m = omega arith in
    let start : a ≡ a + zero = omega arith in
    ap (range_with_len a) none ∙ ap (λ (b : ℕ). range_with_len b m) start
range-append a (suc n) m =
    let more : suc n + m ≡ suc (n + m) = omega arith in
    let start : a + 1 + n ≡ a + suc n = omega arith in
    ap (range_with_len a) more ∙ ap (λ (l : List ℕ). a ∷ l) (range-append (a + 1) n m)
    ∙ ap (λ (b : ℕ). a ∷ (range_with_len (a + 1) n ++ range_with_len b m)) start

audio_datagrams-append : (settings : StreamSettings) (us vs : List (List ℕ)) → IsPrefixOf (audio_datagrams settings us) (audio_datagrams settings (us ++ vs))
audio_datagrams-append settings us vs =
    let f = unit_datagrams settings (us ++ vs) in
    let n = length us in
    let m = length vs in (
      flat_map f (range_with_len (0 + n) m),
      ap (λ (k : ℕ). flat_map f (range_with_len 0 k)) (length-append us vs)
          ∙ ap (flat_map f) (range-append 0 n m)
          ∙ flat_map-append f (range_with_len 0 n) (range_with_len (0 + n) m)
          ∙ ap (λ (l : List (List ℕ)). l ++ flat_map f (range_with_len (0 + n) m))
          (flat_map-range f (unit_datagrams settings us) 0 n (λ k h. unit_datagrams-front settings us vs k (omega arith))),
    )

pub audio_only_grows : (settings : StreamSettings) (ticks : List Tick) (e : Entry) (h : List Entry)
    → IsPrefixOf (audio_stream settings ticks h) (audio_stream settings ticks (e ∷ h))
unfolding audio_stream
audio_only_grows settings ticks e h =
    let more = sounds_only_grow ticks e h in
    let front = audio_datagrams-append settings (audio_units ticks h) more.0 in
    (front.0, ap (audio_datagrams settings) more.1 ∙ front.1)
