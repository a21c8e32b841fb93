-- The datagrams that are ready, by what a sender keeps.
use Rattle.std.proofs.Common.{◌≡◌, ◌<◌, ◌≤◌, ◌+◌, ◌-◌, ◌*◌, ◌/◌, ◌%◌, ℕ, zero, suc, true, false, List, [], ◌∷◌, ◌++◌, length, get_or, take, drop, Some, refl}
use Rattle.std.proofs.Common.{sym, ap, ◌∙◌, arith, inl, inr}
use Rattle.std.specs.Prelude.{◌==◌}
use Rattle.std.specs.List.{concat, range_with_len, slice_get}
use Rattle.std.proofs.lemmas.Bool.{cases_eq, cond-true, cond-false, eq-eqb, ne_eqb}
use Rattle.std.proofs.lemmas.List.{length-drop, length-take, get_or-take, get_or-drop, get_or-append_right}
use Rattle.std.proofs.lemmas.List.Elements.{All-take, All-drop, All-append, All-map}
use Rattle.std.proofs.lemmas.Nat.{mul-le}
use Rattle.std.proofs.lemmas.List.FromFn.{length-map-range_with_len, get_or-map-range_with_len}
use Rattle.gs_rs.specs.Shape.{audio_code}
use Rattle.gs_rs.specs.Codeword.{shard_of}
use Rattle.gs_rs.specs.Shards.{parity_shard, with_parity_shards}
use Rattle.gs_rs.proofs.HeldShards.{parity_shards, parity_byte, length-with_parity}
use Rattle.gs_rtp.specs.declared.audio.AudioHead.{AudioHead}
use Rattle.gs_rtp.specs.Audio.{audio_header}
use Rattle.gs_rtp.specs.AudioDatagrams.{numbered, unit_datagram, parity_datagram}
use Rattle.gs_audio.specs.Sending.{Sending, HasPushed, last_datagrams, last_block, ready_head, ready_place}
use Rattle.gs_rs.proofs.PlaceWrites.{front-place}
use Rattle.gs_rs.proofs.LaidShards.{HaveSize, laid-at}
use Rattle.gs_audio.proofs.Sent.{numbered-is}

-- the length of the last block
length-block : (units : List (List ℕ)) → 1 ≤ length units → length (last_block units) ≡ (length units - 1) % 4 + 1
length-block units some =
    let m = (length units - 1) / 4 * 4 in
    length-take 4 (drop m units) ∙ omega (arith, length-drop m units)

in_block : (size : ℕ) (units : List (List ℕ)) → HaveSize size units → HaveSize size (last_block units)
in_block size units sizes =
    let m = (length units - 1) / 4 * 4 in
    All-take (λ unit. length unit ≡ size) 4 (drop m units) (All-drop (λ unit. length unit ≡ size) m units sizes)

-- a unit of it
unit-of-block : (units : List (List ℕ)) → 1 ≤ length units → get_or (last_block units) ((length units - 1) % 4) [] ≡ numbered units (length units - 1)
unit-of-block units some =
    let n = length units - 1 in
    let m = n / 4 * 4 in
    get_or-take 4 (drop m units) (n % 4) [] (omega arith) ∙ get_or-drop m units (n % 4) []
    ∙ ap (λ (k : ℕ). get_or units k []) (omega arith) ∙ sym (numbered-is units n)

-- the last unit is kept
kept-unit : (s : Sending) (units : List (List ℕ)) → HasPushed s units → 1 ≤ length units → length s.shards ≡ 6 * s.settings.audio
    → shard_of s.settings.audio s.shards ((length units - 1) % 4) ≡ numbered units (length units - 1)
kept-unit s units has some room =
    let size = s.settings.audio in
    let i = (length units - 1) % 4 in
    let block = last_block units in
    let count : length block ≡ i + 1 = length-block units some in
    let fits : (i + 1) * size ≤ length s.shards = omega (arith, mul-le (i + 1) size 6 size (omega arith) (omega arith)) in
    let front : take ((i + 1) * size) s.shards ≡ concat block = ap (λ (m : ℕ). take (m * size) s.shards) (sym count) ∙ has.kept in
    sym (front-place (i + 1) size s.shards i fits (omega arith))
    ∙ ap (λ (l : List ℕ). shard_of size l i) front
    ∙ laid-at size block i (in_block size units has.sizes) (omega arith)
    ∙ unit-of-block units some

-- the shards of a whole block have one size
whole-sizes : (size : ℕ) (block : List (List ℕ)) → HaveSize size block → HaveSize size (with_parity_shards audio_code size block)
whole-sizes size block sizes =
    All-append (λ shard. length shard ≡ size) block (parity_shards audio_code size block) sizes
    (All-map (λ shard. length shard ≡ size) (parity_shard audio_code size block) (range_with_len 0 2)
    (λ j d h. length-map-range_with_len (parity_byte audio_code block _) 0 size))

-- its parity is kept
kept-parity : (s : Sending) (units : List (List ℕ)) (j : ℕ) → HasPushed s units → length (last_block units) ≡ 4 → j < 2
    → shard_of s.settings.audio s.shards (4 + j) ≡ parity_shard audio_code s.settings.audio (last_block units) j
kept-parity s units j has four within =
    let size = s.settings.audio in
    let block = last_block units in
    let all = with_parity_shards audio_code size block in
    let count : length all ≡ 6 = length-with_parity audio_code size block four in
    ap (λ (l : List ℕ). shard_of size l (4 + j)) (has.whole four)
    ∙ laid-at size all (4 + j) (whole-sizes size block (in_block size units has.sizes)) (omega arith)
    ∙ get_or-append_right block (parity_shards audio_code size block) 4 (4 + j) [] four (omega arith)
    ∙ get_or-map-range_with_len (parity_shard audio_code size block) 0 2 ((4 + j) - 4) j [] (omega arith) (omega arith)

-- the bytes of a datagram that is ready
abbrev pub ready_bytes : Sending → ℕ → List ℕ
ready_bytes s k = audio_header s.settings (ready_head s k) ++ shard_of s.settings.audio s.shards (ready_place s k)

some_pushed : (s : Sending) (units : List (List ℕ)) (k : ℕ) → HasPushed s units → k < s.ready → 1 ≤ length units
some_pushed s [] k has h = absurd (omega (arith, has.ready))
some_pushed s (unit ∷ units) k has h = omega arith

ready-count : (s : Sending) (units : List (List ℕ)) → HasPushed s units → 1 ≤ length units → s.ready ≡ length (last_datagrams s.settings units)
ready-count s [] has some = absurd (omega arith)
ready-count s (unit ∷ units) has some = has.ready

-- the first
first-ready : (s : Sending) (units : List (List ℕ)) → HasPushed s units → 1 ≤ length units → length s.shards ≡ 6 * s.settings.audio
    → slice_get (last_datagrams s.settings units) 0 ≡ Some (ready_bytes s 0)
first-ready s units has some room =
    let n = length units - 1 in
    let header : ℕ → List ℕ = λ m. audio_header s.settings (record { parity = false; shard = m % 4; block = m / 4; ssrc = s.settings.ssrc }) in
    let last : n ≡ s.pushed - 1 = omega (arith, has.count) in
    ap (λ (u : List ℕ). Some (header n ++ u)) (sym (kept-unit s units has some room))
    ∙ ap (λ (m : ℕ). Some (header m ++ shard_of s.settings.audio s.shards (m % 4))) last

-- one of the two behind it
parity-ready : (s : Sending) (units : List (List ℕ)) (j : ℕ) → HasPushed s units → suc j < s.ready
    → slice_get (last_datagrams s.settings units) (suc j) ≡ Some (ready_bytes s (suc j))
parity-ready s units j has h =
    let some = some_pushed s units (suc j) has h in
    let n = length units - 1 in
    let block = last_block units in
    let size = s.settings.audio in
    let last : n ≡ s.pushed - 1 = omega (arith, has.count) in
    let parity : ℕ → List ℕ = λ i. parity_datagram s.settings units (n / 4) i in
    let both = parity 0 ∷ parity 1 ∷ [] in
    let own = unit_datagram s.settings units n in
    let count = ready-count s units has some in
    elim (cases_eq (n % 4) 3) [
      | inr other ↦
          let one : last_datagrams s.settings units ≡ own ∷ [] =
          ap (λ (l : List (List ℕ)). own ∷ l) (cond-false (n % 4 == 3) both [] (ne_eqb (n % 4) 3 other)) in
          absurd (omega (arith, count ∙ ap length one))
      | inl end ↦
          let three : last_datagrams s.settings units ≡ own ∷ both =
          ap (λ (l : List (List ℕ)). own ∷ l) (cond-true (n % 4 == 3) both [] (eq-eqb (n % 4) 3 end)) in
          let within : j < 2 = omega (arith, count ∙ ap length three) in
          let four : length block ≡ 4 = length-block units some ∙ omega arith in
          let header : ℕ → ℕ → List ℕ = λ m i. audio_header s.settings (record { parity = true; shard = i; block = m / 4; ssrc = s.settings.ssrc }) in
          let back : suc j - 1 ≡ j = omega arith in
          let later : (suc j == 0) ≡ false = ne_eqb (suc j) 0 (λ e. absurd (omega arith)) in
          let first : AudioHead = record {
            parity = false;
            shard = (s.pushed - 1) % 4;
            block = (s.pushed - 1) / 4;
            ssrc = s.settings.ssrc;
          } in
          let second : AudioHead = record { parity = true; shard = suc j - 1; block = (s.pushed - 1) / 4; ssrc = s.settings.ssrc } in
          let head_is : ready_head s (suc j) ≡ second = cond-false (suc j == 0) first second later in
          let place_is : ready_place s (suc j) ≡ 4 + (suc j - 1) = cond-false (suc j == 0) ((s.pushed - 1) % 4) (4 + (suc j - 1)) later in
          ap (λ (l : List (List ℕ)). slice_get l (suc j)) three
          ∙ at-two parity j within
          ∙ ap (λ (l : List ℕ). Some (header n j ++ l)) (sym (kept-parity s units j has four within))
          ∙ ap (λ (m : ℕ). Some (header m j ++ shard_of size s.shards (4 + j))) last
          ∙ ap (λ (i : ℕ). Some (header (s.pushed - 1) i ++ shard_of size s.shards (4 + i))) (sym back)
          ∙ ap (λ (h : AudioHead). Some (audio_header s.settings h ++ shard_of size s.shards (4 + (suc j - 1)))) (sym head_is)
          ∙ ap (λ (p : ℕ). Some (audio_header s.settings (ready_head s (suc j)) ++ shard_of size s.shards p)) (sym place_is)
    ]
  where
    at-two : (f : ℕ → List ℕ) (i : ℕ) → i < 2 → slice_get (f 0 ∷ f 1 ∷ []) i ≡ Some (f i)
    at-two f zero h = refl
    at-two f (suc zero) h = refl
    at-two f (suc (suc i)) h = absurd (omega arith)

pub ready-is : (s : Sending) (units : List (List ℕ)) (k : ℕ) → HasPushed s units → k < s.ready → length s.shards ≡ 6 * s.settings.audio
    → slice_get (last_datagrams s.settings units) k ≡ Some (ready_bytes s k)
ready-is s units zero has h room = first-ready s units has (some_pushed s units 0 has h) room
ready-is s units (suc j) has h room = parity-ready s units j has h
