-- The units that are played of a sender's datagrams are its units.
use Rattle.std.proofs.Common.{◌≡◌, ◌≢◌, ◌<◌, ◌≤◌, ◌+◌, ◌-◌, ◌*◌, ℕ, zero, suc, true, ◌&&◌, not, List, [], ◌∷◌, ◌++◌, length, get_or, take, drop, map}
use Rattle.std.proofs.Common.{Option, Some, None, inl, inr, refl, sym, ap, subst, ◌∙◌, arith}
use Rattle.std.specs.Prelude.{◌==◌, nat_lt}
use Rattle.std.specs.List.{All, AllPairs, find, slice_get, range_with_len, cons_option}
use Rattle.std.proofs.lemmas.Bool.{cases_Bool, cases_lt, cond_both, eqb-true, ltb-true, and_parts, not-true}
use Rattle.std.proofs.lemmas.Bool.Decides.{Decides-eqb}
use Rattle.std.proofs.lemmas.List.{append-nil, length-drop, length-take-le, length-map, get_or-append_right}
use Rattle.std.proofs.lemmas.List.Elements.{All-nil, All-cons, All-head, All-tail, All-append, All-map, All-take, All-drop, All-contains}
use Rattle.std.proofs.lemmas.List.FromFn.{length-range_with_len, get_or-range_with_len, get_or-map-range_with_len}
use Rattle.std.proofs.lemmas.Map.Made.{IsDistinct-from_AllPairs, is_member-Decides}
use Rattle.std.proofs.lemmas.Map.Steps.{length-le_from_distinct_below}
use Rattle.std.proofs.lemmas.Option.{same_Some, none-some, slice_get-get_or, slice_get_within}
use Rattle.gs_gf256.specs.Field.{IsByte}
use Rattle.gs_rs.specs.Shape.{audio_code}
use Rattle.gs_rs.specs.Shards.{HeldShard, parity_shard, with_parity_shards, block_shard}
use Rattle.gs_rs.specs.ShardLaws.{AreDataShards, AreShardsOf}
use Rattle.gs_rs.proofs.HeldShards.{held_shards_hold, slice_get-append_left, parity_shards, length-with_parity, numbers_apart, find-some}
use Rattle.gs_rs.proofs.Rows.{IsCode-audio}
use Rattle.gs_rtp.specs.Stream.{StreamSettings}
use Rattle.gs_rtp.specs.Audio.{ReadsBackAudio}
use Rattle.gs_rtp.specs.AudioDatagrams.{units_of_block}
use Rattle.gs_audio.specs.Received.{AudioShard, shards_of_block, received_audio, taken_audio}
use Rattle.gs_audio.specs.Played.{PlayedUnit, greatest_block, is_block_left, is_audio_held, is_shard_counted, counting_shards, unit_number, whole_units}
use Rattle.gs_audio.specs.Played.{audio_unit_at, held_units}
use Rattle.gs_audio.specs.Played.{played_of_left, played_of_joined, played_behind, played}
use Rattle.gs_audio.specs.Places.{AreAudioShards}
use Rattle.gs_audio.specs.PlayedLaws.{AreSessionUnits, IsUnitOf, PlayedUnitsWereSent}
use Rattle.gs_bytes.proofs.Lists.{All-filter_map}
use Rattle.gs_audio.proofs.Counting.{of_other, of_same}
use Rattle.gs_audio.proofs.Rooms.{join-are}
use Rattle.gs_audio.proofs.Taken.{newly-by}
use Rattle.gs_audio.proofs.PlayedShards.{IsShardOf, IsTakenOf, within, taken-of}

-- ---- what is played, by what was taken

abbrev pub by_taken : StreamSettings → List AudioShard → List PlayedUnit
by_taken s [] = []
by_taken s (r ∷ rs) = by_taken s rs ++ played_behind s r (greatest_block rs) (counting_shards rs)

pub played-by_taken : (s : StreamSettings) (came : List (List ℕ)) → played s came ≡ by_taken s (taken_audio s came)
unfolding played
played-by_taken s [] = refl
played-by_taken s (bytes ∷ came) = onto (received_audio s bytes) refl (played-by_taken s came) where
  onto : (o : Option AudioShard) → received_audio s bytes ≡ o → played s came ≡ by_taken s (taken_audio s came)
      → played s (bytes ∷ came) ≡ by_taken s (cons_option o (taken_audio s came))
  onto None e before =
      ap (λ (l : List PlayedUnit). played s came ++ l) (newly-by s bytes came None e) ∙ append-nil (played s came) ∙ before
  onto (Some r) e before =
      ap (λ (l : List PlayedUnit). played s came ++ l) (newly-by s bytes came (Some r) e)
      ∙ ap (λ (l : List PlayedUnit). l ++ played_behind s r (greatest_block (taken_audio s came)) (counting_shards (taken_audio s came))) before

-- ---- what counts of a block

-- shards of one block of these units
pub record AreSent (size : ℕ) (units : List (List ℕ)) (block : ℕ) (held : List HeldShard) : Type 0 where
  pub are : AreAudioShards held
  pub sent : All (IsShardOf size units block) held

none-held : (size : ℕ) (units : List (List ℕ)) (block : ℕ) → AreSent size units block []
none-held size units block = record {
  are = record { few = omega arith; indices = All-nil (λ s. s.index < 6); distinct = λ i j d less h. absurd (omega arith) };
  sent = All-nil (IsShardOf size units block);
}

-- one more that counts
one-counts : (size : ℕ) (units : List (List ℕ)) (r : AudioShard) (g : Option ℕ) (held : List HeldShard) → IsTakenOf size units r
    → is_shard_counted r g held ≡ true → AreSent size units r.block held → AreSent size units r.block (r.shard ∷ held)
one-counts size units r g held of counts sent =
    let parts = and_parts (not (is_block_left r.block g) && not (is_audio_held r.shard.index held)) (nat_lt (length held) 4) counts in
    let missing = not-true (is_audio_held r.shard.index held) (and_parts (not (is_block_left r.block g)) (not (is_audio_held r.shard.index held)) parts.0).1 in
    record {
      are = join-are held r.shard sent.are (ltb-true (length held) 4 parts.1) (within size units r.block r.shard of) missing;
      sent = All-cons (IsShardOf size units r.block) r.shard held of sent.sent;
    }

-- those that count of a block
pub counting_shards-sent : (size : ℕ) (units : List (List ℕ)) (rs : List AudioShard) → All (IsTakenOf size units) rs
    → (block : ℕ) → AreSent size units block (shards_of_block block (counting_shards rs))
unfolding counting_shards
counting_shards-sent size units [] of block = none-held size units block
counting_shards-sent size units (r ∷ rs) of block =
    let before = counting_shards-sent size units rs (All-tail (IsTakenOf size units) r rs of) in
    let counts = is_shard_counted r (greatest_block rs) (shards_of_block r.block (counting_shards rs)) in
    let Sent : List AudioShard → Type 0 = λ l. AreSent size units block (shards_of_block block l) in
    cond_both counts (r ∷ counting_shards rs) (counting_shards rs) Sent
    (λ on. elim (cases_Bool (r.block == block)) [
      | inl own ↦
          let same : r.block ≡ block = eqb-true r.block block own in
          let Own : ℕ → Type 0 = λ b. AreSent size units b (shards_of_block b (r ∷ counting_shards rs)) in
          subst Own same
          (subst (AreSent size units r.block) (sym (of_same r (counting_shards rs)))
          (one-counts size units r (greatest_block rs) (shards_of_block r.block (counting_shards rs)) (All-head (IsTakenOf size units) r rs of) on
          (before r.block)))
      | inr other ↦ subst (AreSent size units block) (sym (of_other block r (counting_shards rs) other)) (before block)
    ])
    (λ off. before block)

-- ---- a whole block

-- numbers below n, no two of them the same, are no more than n
few-below : (n : ℕ) (numbers : List ℕ) → AllPairs (λ a b. a ≢ b) numbers → All (λ a. a < n) numbers → length numbers ≤ n
few-below n numbers apart below =
    length-le_from_distinct_below numbers n (IsDistinct-from_AllPairs Decides-eqb numbers apart)
    (λ q among. All-contains (λ a. a < n) numbers q below ((is_member-Decides Decides-eqb numbers q).0 among))

-- of a block that isn't whole no four shards are held
pub four-are_whole : (size : ℕ) (units : List (List ℕ)) (block : ℕ) (held : List HeldShard) → AreSent size units block held → length held ≡ 4
    → block * 4 + 4 ≤ length units
four-are_whole size units block held sent four = elim (cases_lt (length units) (block * 4 + 4)) [
  | inr whole ↦ whole
  | inl short ↦
      let number : HeldShard → ℕ = λ s. s.index in
      let low : All (λ s. s.index < 3) held = λ k d h. elim (sent.sent k d h) [
        | inl unit ↦
            let s = get_or held k d in
            let among = unit.among in
            let there = slice_get_within units (block * 4 + s.index) s.bytes unit.is in
            omega (arith, among, there)
        | inr parity ↦ let whole = parity.whole in absurd (omega (arith, whole))
      ] in
      let few = few-below 3 (map number held) (numbers_apart number held sent.are.distinct) (All-map (λ n. n < 3) number held low) in
      absurd (omega (arith, few, length-map held number))
]

-- a member of a part of a list
slice_get-take : {X : Type 0} (n : ℕ) (xs : List X) (i : ℕ) → i < n → slice_get (take n xs) i ≡ slice_get xs i
slice_get-take zero xs i h = absurd (omega arith)
slice_get-take (suc n) [] i h = refl
slice_get-take (suc n) (x ∷ xs) zero h = refl
slice_get-take (suc n) (x ∷ xs) (suc i) h = slice_get-take n xs i (omega arith)

slice_get-drop : {X : Type 0} (m : ℕ) (xs : List X) (i : ℕ) → slice_get (drop m xs) i ≡ slice_get xs (m + i)
slice_get-drop zero xs i = ap (slice_get xs) (omega arith)
slice_get-drop (suc m) [] i = refl
slice_get-drop (suc m) (x ∷ xs) i =
    let more : suc m + i ≡ suc (m + i) = omega arith in
    slice_get-drop m xs i ∙ sym (ap (slice_get (x ∷ xs)) more)

-- the units of a block are those of their numbers
in-block : (units : List (List ℕ)) (block i : ℕ) → i < 4 → slice_get (units_of_block units block) i ≡ slice_get units (block * 4 + i)
in-block units block i h = slice_get-take 4 (drop (block * 4) units) i h ∙ slice_get-drop (block * 4) units i

-- a parity shard is where it is
at-parity : (size : ℕ) (block : List (List ℕ)) (j : ℕ) → length block ≡ 4 → 4 ≤ j → j < 6
    → slice_get (with_parity_shards audio_code size block) j ≡ Some (parity_shard audio_code size block (j - 4))
at-parity size block j four least most =
    let all = with_parity_shards audio_code size block in
    let count : length all ≡ 6 = length-with_parity audio_code size block four in
    let there : get_or all j [] ≡ parity_shard audio_code size block (j - 4) =
    get_or-append_right block (parity_shards audio_code size block) 4 j [] four least
    ∙ get_or-map-range_with_len (parity_shard audio_code size block) 0 2 (j - 4) (j - 4) [] (omega arith) (omega arith) in
    slice_get-get_or all j [] (omega arith) ∙ ap (λ (shard : List ℕ). Some shard) there

-- each unit of a block of which four shards are held
whole-unit : (settings : StreamSettings) (units : List (List ℕ)) (block : ℕ) (held : List HeldShard) → AreSessionUnits settings units
    → AreSent settings.audio units block held → length held ≡ 4 → (i : ℕ) → i < 4
    → slice_get units (unit_number block i) ≡ Some (block_shard audio_code settings.audio held i)
whole-unit settings units block held are sent four i h =
    let size = settings.audio in
    let own = units_of_block units block in
    let whole = four-are_whole size units block held sent four in
    let count : length own ≡ 4 = length-take-le 4 (drop (block * 4) units) (omega (arith, whole, length-drop (block * 4) units)) in
    let shards : AreDataShards audio_code size own = record {
      count = count;
      sizes = All-take (λ unit. length unit ≡ size) 4 (drop (block * 4) units) (All-drop (λ unit. length unit ≡ size) (block * 4) units are.sizes);
      bytes = All-take (All IsByte) 4 (drop (block * 4) units) (All-drop (All IsByte) (block * 4) units are.bytes);
    } in
    let held_are : AreShardsOf audio_code size own held = record {
      count = four;
      distinct = sent.are.distinct;
      are = λ k d h'.
          let s = get_or held k d in
          elim (sent.sent k d h') [
            | inl unit ↦
                let among : s.index < 4 = unit.among in
                slice_get-append_left own (parity_shards audio_code size own) s.index (omega (arith, among, count))
                ∙ in-block units block s.index among ∙ unit.is
            | inr parity ↦ at-parity size own s.index count parity.least parity.greatest ∙ ap (λ (b : List ℕ). Some b) (sym parity.is)
          ];
    } in
    sym (in-block units block i h) ∙ held_shards_hold audio_code size own held (inl IsCode-audio) shards held_are i h

whole-sent : (settings : StreamSettings) (units : List (List ℕ)) (block : ℕ) (held : List HeldShard) → AreSessionUnits settings units
    → AreSent settings.audio units block held → length held ≡ 4 → All (IsUnitOf units) (whole_units settings.audio block held)
whole-sent settings units block held are sent four =
    let unit : ℕ → PlayedUnit = λ i. record { number = unit_number block i; bytes = block_shard audio_code settings.audio held i } in
    All-map (IsUnitOf units) unit (range_with_len 0 4) (λ k d h.
    let i = get_or (range_with_len 0 4) k d in
    let low : k < 4 = omega (arith, h, length-range_with_len 0 4) in
    let is = get_or-range_with_len 0 4 k d low in
    whole-unit settings units block held are sent four i (omega (arith, is, low)))

-- ---- a block that is left

-- each unit that is held
held-unit : (size : ℕ) (units : List (List ℕ)) (block : ℕ) (held : List HeldShard) → All (IsShardOf size units block) held → (i : ℕ) → i < 4
    → (o : Option HeldShard) → find (λ s. s.index == i) held ≡ o → (p : PlayedUnit) → audio_unit_at block i o ≡ Some p → IsUnitOf units p
held-unit size units block held sent i h None e p is = absurd (none-some p is)
held-unit size units block held sent i h (Some s) e p is =
    let found = find-some (λ (t : HeldShard). t.index == i) (IsShardOf size units block) held s sent e in
    let at : s.index ≡ i = eqb-true s.index i found.0 in
    let this : PlayedUnit = record { number = unit_number block i; bytes = s.bytes } in
    subst (IsUnitOf units) (same_Some this p is) (elim found.1 [
      | inl unit ↦ ap (λ (n : ℕ). slice_get units (block * 4 + n)) (sym at) ∙ unit.is
      | inr parity ↦ let least = parity.least in absurd (omega (arith, least, at, h))
    ])

held-sent : (size : ℕ) (units : List (List ℕ)) (block : ℕ) (held : List HeldShard) → All (IsShardOf size units block) held
    → All (IsUnitOf units) (held_units block held)
held-sent size units block held sent =
    All-filter_map (λ i. audio_unit_at block i (find (λ s. s.index == i) held)) (IsUnitOf units) (range_with_len 0 4) (λ k d h p.
    let i = get_or (range_with_len 0 4) k d in
    let low : k < 4 = omega (arith, h, length-range_with_len 0 4) in
    let is = get_or-range_with_len 0 4 k d low in
    held-unit size units block held sent i (omega (arith, is, low)) (find (λ s. s.index == i) held) refl p)

-- ---- the law

behind-sent : (s : StreamSettings) (units : List (List ℕ)) (r : AudioShard) (rs : List AudioShard) (g : Option ℕ) → AreSessionUnits s units
    → All (IsTakenOf s.audio units) rs → IsTakenOf s.audio units r → All (IsUnitOf units) (played_behind s r g (counting_shards rs))
behind-sent s units r rs None are before of = All-nil (IsUnitOf units)
behind-sent s units r rs (Some g) are before of =
    let sent = counting_shards-sent s.audio units rs before in
    let left = shards_of_block g (counting_shards rs) in
    let held = shards_of_block r.block (counting_shards rs) in
    let all = r.shard ∷ held in
    let counts = is_shard_counted r (Some g) held in
    let none = All-nil (IsUnitOf units) in
    cond_both (nat_lt g r.block) (played_of_left g left) (played_of_joined s r (Some g) held) (All (IsUnitOf units))
    (λ above. cond_both (nat_lt (length left) 4) (held_units g left) [] (All (IsUnitOf units))
    (λ few. held-sent s.audio units g left (sent g).sent) (λ full. none))
    (λ other. cond_both (counts && length all == 4) (whole_units s.audio r.block all) [] (All (IsUnitOf units))
    (λ on.
    let parts = and_parts counts (length all == 4) on in
    whole-sent s units r.block all are (one-counts s.audio units r (Some g) held of parts.0 (sent r.block)) (eqb-true (length all) 4 parts.1))
    (λ off. none))

by_taken-sent : (s : StreamSettings) (units : List (List ℕ)) (rs : List AudioShard) → AreSessionUnits s units → All (IsTakenOf s.audio units) rs
    → All (IsUnitOf units) (by_taken s rs)
by_taken-sent s units [] are of = All-nil (IsUnitOf units)
by_taken-sent s units (r ∷ rs) are of =
    let before = All-tail (IsTakenOf s.audio units) r rs of in
    All-append (IsUnitOf units) (by_taken s rs) (played_behind s r (greatest_block rs) (counting_shards rs)) (by_taken-sent s units rs are before)
    (behind-sent s units r rs (greatest_block rs) are before (All-head (IsTakenOf s.audio units) r rs of))

-- by the law of gs_rtp that what is written of a head is read as that head
pub played-were_sent : ReadsBackAudio → PlayedUnitsWereSent
played-were_sent reads s units came limits are of =
    subst (All (IsUnitOf units)) (sym (played-by_taken s came))
    (by_taken-sent s units (taken_audio s came) are (taken-of reads s units came limits are of))
