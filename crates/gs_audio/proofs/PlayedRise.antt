-- The numbers of the units that are played rise.
use Rattle.std.proofs.Common.{◌≡◌, ◌<◌, ◌≤◌, ◌+◌, ◌*◌, ℕ, zero, suc, Bool, true, false, ◌&&◌, not, List, [], ◌∷◌, ◌++◌, length, map, Option, Some, None, inl}
use Rattle.std.proofs.Common.{inr, refl, sym, ap, subst, ◌∙◌, arith}
use Rattle.std.specs.Prelude.{◌==◌, nat_lt}
use Rattle.std.specs.List.{All, find, range_with_len, filter_map, cons_option}
use Rattle.std.proofs.lemmas.Bool.{cases_Bool, cases_lt, cond-true, cond-false, eqb-true, ltb-true, ltb-false, lt-ltb, le-ltb, and_parts, and_left, and_right}
use Rattle.std.proofs.lemmas.Bool.{and_from, not-true}
use Rattle.std.proofs.lemmas.List.{append-nil}
use Rattle.std.proofs.lemmas.List.Elements.{All-nil, All-cons, All-head, All-tail, All-append, All-weaker}
use Rattle.std.proofs.lemmas.List.Kept.{AllPairs-cons}
use Rattle.std.proofs.lemmas.Option.{same_Some, none-some}
use Rattle.gs_rs.specs.Shape.{audio_code}
use Rattle.gs_rs.specs.Shards.{HeldShard, block_shard}
use Rattle.gs_rtp.specs.Stream.{StreamSettings}
use Rattle.gs_audio.specs.Received.{AudioShard, shards_of_block, taken_audio}
use Rattle.gs_audio.specs.Played.{PlayedUnit, greater_block, greatest_block, is_audio_held, is_shard_counted, counting_shards, unit_number, whole_units}
use Rattle.gs_audio.specs.Played.{audio_unit_at, held_units}
use Rattle.gs_audio.specs.Played.{played_of_left, played_of_joined, played_behind}
use Rattle.gs_audio.specs.PlayedLaws.{HaveRisingNumbers, PlayedUnitsRise}
use Rattle.gs_audio.proofs.Counting.{greatest-within, of_same, counting_shards-more, counting_shards-same}
use Rattle.gs_audio.proofs.PlayedSent.{by_taken, played-by_taken}

-- ---- lists of units

abbrev pub AreBelow : ℕ → List PlayedUnit → Type 0
AreBelow n units = All (λ p. p.number < n) units

abbrev pub AreFrom : ℕ → List PlayedUnit → Type 0
AreFrom n units = All (λ p. n ≤ p.number) units

-- rising numbers from one up to another
pub record RisesWithin (from to : ℕ) (units : List PlayedUnit) : Type 0 where
  pub rises : HaveRisingNumbers units
  pub from_least : AreFrom from units
  pub below : AreBelow to units

none-rises : (from to : ℕ) → RisesWithin from to []
none-rises from to = record {
  rises = λ i j d less h. absurd (omega arith);
  from_least = All-nil (λ p. from ≤ p.number);
  below = All-nil (λ p. p.number < to);
}

-- the one and then the other
behind-rises : (n : ℕ) (xs ys : List PlayedUnit) → HaveRisingNumbers xs → AreBelow n xs → HaveRisingNumbers ys → AreFrom n ys → HaveRisingNumbers (xs ++ ys)
behind-rises n [] ys rx bx ry fy = ry
behind-rises n (x ∷ xs) ys rx bx ry fy =
    let low : x.number < n = All-head (λ p. p.number < n) x xs bx in
    let After : PlayedUnit → Type 0 = λ q. x.number < q.number in
    AllPairs-cons (λ p q. p.number < q.number) x (xs ++ ys)
    (All-append After xs ys (λ k d h. rx 0 (suc k) d (omega arith) (omega arith))
    (All-weaker (λ q. n ≤ q.number) After (λ q least. omega (arith, low, least)) ys fy))
    (behind-rises n xs ys (λ i j d less h. rx (suc i) (suc j) d (omega arith) (omega arith)) (All-tail (λ p. p.number < n) x xs bx) ry fy)

-- one in front of those from the next number on
first-rises : (n to : ℕ) (x : PlayedUnit) (xs : List PlayedUnit) → x.number ≡ n → n < to → RisesWithin (n + 1) to xs → RisesWithin n to (x ∷ xs)
first-rises n to x xs is low rest = record {
  rises = AllPairs-cons (λ p q. p.number < q.number) x xs
      (All-weaker (λ q. n + 1 ≤ q.number) (λ q. x.number < q.number) (λ q least. omega (arith, is, least)) xs rest.from_least) rest.rises;
  from_least = All-cons (λ p. n ≤ p.number) x xs (omega (arith, is))
      (All-weaker (λ q. n + 1 ≤ q.number) (λ q. n ≤ q.number) (λ q least. omega (arith, least)) xs rest.from_least);
  below = All-cons (λ p. p.number < to) x xs (omega (arith, is)) rest.below;
}

-- units that are numbered by their places, where one is there
numbered-rise : (f : ℕ → Option PlayedUnit) (base a n to : ℕ) → ((i : ℕ) (p : PlayedUnit) → f i ≡ Some p → p.number ≡ base + i) → base + (a + n) ≡ to
    → RisesWithin (base + a) to (filter_map f (range_with_len a n))
numbered-rise f base a zero to numbers at = none-rises (base + a) to
numbered-rise f base a (suc n) to numbers at = onto (f a) refl (numbered-rise f base (a + 1) n to numbers (omega (arith, at))) where
  onto : (o : Option PlayedUnit) → f a ≡ o → RisesWithin (base + (a + 1)) to (filter_map f (range_with_len (a + 1) n))
      → RisesWithin (base + a) to (cons_option o (filter_map f (range_with_len (a + 1) n)))
  onto None e rest = record {
    rises = rest.rises;
    from_least = All-weaker (λ q. base + (a + 1) ≤ q.number) (λ q. base + a ≤ q.number) (λ q least. omega (arith, least))
        (filter_map f (range_with_len (a + 1) n)) rest.from_least;
    below = rest.below;
  }
  onto (Some x) e rest =
      let next : base + (a + 1) ≡ base + a + 1 = omega arith in
      first-rises (base + a) to x (filter_map f (range_with_len (a + 1) n)) (numbers a x e) (omega (arith, at))
      (subst (λ (m : ℕ). RisesWithin m to (filter_map f (range_with_len (a + 1) n))) next rest)

map-as-filter : (f : ℕ → PlayedUnit) (xs : List ℕ) → map f xs ≡ filter_map (λ i. Some (f i)) xs
map-as-filter f [] = refl
map-as-filter f (x ∷ xs) = ap (λ (l : List PlayedUnit). f x ∷ l) (map-as-filter f xs)

whole-rises : (size block : ℕ) (held : List HeldShard) → RisesWithin (block * 4) (block * 4 + 4) (whole_units size block held)
whole-rises size block held =
    let unit : ℕ → PlayedUnit = λ i. record { number = unit_number block i; bytes = block_shard audio_code size held i } in
    let Rises : ℕ → List PlayedUnit → Type 0 = λ n units. RisesWithin n (block * 4 + 4) units in
    let start : block * 4 + 0 ≡ block * 4 = omega arith in
    subst (λ (n : ℕ). Rises n (whole_units size block held)) start
    (subst (Rises (block * 4 + 0)) (sym (map-as-filter unit (range_with_len 0 4)))
    (numbered-rise (λ i. Some (unit i)) (block * 4) 0 4 (block * 4 + 4)
    (λ i p e. ap (λ (q : PlayedUnit). q.number) (sym (same_Some (unit i) p e))) refl))

held-number : (block i : ℕ) (o : Option HeldShard) (p : PlayedUnit) → audio_unit_at block i o ≡ Some p → p.number ≡ block * 4 + i
held-number block i None p e = absurd (none-some p e)
held-number block i (Some s) p e =
    let this : PlayedUnit = record { number = unit_number block i; bytes = s.bytes } in
    ap (λ (q : PlayedUnit). q.number) (sym (same_Some this p e))

held-rises : (block : ℕ) (held : List HeldShard) → RisesWithin (block * 4) (block * 4 + 4) (held_units block held)
held-rises block held =
    let start : block * 4 + 0 ≡ block * 4 = omega arith in
    subst (λ (n : ℕ). RisesWithin n (block * 4 + 4) (held_units block held)) start
    (numbered-rise (λ i. audio_unit_at block i (find (λ s. s.index == i) held)) (block * 4) 0 4 (block * 4 + 4)
    (λ i p e. held-number block i (find (λ s. s.index == i) held) p e) refl)

-- ---- one more shard

-- What was played behind these shards, of which `greatest` is the greatest block: nothing of it while it isn't fixed.
pub record IsPlayed (s : StreamSettings) (rs : List AudioShard) (greatest : ℕ) : Type 0 where
  pub rises : HaveRisingNumbers (by_taken s rs)
  pub below : AreBelow (greatest * 4 + 4) (by_taken s rs)
  pub short : length (shards_of_block greatest (counting_shards rs)) < 4 → AreBelow (greatest * 4) (by_taken s rs)

lower-below : (m n : ℕ) (units : List PlayedUnit) → m ≤ n → AreBelow m units → AreBelow n units
lower-below m n units less below = All-weaker (λ p. p.number < m) (λ p. p.number < n) (λ p low. omega (arith, less, low)) units below

-- all of it is below the block that is now the greatest
fresh : (s : StreamSettings) (rs : List AudioShard) (greatest : ℕ) → HaveRisingNumbers (by_taken s rs) → AreBelow (greatest * 4) (by_taken s rs)
    → IsPlayed s rs greatest
fresh s rs greatest rises below = record {
  rises = rises;
  below = lower-below (greatest * 4) (greatest * 4 + 4) (by_taken s rs) (omega arith) below;
  short = λ few. below;
}

-- a greater block
above-played : (s : StreamSettings) (r : AudioShard) (rs : List AudioShard) (g : ℕ) → greatest_block rs ≡ Some g → g < r.block → IsPlayed s rs g
    → IsPlayed s (r ∷ rs) r.block
above-played s r rs g e less is =
    let left = shards_of_block g (counting_shards rs) in
    let units = played_of_left g left in
    let joined = played_of_joined s r (Some g) (shards_of_block r.block (counting_shards rs)) in
    let more : by_taken s (r ∷ rs) ≡ by_taken s rs ++ units =
    ap (λ (o : Option ℕ). by_taken s rs ++ played_behind s r o (counting_shards rs)) e
    ∙ ap (λ (l : List PlayedUnit). by_taken s rs ++ l) (cond-true (nat_lt g r.block) units joined (lt-ltb g r.block less)) in
    let Goal : List PlayedUnit → Type 0 = λ l. HaveRisingNumbers l × AreBelow (r.block * 4) l in
    let done : Goal (by_taken s rs ++ units) = elim (cases_lt (length left) 4) [
      | inl few ↦
          let held = held-rises g left in
          let before : AreBelow (g * 4) (by_taken s rs) = is.short few in
          let plays : units ≡ held_units g left = cond-true (nat_lt (length left) 4) (held_units g left) [] (lt-ltb (length left) 4 few) in
          subst (λ (l : List PlayedUnit). Goal (by_taken s rs ++ l)) (sym plays) (
            behind-rises (g * 4) (by_taken s rs) (held_units g left) is.rises before held.rises held.from_least,
            All-append (λ p. p.number < r.block * 4) (by_taken s rs) (held_units g left)
                (lower-below (g * 4) (r.block * 4) (by_taken s rs) (omega (arith, less)) before)
                (lower-below (g * 4 + 4) (r.block * 4) (held_units g left) (omega (arith, less)) held.below),
          )
      | inr full ↦
          let plays : units ≡ [] = cond-false (nat_lt (length left) 4) (held_units g left) [] (le-ltb (length left) 4 full) in
          subst Goal (sym (ap (λ (l : List PlayedUnit). by_taken s rs ++ l) plays ∙ append-nil (by_taken s rs))) (
            is.rises,
            lower-below (g * 4 + 4) (r.block * 4) (by_taken s rs) (omega (arith, less)) is.below,
          )
    ] in
    let all : Goal (by_taken s (r ∷ rs)) = subst Goal (sym more) done in
    fresh s (r ∷ rs) r.block all.0 all.1

-- one that plays nothing
still : (s : StreamSettings) (r : AudioShard) (rs : List AudioShard) (g : ℕ) → by_taken s (r ∷ rs) ≡ by_taken s rs
    → (length (shards_of_block g (counting_shards (r ∷ rs))) < 4 → length (shards_of_block g (counting_shards rs)) < 4) → IsPlayed s rs g
    → IsPlayed s (r ∷ rs) g
still s r rs g same short is = record {
  rises = subst HaveRisingNumbers (sym same) is.rises;
  below = subst (AreBelow (g * 4 + 4)) (sym same) is.below;
  short = λ few. subst (AreBelow (g * 4)) (sym same) (is.short (short few));
}

-- one that counts is of the greatest block
counts-there : (r : AudioShard) (g : ℕ) (held : List HeldShard) → r.block ≤ g → is_shard_counted r (Some g) held ≡ true → (r.block ≡ g) × (length held < 4)
counts-there r g held within counts =
    let parts = and_parts (not (nat_lt r.block g) && not (is_audio_held r.shard.index held)) (nat_lt (length held) 4) counts in
    let least = ltb-false r.block g (not-true (nat_lt r.block g) (and_parts (not (nat_lt r.block g)) (not (is_audio_held r.shard.index held)) parts.0).0) in
    (omega (arith, least, within), ltb-true (length held) 4 parts.1)

-- a block that isn't greater
within-played : (s : StreamSettings) (r : AudioShard) (rs : List AudioShard) (g : ℕ) → greatest_block rs ≡ Some g → r.block ≤ g → IsPlayed s rs g
    → IsPlayed s (r ∷ rs) g
within-played s r rs g e within is =
    let held = shards_of_block r.block (counting_shards rs) in
    let all = r.shard ∷ held in
    let counts = is_shard_counted r (Some g) held in
    let four = length all == 4 in
    let whole = whole_units s.audio r.block all in
    let Counts : Option ℕ → Bool → Type 0 = λ o b. is_shard_counted r o held ≡ b in
    let more : by_taken s (r ∷ rs) ≡ by_taken s rs ++ played_of_joined s r (Some g) held =
    ap (λ (o : Option ℕ). by_taken s rs ++ played_behind s r o (counting_shards rs)) e
    ∙ ap (λ (l : List PlayedUnit). by_taken s rs ++ l)
    (cond-false (nat_lt g r.block) (played_of_left g (shards_of_block g (counting_shards rs))) (played_of_joined s r (Some g) held)
    (le-ltb g r.block within)) in
    let none : (counts && four) ≡ false → by_taken s (r ∷ rs) ≡ by_taken s rs =
    λ off. more ∙ ap (λ (l : List PlayedUnit). by_taken s rs ++ l) (cond-false (counts && four) whole [] off) ∙ append-nil (by_taken s rs) in
    elim (cases_Bool counts) [
      | inr off ↦
          let same : counting_shards (r ∷ rs) ≡ counting_shards rs = counting_shards-same r rs (subst (λ (o : Option ℕ). Counts o false) (sym e) off) in
          still s r rs g (none (and_left counts four off))
          (subst (λ (l : List AudioShard). length (shards_of_block g l) < 4 → length (shards_of_block g (counting_shards rs)) < 4) (sym same) (λ few. few)) is
      | inl on ↦
          let there = counts-there r g held within on in
          let now : counting_shards (r ∷ rs) ≡ r ∷ counting_shards rs = counting_shards-more r rs (subst (λ (o : Option ℕ). Counts o true) (sym e) on) in
          let alone : shards_of_block r.block (counting_shards (r ∷ rs)) ≡ all = ap (shards_of_block r.block) now ∙ of_same r (counting_shards rs) in
          let few : length (shards_of_block g (counting_shards rs)) < 4 = subst
          (λ (b : ℕ). length (shards_of_block b (counting_shards rs)) < 4) there.0 there.1 in
          elim (cases_Bool four) [
            | inr part ↦ still s r rs g (none (and_right counts four part)) (λ h. few) is
            | inl full ↦
                let rise = whole-rises s.audio r.block all in
                let plays : by_taken s (r ∷ rs) ≡ by_taken s rs ++ whole =
                more ∙ ap (λ (l : List PlayedUnit). by_taken s rs ++ l) (cond-true (counts && four) whole [] (and_from counts four on full)) in
                let block : r.block ≡ g = there.0 in
                let before : AreBelow (g * 4) (by_taken s rs) = is.short few in
                let start : r.block * 4 ≡ g * 4 = omega (arith, block) in
                let end : r.block * 4 + 4 ≡ g * 4 + 4 = omega (arith, block) in
                let from_least : AreFrom (g * 4) whole = subst (λ (n : ℕ). AreFrom n whole) start rise.from_least in
                let below : AreBelow (g * 4 + 4) whole = subst (λ (n : ℕ). AreBelow n whole) end rise.below in
                record {
                  rises = subst HaveRisingNumbers (sym plays) (behind-rises (g * 4) (by_taken s rs) whole is.rises before rise.rises from_least);
                  below = subst (AreBelow (g * 4 + 4)) (sym plays)
                      (All-append (λ p. p.number < g * 4 + 4) (by_taken s rs) whole
                      (lower-below (g * 4) (g * 4 + 4) (by_taken s rs) (omega arith) before) below);
                  short = λ h.
                      let count : length (shards_of_block g (counting_shards (r ∷ rs))) ≡ length all =
                      ap (λ (b : ℕ). length (shards_of_block b (counting_shards (r ∷ rs)))) (sym block) ∙ ap (λ (l : List HeldShard). length l) alone in
                      absurd (omega (arith, h, count, eqb-true (length all) 4 full));
                }
          ]
    ]

-- ---- the law

all-played : (s : StreamSettings) (rs : List AudioShard) (g : ℕ) → greatest_block rs ≡ Some g → IsPlayed s rs g
all-played s [] g e = absurd (none-some g e)
all-played s (r ∷ []) g e = fresh s (r ∷ []) g (none-rises 0 0).rises (none-rises 0 (g * 4)).below
all-played s (r ∷ x ∷ xs) g e =
    let before = greater_block x.block (greatest_block xs) in
    let is = all-played s (x ∷ xs) before refl in
    let Played : ℕ → Type 0 = λ n. IsPlayed s (r ∷ x ∷ xs) n in
    elim (cases_lt before r.block) [
      | inl above ↦
          subst Played (same_Some r.block g (ap (λ (n : ℕ). Some n) (sym (cond-true (nat_lt before r.block) r.block before (lt-ltb before r.block above))) ∙ e))
          (above-played s r (x ∷ xs) before refl above is)
      | inr within ↦ subst Played (same_Some before g (ap (λ (n : ℕ). Some n) (sym (greatest-within r.block before within)) ∙ e))
          (within-played s r (x ∷ xs) before refl within is)
    ]

taken-rise : (s : StreamSettings) (rs : List AudioShard) → HaveRisingNumbers (by_taken s rs)
taken-rise s [] = (none-rises 0 0).rises
taken-rise s (r ∷ rs) = (all-played s (r ∷ rs) (greater_block r.block (greatest_block rs)) refl).rises

pub played-rise : PlayedUnitsRise
played-rise s came = subst HaveRisingNumbers (sym (played-by_taken s came)) (taken-rise s (taken_audio s came))
