-- What counts with one more shard taken, and what it plays.
use Rattle.std.proofs.Common.{◌≡◌, ◌<◌, ◌≤◌, ◌+◌, ◌*◌, ℕ, Bool, true, false, ◌&&◌, not, cond, List, [], ◌∷◌, length, map, Option, Some, None, refl, sym, ap}
use Rattle.std.proofs.Common.{subst, ◌∙◌, arith, inl, inr}
use Rattle.std.specs.Prelude.{◌==◌, nat_lt}
use Rattle.std.specs.List.{filter}
use Rattle.std.proofs.lemmas.Bool.{cases_lt, cond-true, cond-false, eq-eqb, ne_eqb, lt-ltb, le-ltb, ltb-true, eqb-true, and_left, and_parts, not-true}
use Rattle.std.proofs.lemmas.Option.{same_Some}
use Rattle.gs_rs.specs.Shards.{HeldShard}
use Rattle.gs_rtp.specs.Stream.{StreamSettings, numbers_of}
use Rattle.gs_audio.specs.declared.queue.AudioQueue.{AudioQueue}
use Rattle.gs_audio.specs.declared.queue.Plays.{Plays}
use Rattle.gs_audio.specs.declared.queue.Plays.TheVariants.{Nothing, Left, Whole}
use Rattle.gs_audio.specs.declared.room.Room.{Room}
use Rattle.gs_audio.specs.Received.{AudioShard, shards_of_block}
use Rattle.gs_audio.specs.Played.{PlayedUnit, greater_block, greatest_block, is_block_left, is_audio_held, is_shard_counted, counting_shards, held_units}
use Rattle.gs_audio.specs.Played.{whole_units, played_of_left}
use Rattle.gs_audio.specs.Played.{played_of_joined, played_behind}
use Rattle.gs_audio.specs.Holding.{HoldsAudioShards, room_units}
use Rattle.gs_audio.specs.Standing.{IsAudioStanding, AreUnitsIn, PlaysUnits, left_plays}
use Rattle.gs_audio.specs.Steps.{is_above, TakesShard}

-- ---- the greatest block

-- above the greater of two is above both
above-parts : (block x : ℕ) (g : Option ℕ) → is_above block (Some (greater_block x g)) ≡ true → (x < block) × (is_above block g ≡ true)
above-parts block x None above = (ltb-true x block above, refl)
above-parts block x (Some g) above = elim (cases_lt g x) [
  | inl less ↦
      let same : greater_block x (Some g) ≡ x = cond-true (nat_lt g x) x g (lt-ltb g x less) in
      let below : x < block = ltb-true x block (ap (λ (n : ℕ). nat_lt n block) (sym same) ∙ above) in
      (below, lt-ltb g block (omega arith))
  | inr more ↦
      let same : greater_block x (Some g) ≡ g = cond-false (nat_lt g x) x g (le-ltb g x more) in
      let below : g < block = ltb-true g block (ap (λ (n : ℕ). nat_lt n block) (sym same) ∙ above) in
      (omega arith, lt-ltb g block below)
]

pub greatest-above : (x : ℕ) (g : Option ℕ) → is_above x g ≡ true → greater_block x g ≡ x
greatest-above x None above = refl
greatest-above x (Some g) above = cond-true (nat_lt g x) x g above

pub greatest-within : (x g : ℕ) → x ≤ g → greater_block x (Some g) ≡ g
greatest-within x g within = cond-false (nat_lt g x) x g (le-ltb g x within)

-- a block above the greatest isn't left
not_left : (x : ℕ) (g : Option ℕ) → is_above x g ≡ true → is_block_left x g ≡ false
not_left x None above = refl
not_left x (Some g) above = let below : g < x = ltb-true g x above in le-ltb x g (omega arith)

-- ---- shards of a block

pub of_other : (block : ℕ) (r : AudioShard) (rs : List AudioShard) → (r.block == block) ≡ false → shards_of_block block (r ∷ rs) ≡ shards_of_block block rs
of_other block r rs other =
    ap (λ (l : List AudioShard). map (λ (t : AudioShard). t.shard) l)
    (cond-false (r.block == block) (r ∷ filter (λ t. t.block == block) rs) (filter (λ t. t.block == block) rs) other)

pub of_same : (r : AudioShard) (rs : List AudioShard) → shards_of_block r.block (r ∷ rs) ≡ r.shard ∷ shards_of_block r.block rs
of_same r rs =
    ap (λ (l : List AudioShard). map (λ (t : AudioShard). t.shard) l)
    (cond-true (r.block == r.block) (r ∷ filter (λ t. t.block == r.block) rs) (filter (λ t. t.block == r.block) rs) (eq-eqb r.block r.block refl))

of_either : (block : ℕ) (r : AudioShard) (counts : Bool) (rs : List AudioShard) → (r.block == block) ≡ false
    → shards_of_block block (cond counts (r ∷ rs) rs) ≡ shards_of_block block rs
of_either block r true rs other = of_other block r rs other
of_either block r false rs other = refl

-- none counts of a block above all of them
none_above : (block : ℕ) (rs : List AudioShard) → is_above block (greatest_block rs) ≡ true → shards_of_block block (counting_shards rs) ≡ []
unfolding counting_shards
none_above block [] above = refl
none_above block (r ∷ rs) above =
    let parts = above-parts block r.block (greatest_block rs) above in
    let other : (r.block == block) ≡ false = ne_eqb r.block block (λ e. omega (arith, parts.0)) in
    of_either block r (is_shard_counted r (greatest_block rs) (shards_of_block r.block (counting_shards rs))) (counting_shards rs) other
    ∙ none_above block rs parts.1

-- ---- what counts

pub counting_shards-more : (r : AudioShard) (rs : List AudioShard)
    → is_shard_counted r (greatest_block rs) (shards_of_block r.block (counting_shards rs)) ≡ true
    → counting_shards (r ∷ rs) ≡ r ∷ counting_shards rs
unfolding counting_shards
counting_shards-more r rs counts =
    cond-true (is_shard_counted r (greatest_block rs) (shards_of_block r.block (counting_shards rs))) (r ∷ counting_shards rs) (counting_shards rs) counts

pub counting_shards-same : (r : AudioShard) (rs : List AudioShard)
    → is_shard_counted r (greatest_block rs) (shards_of_block r.block (counting_shards rs)) ≡ false
    → counting_shards (r ∷ rs) ≡ counting_shards rs
unfolding counting_shards
counting_shards-same r rs not_counted =
    cond-false (is_shard_counted r (greatest_block rs) (shards_of_block r.block (counting_shards rs))) (r ∷ counting_shards rs) (counting_shards rs) not_counted

-- the first of a greater block
first_counts : (r : AudioShard) (rs : List AudioShard) → is_above r.block (greatest_block rs) ≡ true
    → is_shard_counted r (greatest_block rs) (shards_of_block r.block (counting_shards rs)) ≡ true
first_counts r rs above =
    ap (λ (held : List HeldShard). is_shard_counted r (greatest_block rs) held) (none_above r.block rs above)
    ∙ ap (λ (b : Bool). not b && true && true) (not_left r.block (greatest_block rs) above)

-- its block holds it alone
first_alone : (r : AudioShard) (rs : List AudioShard) → is_above r.block (greatest_block rs) ≡ true
    → shards_of_block r.block (counting_shards (r ∷ rs)) ≡ r.shard ∷ []
first_alone r rs above =
    ap (shards_of_block r.block) (counting_shards-more r rs (first_counts r rs above))
    ∙ of_same r (counting_shards rs)
    ∙ ap (λ (l : List HeldShard). r.shard ∷ l) (none_above r.block rs above)

-- ---- a greater block

-- the queue stands for it too
pub advance-stands : (before after : AudioQueue) (s : StreamSettings) (rs : List AudioShard) (r : AudioShard) → IsAudioStanding before s rs
    → is_above r.block (greatest_block rs) ≡ true → after.settings ≡ before.settings → after.block ≡ Some r.block
    → HoldsAudioShards after.current (r.shard ∷ []) → IsAudioStanding after s (r ∷ rs)
advance-stands before after s rs r stands above settings block holds =
    let greatest : greatest_block (r ∷ rs) ≡ Some r.block = ap (λ (n : ℕ). Some n) (greatest-above r.block (greatest_block rs) above) in
    let Holds : List HeldShard → Type 0 = λ held. HoldsAudioShards after.current held in
    let At : ℕ → Type 0 = λ b. HoldsAudioShards after.current (shards_of_block b (counting_shards (r ∷ rs))) in
    record {
      settings_are = ap numbers_of settings ∙ stands.settings_are;
      greatest = block ∙ sym greatest;
      holds = λ b e. subst At (same_Some r.block b (sym greatest ∙ e)) (subst Holds (sym (first_alone r rs above)) holds);
    }

-- the block that is left plays what it holds, where it isn't whole
left_by : (before after : AudioQueue) (s : StreamSettings) (rs : List AudioShard) (r : AudioShard) (g : Option ℕ) → IsAudioStanding before s rs
    → greatest_block rs ≡ g → is_above r.block g ≡ true → after.left ≡ before.current
    → PlaysUnits after (left_plays g before.current.held) (played_behind s r g (counting_shards rs))
left_by before after s rs r None stands e above left = refl
left_by before after s rs r (Some b) stands e above left =
    let held = shards_of_block b (counting_shards rs) in
    let holds : HoldsAudioShards before.current held = stands.holds b e in
    let units = played_behind s r (Some b) (counting_shards rs) in
    let joined = played_of_joined s r (Some b) (shards_of_block r.block (counting_shards rs)) in
    let as_left : units ≡ played_of_left b held = cond-true (nat_lt b r.block) (played_of_left b held) joined above in
    let Plays_ : Plays → Type 0 = λ p. PlaysUnits after p units in
    elim (cases_lt (length held) 4) [
      | inl few ↦
          let other : (before.current.held == 4) ≡ false = ne_eqb before.current.held 4 (λ same. omega (arith, holds.count)) in
          let plays : left_plays (Some b) before.current.held ≡ Left (b * 4) = cond-false (before.current.held == 4) Nothing (Left (b * 4)) other in
          let units_are : units ≡ room_units after.left.size b held =
          as_left ∙ cond-true (nat_lt (length held) 4) (held_units b held) [] (lt-ltb (length held) 4 few)
          ∙ sym (cond-false (length held == 4) (whole_units after.left.size b held) (held_units b held) (ne_eqb (length held) 4 (λ same. omega arith))) in
          let Holds : Room → Type 0 = λ room. HoldsAudioShards room held in
          let found : AreUnitsIn after.left (b * 4) units =
          record { held = held; holds = subst Holds (sym left) holds; block = b; first_is = refl; are = units_are } in
          subst Plays_ (sym plays) found
      | inr many ↦
          let full : before.current.held ≡ 4 = omega (arith, holds.count, holds.are.few) in
          let plays : left_plays (Some b) before.current.held ≡ Nothing =
          cond-true (before.current.held == 4) Nothing (Left (b * 4)) (eq-eqb before.current.held 4 full) in
          let none : units ≡ [] = as_left ∙ cond-false (nat_lt (length held) 4) (held_units b held) [] (le-ltb (length held) 4 many) in
          subst Plays_ (sym plays) none
    ]

pub left_played : (before after : AudioQueue) (s : StreamSettings) (rs : List AudioShard) (r : AudioShard) → IsAudioStanding before s rs
    → is_above r.block (greatest_block rs) ≡ true → after.left ≡ before.current
    → PlaysUnits after (left_plays before.block before.current.held) (played_behind s r (greatest_block rs) (counting_shards rs))
left_played before after s rs r stands above left =
    let Plays_ : Option ℕ → Type 0 =
    λ g. PlaysUnits after (left_plays g before.current.held) (played_behind s r (greatest_block rs) (counting_shards rs)) in
    subst Plays_ (sym stands.greatest) (left_by before after s rs r (greatest_block rs) stands refl above left)

-- ---- a block that isn't greater

-- one that doesn't count changes nothing
not_counted : (q : AudioQueue) (s : StreamSettings) (rs : List AudioShard) (r : AudioShard) (g : ℕ) → IsAudioStanding q s rs → greatest_block rs ≡ Some g
    → r.block ≤ g → is_shard_counted r (Some g) (shards_of_block r.block (counting_shards rs)) ≡ false
    → (played_behind s r (greatest_block rs) (counting_shards rs) ≡ []) × IsAudioStanding q s (r ∷ rs)
not_counted q s rs r g stands e within off =
    let held = shards_of_block r.block (counting_shards rs) in
    let Off : Option ℕ → Type 0 = λ o. is_shard_counted r o held ≡ false in
    let same : counting_shards (r ∷ rs) ≡ counting_shards rs = counting_shards-same r rs (subst Off (sym e) off) in
    let greatest : greatest_block (r ∷ rs) ≡ Some g =
    ap (λ (o : Option ℕ). Some (greater_block r.block o)) e ∙ ap (λ (n : ℕ). Some n) (greatest-within r.block g within) in
    let four = length (r.shard ∷ held) == 4 in
    let whole = whole_units s.audio r.block (r.shard ∷ held) in
    let Holds : List AudioShard → ℕ → Type 0 = λ l b. HoldsAudioShards q.current (shards_of_block b l) in (
      ap (λ (o : Option ℕ). played_behind s r o (counting_shards rs)) e
          ∙ cond-false (nat_lt g r.block) (played_of_left g (shards_of_block g (counting_shards rs))) (played_of_joined s r (Some g) held)
          (le-ltb g r.block within)
          ∙ cond-false (is_shard_counted r (Some g) held && four) whole [] (and_left (is_shard_counted r (Some g) held) four off),
      record {
        settings_are = stands.settings_are;
        greatest = stands.greatest ∙ e ∙ sym greatest;
        holds = λ b e'. subst (λ l. Holds l b) (sym same) (stands.holds b (e ∙ sym greatest ∙ e'));
      },
    )

-- of a block that is left
pub lower : (q : AudioQueue) (s : StreamSettings) (rs : List AudioShard) (r : AudioShard) (g : ℕ) → IsAudioStanding q s rs → greatest_block rs ≡ Some g
    → r.block < g → (played_behind s r (greatest_block rs) (counting_shards rs) ≡ []) × IsAudioStanding q s (r ∷ rs)
lower q s rs r g stands e less =
    let held = shards_of_block r.block (counting_shards rs) in
    not_counted q s rs r g stands e (omega arith)
    (ap (λ (b : Bool). not b && not (is_audio_held r.shard.index held) && nat_lt (length held) 4) (lt-ltb r.block g less))

-- of the greatest block, whether it counts
abbrev counts_of : AudioShard → List AudioShard → Bool
counts_of r rs =
    not (is_audio_held r.shard.index (shards_of_block r.block (counting_shards rs))) && nat_lt (length (shards_of_block r.block (counting_shards rs))) 4

counted-is : (r : AudioShard) (rs : List AudioShard) → is_shard_counted r (Some r.block) (shards_of_block r.block (counting_shards rs)) ≡ counts_of r rs
counted-is r rs =
    let held = shards_of_block r.block (counting_shards rs) in
    ap (λ (b : Bool). not b && not (is_audio_held r.shard.index held) && nat_lt (length held) 4) (le-ltb r.block r.block (omega arith))

pub spare : (q : AudioQueue) (s : StreamSettings) (rs : List AudioShard) (r : AudioShard) → IsAudioStanding q s rs → greatest_block rs ≡ Some r.block
    → counts_of r rs ≡ false → (played_behind s r (greatest_block rs) (counting_shards rs) ≡ []) × IsAudioStanding q s (r ∷ rs)
spare q s rs r stands e off = not_counted q s rs r r.block stands e (omega arith) (counted-is r rs ∙ off)

-- one that counts joins those of its block
pub join-stands : (before after : AudioQueue) (s : StreamSettings) (rs : List AudioShard) (r : AudioShard) → IsAudioStanding before s rs
    → greatest_block rs ≡ Some r.block → counts_of r rs ≡ true → after.settings ≡ before.settings → after.block ≡ before.block
    → HoldsAudioShards after.current (r.shard ∷ shards_of_block r.block (counting_shards rs)) → IsAudioStanding after s (r ∷ rs)
join-stands before after s rs r stands e on settings block holds =
    let held = shards_of_block r.block (counting_shards rs) in
    let On : Option ℕ → Type 0 = λ o. is_shard_counted r o held ≡ true in
    let more : counting_shards (r ∷ rs) ≡ r ∷ counting_shards rs = counting_shards-more r rs (subst On (sym e) (counted-is r rs ∙ on)) in
    let greatest : greatest_block (r ∷ rs) ≡ Some r.block =
    ap (λ (o : Option ℕ). Some (greater_block r.block o)) e ∙ ap (λ (n : ℕ). Some n) (greatest-within r.block r.block (omega arith)) in
    let alone : shards_of_block r.block (counting_shards (r ∷ rs)) ≡ r.shard ∷ held = ap (shards_of_block r.block) more ∙ of_same r (counting_shards rs) in
    let Holds : List HeldShard → Type 0 = λ l. HoldsAudioShards after.current l in
    let At : ℕ → Type 0 = λ b. HoldsAudioShards after.current (shards_of_block b (counting_shards (r ∷ rs))) in
    record {
      settings_are = ap numbers_of settings ∙ stands.settings_are;
      greatest = block ∙ stands.greatest ∙ e ∙ sym greatest;
      holds = λ b e'. subst At (same_Some r.block b (sym greatest ∙ e')) (subst Holds (sym alone) holds);
    }

-- it plays all units where it is the fourth
pub join-played : (s : StreamSettings) (rs : List AudioShard) (r : AudioShard) → greatest_block rs ≡ Some r.block → counts_of r rs ≡ true
    → played_behind s r (greatest_block rs) (counting_shards rs)
    ≡ cond (length (shards_of_block r.block (counting_shards rs)) + 1 == 4)
    (whole_units s.audio r.block (r.shard ∷ shards_of_block r.block (counting_shards rs))) []
join-played s rs r e on =
    let held = shards_of_block r.block (counting_shards rs) in
    let whole = whole_units s.audio r.block (r.shard ∷ held) in
    let count : length (r.shard ∷ held) ≡ length held + 1 = omega arith in
    ap (λ (o : Option ℕ). played_behind s r o (counting_shards rs)) e
    ∙ cond-false (nat_lt r.block r.block) (played_of_left r.block held) (played_of_joined s r (Some r.block) held) (le-ltb r.block r.block (omega arith))
    ∙ ap (λ (b : Bool). cond (b && length (r.shard ∷ held) == 4) whole []) (counted-is r rs ∙ on)
    ∙ ap (λ (n : ℕ). cond (n == 4) whole []) count

-- ---- what the queue does

-- a shard of a greater block is taken
pub advance-takes : (before after : AudioQueue) (s : StreamSettings) (rs : List AudioShard) (r : AudioShard) (plays : Plays) → IsAudioStanding before s rs
    → is_above r.block (greatest_block rs) ≡ true → after.settings ≡ before.settings → after.block ≡ Some r.block → after.left ≡ before.current
    → HoldsAudioShards after.current (r.shard ∷ []) → plays ≡ left_plays before.block before.current.held → TakesShard after plays r s rs
advance-takes before after s rs r plays stands above settings block left holds plays_is =
    let Plays_ : Plays → Type 0 = λ p. PlaysUnits after p (played_behind s r (greatest_block rs) (counting_shards rs)) in (
      subst Plays_ (sym plays_is) (left_played before after s rs r stands above left),
      advance-stands before after s rs r stands above settings block holds,
    )

-- so is one of the greatest block by which all its units are held
pub join-whole : (before after : AudioQueue) (s : StreamSettings) (rs : List AudioShard) (r : AudioShard) → IsAudioStanding before s rs
    → greatest_block rs ≡ Some r.block → counts_of r rs ≡ true → after.settings ≡ before.settings → after.block ≡ before.block
    → HoldsAudioShards after.current (r.shard ∷ shards_of_block r.block (counting_shards rs))
    → (length (shards_of_block r.block (counting_shards rs)) + 1 == 4) ≡ true → after.current.size ≡ s.audio
    → TakesShard after (Whole (r.block * 4)) r s rs
join-whole before after s rs r stands e on settings block holds full size =
    let held = shards_of_block r.block (counting_shards rs) in
    let all = r.shard ∷ held in
    let whole : ℕ → List PlayedUnit = λ n. whole_units n r.block all in
    let four : (length all == 4) ≡ true = eq-eqb (length all) 4 (omega (arith, eqb-true (length held + 1) 4 full)) in (
      record {
        held = all;
        holds = holds;
        block = r.block;
        first_is = refl;
        are = join-played s rs r e on ∙ cond-true (length held + 1 == 4) (whole s.audio) [] full ∙ ap whole (sym size)
            ∙ sym (cond-true (length all == 4) (whole after.current.size) (held_units r.block all) four);
      },
      join-stands before after s rs r stands e on settings block holds,
    )

-- and one by which they aren't
pub join-part : (before after : AudioQueue) (s : StreamSettings) (rs : List AudioShard) (r : AudioShard) → IsAudioStanding before s rs
    → greatest_block rs ≡ Some r.block → counts_of r rs ≡ true → after.settings ≡ before.settings → after.block ≡ before.block
    → HoldsAudioShards after.current (r.shard ∷ shards_of_block r.block (counting_shards rs))
    → (length (shards_of_block r.block (counting_shards rs)) + 1 == 4) ≡ false → TakesShard after Nothing r s rs
join-part before after s rs r stands e on settings block holds part =
    let held = shards_of_block r.block (counting_shards rs) in (
      join-played s rs r e on ∙ cond-false (length held + 1 == 4) (whole_units s.audio r.block (r.shard ∷ held)) [] part,
      join-stands before after s rs r stands e on settings block holds,
    )

-- no block is above it, where there was none
pub above-none : (block : ℕ) (o g : Option ℕ) → o ≡ g → o ≡ None → is_above block g ≡ true
above-none block o g same none = ap (is_above block) (sym same ∙ none)

pub above-some : (block greatest : ℕ) (o g : Option ℕ) → o ≡ g → o ≡ Some greatest → greatest < block → is_above block g ≡ true
above-some block greatest o g same some less = ap (is_above block) (sym same ∙ some) ∙ lt-ltb greatest block less

-- a shard that is missing counts
pub counts-missing : (held : Bool) (few : Bool) → (not held && few) ≡ true → held ≡ false
counts-missing held few on = not-true held (and_parts (not held) few on).0
