-- A room with one more shard, and the units that stand in it.
use Rattle.std.proofs.Common.{◌≡◌, ◌≢◌, ◌<◌, ◌+◌, ◌*◌, ℕ, suc, Bool, true, false, ◌||◌, cond, List, [], ◌∷◌, length, get_or, set, map, Option, Some, None, refl}
use Rattle.std.proofs.Common.{sym, ap, ◌∙◌, arith, inl, inr}
use Rattle.std.specs.Prelude.{◌==◌}
use Rattle.std.specs.Borrow.{Bor}
use Rattle.std.specs.Option.{option_copied, option_map}
use Rattle.std.specs.List.{find, cons_option}
use Rattle.std.proofs.lemmas.Bool.{cases_eq, cases_Bool, cond-true, cond-false, eq-eqb, ne_eqb, eqb-true, eqb-false, or_left}
use Rattle.std.proofs.lemmas.List.{get_or-set_same, get_or-set_other}
use Rattle.std.proofs.lemmas.List.Elements.{All-cons, All-head, All-tail}
use Rattle.std.proofs.lemmas.List.Kept.{AllPairs-cons}
use Rattle.gs_rs.specs.Shape.{audio_code}
use Rattle.gs_rs.specs.Codeword.{shard_of}
use Rattle.gs_rs.specs.Shards.{HeldShard, block_shard}
use Rattle.gs_audio.specs.declared.room.Room.{Room}
use Rattle.gs_audio.specs.Played.{PlayedUnit, is_audio_held, audio_unit_at, unit_number, whole_units, held_units}
use Rattle.gs_audio.specs.Units.{units_from}
use Rattle.gs_audio.specs.Places.{AreAudioShards, HasMarks, HasPlacedAudio}
use Rattle.gs_audio.specs.Holding.{AreInRoom, HasUnits, HoldsAudioShards, room_units, marked_unit, shard_in}
use Rattle.gs_audio.specs.Steps.{IsAudioPut}
use Rattle.gs_audio.proofs.Counted.{apart-among}

-- ---- one shard joins those that are held

pub join-are : (held : List HeldShard) (s : HeldShard) → AreAudioShards held → length held < 4 → s.index < 6 → is_audio_held s.index held ≡ false
    → AreAudioShards (s ∷ held)
join-are held s are few within missing = record {
  few = omega arith;
  indices = All-cons (λ t. t.index < 6) s held within are.indices;
  distinct = AllPairs-cons (λ t u. t.index ≢ u.index) s held (apart-among s.index held missing) are.distinct;
}

pub join-marks : (before after : Room) (held : List HeldShard) (s : HeldShard) → IsAudioPut before after s.index s.bytes → s.index < length before.present
    → HasMarks before.present held → HasMarks after.present (s ∷ held)
join-marks before after held s put within marks i h = ap (λ (l : List Bool). get_or l i false) put.marks ∙ elim (cases_eq i s.index) [
  | inl this ↦
      ap (λ (j : ℕ). get_or (set before.present s.index true) j false) this
      ∙ get_or-set_same before.present s.index true false within
      ∙ sym (or_left (s.index == i) (is_audio_held i held) (eq-eqb s.index i (sym this)))
  | inr other ↦
      get_or-set_other before.present s.index i true false other
      ∙ marks i h
      ∙ sym (ap (λ (b : Bool). b || is_audio_held i held) (ne_eqb s.index i (λ e. other (sym e))))
]

pub join-placed : (before after : Room) (held : List HeldShard) (s : HeldShard) → IsAudioPut before after s.index s.bytes
    → is_audio_held s.index held ≡ false → HasPlacedAudio before.size before.bytes.items held → HasPlacedAudio after.size after.bytes.items (s ∷ held)
join-placed before after held s put missing places =
    All-cons (λ t. shard_in after t.index ≡ t.bytes) s held put.itself (λ k d h.
    let t = get_or held k d in
    let other : t.index ≢ s.index = λ e. apart-among s.index held missing k d h (sym e) in
    put.others t.index other ∙ places k d h)

-- ---- units, by their bytes

abbrev pub listed : ℕ → List (Option (List ℕ)) → List PlayedUnit
listed n [] = []
listed n (None ∷ us) = listed (suc n) us
listed n (Some u ∷ us) = record { number = n; bytes = u } ∷ listed (suc n) us

pub units_from-listed : (n : ℕ) (us : List (Option (Bor (List ℕ)))) → units_from n us ≡ listed n (map option_copied us)
units_from-listed n [] = refl
units_from-listed n (None ∷ us) = units_from-listed (suc n) us
units_from-listed n (Some u ∷ us) = ap (λ (l : List PlayedUnit). record { number = n; bytes = u.now } ∷ l) (units_from-listed (suc n) us)

-- one that is there
listed-some : (n m : ℕ) (o : Option (List ℕ)) (x : List ℕ) (us : List (Option (List ℕ))) (rest : List PlayedUnit) → n ≡ m → o ≡ Some x
    → listed (suc n) us ≡ rest → listed n (o ∷ us) ≡ record { number = m; bytes = x } ∷ rest
listed-some n m o x us rest same is more =
    ap (λ (p : Option (List ℕ)). listed n (p ∷ us)) is
    ∙ ap (λ (l : List PlayedUnit). record { number = n; bytes = x } ∷ l) more
    ∙ ap (λ (k : ℕ). record { number = k; bytes = x } ∷ rest) same

-- one that is there where it is held
listed-held : (block i n : ℕ) (s : Option HeldShard) (o : Option (List ℕ)) (us : List (Option (List ℕ))) (rest : List PlayedUnit)
    → n ≡ unit_number block i → o ≡ option_map (λ t. t.bytes) s → listed (suc n) us ≡ rest
    → listed n (o ∷ us) ≡ cons_option (audio_unit_at block i s) rest
listed-held block i n None o us rest same is more = ap (λ (p : Option (List ℕ)). listed n (p ∷ us)) is ∙ more
listed-held block i n (Some s) o us rest same is more = listed-some n (unit_number block i) o s.bytes us rest same is more

-- ---- what stands in a room

-- what is marked of shards at their places is what is found of them
found : (size : ℕ) (bytes : List ℕ) (held : List HeldShard) (i : ℕ) → HasPlacedAudio size bytes held
    → cond (is_audio_held i held) (Some (shard_of size bytes i)) None ≡ option_map (λ t. t.bytes) (find (λ t. t.index == i) held)
found size bytes [] i places = refl
found size bytes (s ∷ held) i places = elim (cases_Bool (s.index == i)) [
  | inl this ↦
      let at : s.index ≡ i = eqb-true s.index i this in
      let here = All-head (λ t. shard_of size bytes t.index ≡ t.bytes) s held places in
      ap (λ (b : Bool). cond (b || is_audio_held i held) (Some (shard_of size bytes i)) None) this
      ∙ ap (λ (j : ℕ). Some (shard_of size bytes j)) (sym at)
      ∙ ap (λ (x : List ℕ). Some x) here
      ∙ sym (ap (option_map (λ t. t.bytes)) (cond-true (s.index == i) (Some s) (find (λ t. t.index == i) held) this))
  | inr other ↦
      ap (λ (b : Bool). cond (b || is_audio_held i held) (Some (shard_of size bytes i)) None) other
      ∙ found size bytes held i (All-tail (λ t. shard_of size bytes t.index ≡ t.bytes) s held places)
      ∙ sym (ap (option_map (λ t. t.bytes)) (cond-false (s.index == i) (Some s) (find (λ t. t.index == i) held) other))
]

abbrev pub marked : Room → List (Option (List ℕ))
marked room = marked_unit room 0 ∷ marked_unit room 1 ∷ marked_unit room 2 ∷ marked_unit room 3 ∷ []

-- all of a block that is fixed
whole-listed : (room : Room) (held : List HeldShard) (block : ℕ) → HoldsAudioShards room held → length held ≡ 4
    → listed (block * 4) (marked room) ≡ whole_units room.size block held
whole-listed room held block holds full =
    let whole = holds.whole full in
    let at : ℕ → Option (List ℕ) = λ i. marked_unit room i in
    let is : (i : ℕ) → i < 4 → at i ≡ Some (block_shard audio_code room.size held i) =
    λ i h. cond-true (get_or room.present i false) (Some (shard_in room i)) None (whole.marks i h) ∙ ap (λ (x : List ℕ). Some x) (whole.units i h) in
    listed-some (block * 4) (unit_number block 0) (at 0) (block_shard audio_code room.size held 0) _ _ (omega arith) (is 0 (omega arith))
    (listed-some (suc (block * 4)) (unit_number block 1) (at 1) (block_shard audio_code room.size held 1) _ _ (omega arith) (is 1 (omega arith))
    (listed-some (suc (suc (block * 4))) (unit_number block 2) (at 2) (block_shard audio_code room.size held 2) _ _ (omega arith) (is 2 (omega arith))
    (listed-some (suc (suc (suc (block * 4)))) (unit_number block 3) (at 3) (block_shard audio_code room.size held 3) [] [] (omega arith) (is 3 (omega arith))
    refl)))

-- those that are held
held-listed : (room : Room) (held : List HeldShard) (block : ℕ) → HoldsAudioShards room held → length held < 4
    → listed (block * 4) (marked room) ≡ held_units block held
held-listed room held block holds few =
    let placed = holds.placed few in
    let at : ℕ → Option HeldShard = λ i. find (λ t. t.index == i) held in
    let is : (i : ℕ) → i < 6 → marked_unit room i ≡ option_map (λ t. t.bytes) (at i) =
    λ i h. ap (λ (b : Bool). cond b (Some (shard_in room i)) None) (placed.marks i h) ∙ found room.size room.bytes.items held i placed.places in
    listed-held block 0 (block * 4) (at 0) (marked_unit room 0) _ _ (omega arith) (is 0 (omega arith))
    (listed-held block 1 (suc (block * 4)) (at 1) (marked_unit room 1) _ _ (omega arith) (is 1 (omega arith))
    (listed-held block 2 (suc (suc (block * 4))) (at 2) (marked_unit room 2) _ _ (omega arith) (is 2 (omega arith))
    (listed-held block 3 (suc (suc (suc (block * 4)))) (at 3) (marked_unit room 3) [] [] (omega arith) (is 3 (omega arith)) refl)))

pub room-listed : (room : Room) (held : List HeldShard) (block : ℕ) → HoldsAudioShards room held
    → listed (block * 4) (marked room) ≡ room_units room.size block held
room-listed room held block holds = elim (cases_eq (length held) 4) [
  | inl full ↦ whole-listed room held block holds full
      ∙ sym (cond-true (length held == 4) (whole_units room.size block held) (held_units block held) (eq-eqb (length held) 4 full))
  | inr other ↦ held-listed room held block holds (omega (arith, holds.are.few))
      ∙ sym (cond-false (length held == 4) (whole_units room.size block held) (held_units block held) (ne_eqb (length held) 4 other))
]

-- ---- whether any is there

pub some_listed : (n : ℕ) (p q r s : Bool) (a b c d : List ℕ) → (p || q || r || s) ≡ true
    → listed n (cond p (Some a) None ∷ cond q (Some b) None ∷ cond r (Some c) None ∷ cond s (Some d) None ∷ []) ≡ [] → ⊥
some_listed n true q r s a b c d some e = cc
some_listed n false true r s a b c d some e = cc
some_listed n false false true s a b c d some e = cc
some_listed n false false false true a b c d some e = cc
some_listed n false false false false a b c d some e = cc

pub none_listed : (n : ℕ) (p q r s : Bool) (a b c d : List ℕ) → (p || q || r || s) ≡ false
    → listed n (cond p (Some a) None ∷ cond q (Some b) None ∷ cond r (Some c) None ∷ cond s (Some d) None ∷ []) ≡ []
none_listed n true q r s a b c d none = cc
none_listed n false true r s a b c d none = cc
none_listed n false false true s a b c d none = cc
none_listed n false false false true a b c d none = cc
none_listed n false false false false a b c d none = refl

-- ---- what is held with one more shard

-- one that isn't the fourth
pub hold-more : (b0 b1 : Room) (held : List HeldShard) (s : HeldShard) → HoldsAudioShards b0 held → is_audio_held s.index held ≡ false → s.index < 6
    → b0.held < 4 → length b0.present ≡ 6 → IsAudioPut b0 b1 s.index s.bytes → (b1.held == 4) ≡ false
    → (false ≡ (length held + 1 == 4)) × HoldsAudioShards b1 (s ∷ held)
hold-more b0 b1 held s holds missing within more six put open_is =
    let few : length held < 4 = omega (arith, holds.count) in
    let other : b1.held ≢ 4 = eqb-false b1.held 4 open_is in
    let count : b1.held ≡ length held + 1 = omega (arith, put.count, holds.count) in
    let placed = holds.placed few in (
      sym (ne_eqb (length held + 1) 4 (λ e. other (count ∙ e))),
      record {
        count = omega (arith, count);
        are = join-are held s holds.are few within missing;
        placed = λ h. record {
          marks = join-marks b0 b1 held s put (omega arith) placed.marks;
          places = join-placed b0 b1 held s put missing placed.places;
        };
        whole = λ full. absurd (other (omega (arith, count)));
      },
    )

-- the fourth
pub hold-fourth : (b0 b1 b2 : Room) (held : List HeldShard) (s : HeldShard) → HoldsAudioShards b0 held → is_audio_held s.index held ≡ false → s.index < 6
    → b0.held < 4 → length b0.present ≡ 6 → IsAudioPut b0 b1 s.index s.bytes → (b1.held == 4) ≡ true → b2.held ≡ b1.held
    → ((l : List HeldShard) → AreAudioShards l → AreInRoom b1 l → length l ≡ 4 → HasUnits b2 l)
    → (true ≡ (length held + 1 == 4)) × HoldsAudioShards b2 (s ∷ held)
hold-fourth b0 b1 b2 held s holds missing within more six put whole_is kept restores =
    let few : length held < 4 = omega (arith, holds.count) in
    let four : b1.held ≡ 4 = eqb-true b1.held 4 whole_is in
    let count : b1.held ≡ length held + 1 = omega (arith, put.count, holds.count) in
    let placed = holds.placed few in
    let are = join-are held s holds.are few within missing in
    let now : AreInRoom b1 (s ∷ held) = record {
      marks = join-marks b0 b1 held s put (omega arith) placed.marks;
      places = join-placed b0 b1 held s put missing placed.places;
    } in (
      sym (eq-eqb (length held + 1) 4 (omega arith)),
      record {
        count = omega (arith, count, kept);
        are = are;
        placed = λ h. absurd (omega arith);
        whole = λ full. restores (s ∷ held) are now full;
      },
    )
