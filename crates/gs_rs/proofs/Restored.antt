-- The block that restored shards are of.
use Rattle.std.proofs.Common.{◌≡◌, ℕ, ◌+◌, ◌*◌, ◌<◌, ◌≤◌, List, Bool, true, false, length, get_or, take, sym, ap, ◌∙◌, subst, refl, arith, inl, inr}
use mathlib.Core.Bool.{beq}
use Rattle.std.specs.List.{All, AllWithin, IsAnyAnswer}
use Rattle.std.proofs.lemmas.Bool.{false≢true, cases_Bool, MatchBool-at_false}
use Rattle.std.proofs.lemmas.List.{get_or-take, get_or_default, length-take-le}
use Rattle.gs_gf256.specs.Field.{IsByte}
use Rattle.gs_rs.specs.declared.shape.CodeShape.{CodeShape}
use Rattle.gs_rs.specs.Shape.{IsCode, shard_count}
use Rattle.gs_rs.specs.Codeword.{shard_of}
use Rattle.gs_rs.specs.Restore.{IsPresent, count_present, data_of, AreLowestPresent, AgreesWhereChosen, RestoresAbsent, RestoresEachBlock, RestoresSomeBlock}
use Rattle.gs_rs.specs.Restore.{KeepsOthers}
use Rattle.gs_rs.specs.Laws.{AreEnough}
use Rattle.gs_rs.proofs.Blocks.{in_shards, same_shards, bytes_of_same_shard, enough_have}
use Rattle.gs_rs.proofs.Present.{present_in_range, rank_le}

chosen_at : (count : ℕ) (numbers : List ℕ) (i d : ℕ) → i < length (take count numbers) → count ≤ length numbers
    → get_or (take count numbers) i d ≡ get_or numbers i 0
chosen_at count numbers i d h room =
    get_or_default (take count numbers) i d 0 h ∙ get_or-take count numbers i 0 (omega (arith, length-take-le count numbers room))

pub chosen_present : (present : List Bool) (count : ℕ) (numbers : List ℕ) → AreLowestPresent present count numbers → count ≤ length numbers
    → All (IsPresent present) (take count numbers)
chosen_present present count numbers lowest room = λ i d h.
    subst (IsPresent present) (sym (chosen_at count numbers i d h room)) (lowest.are_present i (omega (arith, length-take-le count numbers room)))

pub chosen_enough : (code : CodeShape) (present : List Bool) (count : ℕ) (numbers : List ℕ) → AreLowestPresent present count numbers → count ≤ length numbers
    → count ≡ code.data → length present ≡ shard_count code → AreEnough code (take count numbers)
chosen_enough code present count numbers lowest room whole size =
    let length_is : length (take count numbers) ≡ count = length-take-le count numbers room in
    record {
      count = length_is ∙ whole;
      in_range = λ i d h.
          let within = present_in_range present (get_or (take count numbers) i d) (chosen_present present count numbers lowest room i d h) in
          omega arith;
      distinct = λ i j d less h same.
          let at_i = chosen_at count numbers i d (omega arith) room in
          let at_j = chosen_at count numbers j d h room in
          let rank_i = lowest.in_order i (omega arith) in
          let rank_j = lowest.in_order j (omega arith) in
          let e : count_present (take (get_or numbers i 0) present) ≡ count_present (take (get_or numbers j 0) present) =
          ap (λ n. count_present (take n present)) (sym at_i ∙ same ∙ at_j) in
          omega arith;
    }

pub restores_each_block : (code : CodeShape) (len : ℕ) (present : List Bool) (count : ℕ) (numbers before after : List ℕ)
    → AreLowestPresent present count numbers → count ≤ length numbers → count ≡ code.data → length present ≡ shard_count code
    → length after ≡ shard_count code * len
    → RestoresAbsent code len present (take count numbers) before after → KeepsOthers code len present before after
    → RestoresEachBlock code len present before after
restores_each_block code len present count numbers before after lowest room whole size size_after absent others = λ block block_is agrees.
    let d = code.data in
    let enough = chosen_enough code present count numbers lowest room whole size in
    let at_chosen : All (λ n. shard_of len before n ≡ shard_of len block n) (take count numbers) = λ i e h.
    let number = get_or (take count numbers) i e in
    let here = chosen_present present count numbers lowest room i e h in
    let at = chosen_at count numbers i e h room in
    let rank : count_present (take number present) ≡ i =
    ap (λ n. count_present (take n present)) at ∙ lowest.in_order i (omega (arith, length-take-le count numbers room)) in
    agrees number (enough.in_range i e h) (here, omega (arith, length-take-le count numbers room)) in
    let shard_same : (i : ℕ) → i < d → shard_of len after i ≡ shard_of len block i = λ i h.
    elim (cases_Bool (get_or present i false)) [
      | inl here ↦
          others i (omega arith) (inl here) ∙ agrees i (omega arith) (here, omega (arith, rank_le present i))
      | inr gone ↦ absent block block_is at_chosen i h (λ here. false≢true (sym gone ∙ here))
    ] in
    let fits : d * len ≤ shard_count code * len = omega arith in
    same_shards d len (data_of code len after) (data_of code len block)
    (length-take-le (d * len) after (omega arith)) (length-take-le (d * len) block (omega (arith, block_is.size)))
    (λ i k hi hk.
    let below = in_shards d len i k hi hk in
    get_or-take (d * len) after (i * len + k) 0 below
    ∙ bytes_of_same_shard len after block i k (shard_same i hi) hk
    ∙ sym (get_or-take (d * len) block (i * len + k) 0 below))

pub restores_some_block : (code : CodeShape) (len : ℕ) (present : List Bool) (count : ℕ) (numbers before after : List ℕ)
    → IsCode code → AreLowestPresent present count numbers → count ≤ length numbers → count ≡ code.data → length present ≡ shard_count code
    → length after ≡ shard_count code * len → All IsByte after
    → RestoresAbsent code len present (take count numbers) before after → KeepsOthers code len present before after
    → RestoresSomeBlock code len present before after
restores_some_block code len present count numbers before after is lowest room whole size size_after bytes absent others =
    let enough = chosen_enough code present count numbers lowest room whole size in
    let found = enough_have code len (take count numbers) after is enough size_after bytes in
    let block = found.0 in
    let length_is : length (take count numbers) ≡ count = length-take-le count numbers room in
    let agrees : AgreesWhereChosen code len present before block = λ number within chosen.
    let rank = count_present (take number present) in
    let below : rank < length (take count numbers) = omega arith in
    let this : get_or (take count numbers) rank 0 ≡ number =
    chosen_at count numbers rank 0 below room ∙ lowest.whole number chosen.0 (omega arith) in
    sym (others number within (inl chosen.0))
    ∙ sym (subst (λ n. shard_of len block n ≡ shard_of len after n) this (found.2 rank 0 below)) in (
      block,
      found.1,
      agrees,
      restores_each_block code len present count numbers before after lowest room whole size size_after absent others block found.1 agrees,
    )

not_false : (b : Bool) → beq b false ≡ false → b ≡ true
not_false true h = refl
not_false false h = cc

-- no data shard is absent, where no flag of theirs is false
pub data_present : (present : List Bool) (d : ℕ) (r : Bool) → IsAnyAnswer (λ y b. beq y false ≡ b) (take d present) r → r ≡ false → d ≤ length present
    → (i : ℕ) → i < d → IsPresent present i
data_present present d r answer none room i h =
    let size : length (take d present) ≡ d = length-take-le d present room in
    let flags : AllWithin (λ y. beq y false ≡ false) (take d present) 0 (length (take d present)) = MatchBool-at_false _ _ none answer in
    not_false (get_or present i false) (subst (λ y. beq y false ≡ false) (get_or-take d present i false h) (flags i false (omega arith) (omega arith)))

-- and then nothing has to be written
pub nothing_absent : (code : CodeShape) (len : ℕ) (present : List Bool) (numbers shards : List ℕ) → ((i : ℕ) → i < code.data → IsPresent present i)
    → RestoresAbsent code len present numbers shards shards
nothing_absent code len present numbers shards here = λ block is same number within gone. absurd (gone (here number within))
