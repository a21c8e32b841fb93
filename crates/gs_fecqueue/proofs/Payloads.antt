-- The payloads of a block's data shards, of any block that has the shards that are held.
use Rattle.std.proofs.Common.{◌≡◌, ◌≢◌, ◌<◌, ◌≤◌, ◌+◌, ◌-◌, ◌*◌, ℕ, zero, suc, Bool, true, false, List, [], ◌∷◌, ◌++◌, length, map, get_or, take, drop, Option}
use Rattle.std.proofs.Common.{Some, None, refl, sym, ap, subst, ◌∙◌, ◌⊎◌, arith, inl, inr}
use Rattle.std.specs.Prelude.{◌==◌, if◌then◌else◌}
use Rattle.std.specs.List.{All, AllPairs, concat, find, range_with_len}
use Rattle.std.proofs.Math.Seq.{take-add}
use Rattle.std.proofs.lemmas.Bool.{cases_Bool, cond-true, cond-false}
use Rattle.std.proofs.lemmas.List.{length-map, length-drop, get_or-drop, get_or-map, ext_get_or, drop-drop}
use Rattle.std.proofs.lemmas.List.Elements.{All-map}
use Rattle.std.proofs.lemmas.List.FromFn.{length-map-range_with_len, get_or-map-range_with_len}
use Rattle.gs_gf256.specs.Field.{product, quotient}
use Rattle.gs_poly.specs.Polynomial.{weighted_sum}
use Rattle.gs_rs.specs.declared.shape.CodeShape.{CodeShape}
use Rattle.gs_rs.specs.Shape.{IsCode, shard_count, point, denominator, video_code}
use Rattle.gs_rs.specs.Codeword.{IsBlock, shard_of}
use Rattle.gs_rs.specs.Shards.{HeldShard, restored_byte, held_or_restored, block_shard}
use Rattle.gs_rs.specs.ShardLaws.{AreOfBlock}
use Rattle.gs_rs.proofs.HeldShards.{held_shards_fix}
use Rattle.gs_rtp.specs.Stream.{StreamSettings}
use Rattle.gs_frames.specs.Shards.{packet_header, payload_of}
use Rattle.gs_frames.specs.Received.{Received}
use Rattle.gs_frames.specs.Complete.{held_shard, code_of, joined_payloads}
use Rattle.gs_fecqueue.specs.Places.{shard_total, kept_payload, AreShards}

-- a shard by what is kept of it
abbrev payload_shard : Received → HeldShard
payload_shard r = record { index = r.head.index; bytes = kept_payload r }

-- ---- what is kept is enough

-- functions that agree on whole shards and on what is kept of them
maps-agree : (f g : HeldShard → ℕ) (held : List Received) → ((r : Received) → f (held_shard r) ≡ g (payload_shard r))
    → map f (map held_shard held) ≡ map g (map payload_shard held)
maps-agree f g [] same = refl
maps-agree f g (r ∷ held) same = let first = same r in let rest = maps-agree f g held same in cc

abbrev value_at : CodeShape → ℕ → HeldShard → ℕ
value_at code k s = product (get_or s.bytes k 0) (denominator code (point code s.index))

restored-kept : (code : CodeShape) (held : List Received) (i k : ℕ)
    → restored_byte code (map held_shard held) i (packet_header + k) ≡ restored_byte code (map payload_shard held) i k
restored-kept code held i k =
    let x = point code i in
    let points = maps-agree (λ (s : HeldShard). point code s.index) (λ (s : HeldShard). point code s.index) held (λ r. refl) in
    let values = maps-agree (value_at code (packet_header + k)) (value_at code k) held
    (λ r. ap (λ (b : ℕ). product b (denominator code (point code r.head.index))) (sym (get_or-drop packet_header r.shard k 0))) in
    ap (λ (ps : List ℕ). quotient (weighted_sum ps (map (value_at code (packet_header + k)) (map held_shard held)) x) (denominator code x)) points
    ∙ ap (λ (vs : List ℕ). quotient (weighted_sum (map (λ (s : HeldShard). point code s.index) (map payload_shard held)) vs x) (denominator code x)) values

-- the same shard is found
data IsFound (held : List Received) (i : ℕ) : Type 0 where
  Neither : find (λ (s : HeldShard). s.index == i) (map held_shard held) ≡ None
      → find (λ (s : HeldShard). s.index == i) (map payload_shard held) ≡ None → IsFound held i
  Both : (r : Received) → find (λ (s : HeldShard). s.index == i) (map held_shard held) ≡ Some (held_shard r)
      → find (λ (s : HeldShard). s.index == i) (map payload_shard held) ≡ Some (payload_shard r) → IsFound held i

abbrev of_index : ℕ → HeldShard → Bool
of_index i s = s.index == i

found : (held : List Received) (i : ℕ) → IsFound held i
found [] i = Neither refl refl
found (r ∷ held) i = elim (cases_Bool (r.head.index == i)) [
  | inl this ↦
      Both r
      (cond-true (r.head.index == i) (Some (held_shard r)) (find (of_index i) (map held_shard held)) this)
      (cond-true (r.head.index == i) (Some (payload_shard r)) (find (of_index i) (map payload_shard held)) this)
  | inr other ↦
      let e1 = cond-false (r.head.index == i) (Some (held_shard r)) (find (of_index i) (map held_shard held)) other in
      let e2 = cond-false (r.head.index == i) (Some (payload_shard r)) (find (of_index i) (map payload_shard held)) other in
      elim (found held i) [
        | Neither a b ↦ Neither (e1 ∙ a) (e2 ∙ b)
        | Both t a b ↦ Both t (e1 ∙ a) (e2 ∙ b)
      ]
]

-- the payload of a block's data shard
pub payload-of-shard : (s : StreamSettings) (code : CodeShape) (held : List Received) (i : ℕ)
    → drop packet_header (block_shard code s.packet (map held_shard held) i) ≡ block_shard code (payload_of s) (map payload_shard held) i
payload-of-shard s code held i = elim (found held i) [
  | Both r a b ↦
      ap (λ (o : Option HeldShard). drop packet_header (held_or_restored code s.packet (map held_shard held) i o)) a
      ∙ sym (ap (held_or_restored code (payload_of s) (map payload_shard held) i) b)
  | Neither a b ↦
      let f = restored_byte code (map held_shard held) i in
      let g = restored_byte code (map payload_shard held) i in
      let long = length-map-range_with_len f 0 s.packet in
      let short = length-map-range_with_len g 0 (payload_of s) in
      ap (λ (o : Option HeldShard). drop packet_header (held_or_restored code s.packet (map held_shard held) i o)) a
      ∙ ext_get_or 0 (drop packet_header (map f (range_with_len 0 s.packet))) (map g (range_with_len 0 (payload_of s)))
      (omega (arith, length-drop packet_header (map f (range_with_len 0 s.packet)), long, short))
      (λ k h.
      let below : k < payload_of s = omega (arith, length-drop packet_header (map f (range_with_len 0 s.packet)), long) in
      get_or-drop packet_header (map f (range_with_len 0 s.packet)) k 0
      ∙ get_or-map-range_with_len f 0 s.packet (packet_header + k) (packet_header + k) 0 (omega arith) (omega arith)
      ∙ restored-kept code held i k
      ∙ sym (get_or-map-range_with_len g 0 (payload_of s) k k 0 below (omega arith)))
      ∙ sym (ap (held_or_restored code (payload_of s) (map payload_shard held) i) b)
]

-- ---- laid end to end

-- functions that agree at each number of a range
map-range : (f g : ℕ → List ℕ) (a n : ℕ) → ((i : ℕ) → a ≤ i → i < a + n → f i ≡ g i) → map f (range_with_len a n) ≡ map g (range_with_len a n)
map-range f g a zero same = refl
map-range f g a (suc n) same =
    let first = same a (omega arith) (omega arith) in
    let rest = map-range f g (a + 1) n (λ i least most. same i (omega arith) (omega arith)) in
    cc

-- shards of a list, laid end to end
concat-shards : (size a n : ℕ) (xs : List ℕ) → concat (map (shard_of size xs) (range_with_len a n)) ≡ take (n * size) (drop (a * size) xs)
concat-shards size a zero xs = let none : 0 * size ≡ 0 = omega arith in ap (λ (m : ℕ). take m (drop (a * size) xs)) (sym none)
concat-shards size a (suc n) xs =
    let more : size + n * size ≡ suc n * size = omega arith in
    let next : a * size + size ≡ (a + 1) * size = omega arith in
    ap (λ (rest : List ℕ). shard_of size xs a ++ rest)
    (concat-shards size (a + 1) n xs
    ∙ ap (λ (m : ℕ). take (n * size) (drop m xs)) (sym next)
    ∙ ap (λ (l : List ℕ). take (n * size) l) (sym (drop-drop size (a * size) xs)))
    ∙ sym (take-add size (n * size) (drop (a * size) xs))
    ∙ ap (λ (m : ℕ). take m (drop (a * size) xs)) more

-- ---- any block with these shards

-- they are shards of the block
of_block : (s : StreamSettings) (held : List Received) (first : Received) (block : List ℕ) → AreShards held first
    → length held ≡ first.head.shards → All (λ r. kept_payload r ≡ shard_of (payload_of s) block r.head.index) held
    → AreOfBlock (code_of first) (payload_of s) block (map payload_shard held)
of_block s held first block are full same = record {
  count = length-map held payload_shard ∙ full;
  distinct = λ i j d less h.
      let size = length-map held payload_shard in
      let in_j : j < length held = omega arith in
      let in_i : i < length held = omega arith in
      let r = get_or held i first in
      let at_i = ap (λ (t : HeldShard). t.index) (get_or-map payload_shard held i first d in_i) in
      let at_j = ap (λ (t : HeldShard). t.index) (get_or-map payload_shard held j first d in_j) in
      λ e. are.distinct i j first less in_j (sym at_i ∙ e ∙ at_j);
  in_range = All-map (λ t. t.index < shard_count (code_of first)) payload_shard held are.indices;
  are = All-map (λ t. t.bytes ≡ shard_of (payload_of s) block t.index) payload_shard held same;
}

-- its data shards are what is joined
pub joined-is : (s : StreamSettings) (held : List Received) (first : Received) (block : List ℕ) → AreShards held first
    → length held ≡ first.head.shards → IsCode (code_of first) ⊎ ((code_of first).parity ≡ 0) → IsBlock (code_of first) (payload_of s) block
    → All (λ r. kept_payload r ≡ shard_of (payload_of s) block r.head.index) held
    → joined_payloads s held first ≡ take (first.head.shards * payload_of s) block
joined-is s held first block are full which is_block same =
    let code = code_of first in
    let size = payload_of s in
    let d = first.head.shards in
    let none : 0 * size ≡ 0 = omega arith in
    ap (λ (shards : List (List ℕ)). concat shards)
    (map-range (λ i. drop packet_header (block_shard code s.packet (map held_shard held) i)) (shard_of size block) 0 d
    (λ i least most.
    payload-of-shard s code held i
    ∙ held_shards_fix code size block (map payload_shard held) which is_block (of_block s held first block are full same) i (omega arith)))
    ∙ concat-shards size 0 d block
    ∙ ap (λ (m : ℕ). take (d * size) (drop m block)) none
