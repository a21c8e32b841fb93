-- A block of which as many distinct shards came as it has data shards, and no greater frame, is whole.
use Rattle.std.proofs.Common.{◌≡◌, ◌≢◌, ◌<◌, ◌≤◌, ◌+◌, ℕ, suc, Bool, true, false, ◌&&◌, not, List, [], ◌∷◌, length, get_or, map, Option, Some, None, refl, sym}
use Rattle.std.proofs.Common.{ap, ◌∙◌, subst, arith, inl, inr}
use Rattle.std.specs.Prelude.{nat_lt, nat_eq, ◌==◌}
use Rattle.std.specs.List.{All, AllPairs, filter, list_any}
use Rattle.std.specs.Set.{is_member}
use Rattle.std.proofs.lemmas.Bool.{cond-true, cond-false, cases_Bool, cases_lt, and_parts, and_from, or_left, or_right, eqb-true, eq-eqb, ne_eqb, ltb-true}
use Rattle.std.proofs.lemmas.Bool.{lt-ltb, not_from_false, true_from_ne_false, both_ways}
use Rattle.std.proofs.lemmas.Bool.Decides.{nat_tests, Decides-eqb}
use Rattle.std.proofs.lemmas.Cmp.{nat_eq_equiv}
use Rattle.std.proofs.lemmas.List.{length-map}
use Rattle.std.proofs.lemmas.List.Elements.{All-head, All-tail, All-cons, All-same, All-weaker, All-map, All-contains}
use Rattle.std.proofs.lemmas.Map.Keys.{IsDistinct-from_apart}
use Rattle.std.proofs.lemmas.Map.Made.{length-le_from_is_member, is_member-Decides}
use Rattle.gs_frames.specs.declared.verdict.Shape.{Shape}
use Rattle.gs_frames.specs.Received.{Received, greatest, is_left, oldest, is_of_frame, is_of_block}
use Rattle.gs_frames.specs.Verdict.{counting}
use Rattle.gs_frames.specs.FillLaws.{Agree, DistinctShardsFillBlock}
use Rattle.gs_frames.proofs.Judged.{same_frame, same_block, is_shard, counts, counting-empty}
use Rattle.gs_frames.proofs.Counting.{oldest-miss, oldest-kept, oldest-new, of_block-frame, counting-one, counting-not}
use Rattle.gs_rs.proofs.HeldShards.{numbers_apart}

-- ---- what holds of all that came

-- it holds of those that count
pub counting-all : (w : ℕ) (P : Received → Type 0) (rs : List Received) → All P rs → All P (counting w rs)
counting-all w P [] all = All-same P (counting w []) [] (counting-empty w) all
counting-all w P (r ∷ rs) all =
    let first = All-head P r rs all in
    let rest = counting-all w P rs (All-tail P r rs all) in
    elim (cases_Bool (counts w r rs (counting w rs))) [
      | inl one ↦ All-same P (counting w (r ∷ rs)) (r ∷ counting w rs) (counting-one w r rs one) (All-cons P r (counting w rs) first rest)
      | inr not_one ↦ All-same P (counting w (r ∷ rs)) (counting w rs) (counting-not w r rs not_one) rest
    ]

-- one more that passes the test
oldest-more : (P : Option Received → Type 0) (test : Received → Bool) (r : Received) (rs : List Received) (o : Option Received)
    → oldest test rs ≡ o → test r ≡ true → P o → P (Some r) → P (oldest test (r ∷ rs))
oldest-more P test r rs (Some first) e passes old new = subst P (sym (oldest-kept test r rs first e)) old
oldest-more P test r rs None e passes old new = subst P (sym (oldest-new test r rs e passes)) new

-- what holds of each that passes the test holds of the first that came, if any did
pub oldest-each : (P : Option Received → Type 0) (test : Received → Bool) (rs : List Received) → P None → All (λ r. test r ≡ true → P (Some r)) rs
    → P (oldest test rs)
oldest-each P test [] none each = none
oldest-each P test (r ∷ rs) none each =
    let rest = oldest-each P test rs none (All-tail (λ s. test s ≡ true → P (Some s)) r rs each) in
    elim (cases_Bool (test r)) [
      | inl passes ↦ oldest-more P test r rs (oldest test rs) refl passes rest (All-head (λ s. test s ≡ true → P (Some s)) r rs each passes)
      | inr fails ↦ subst P (sym (oldest-miss test r rs fails)) rest
    ]

-- all frames that came are less
pub greatest-less : (f : ℕ) (rs : List Received) → 0 < f → All (λ r. r.head.frame < f) rs → greatest rs < f
greatest-less f [] some all = some
greatest-less f (r ∷ rs) some all =
    let first : r.head.frame < f = All-head (λ s. s.head.frame < f) r rs all in
    let rest : greatest rs < f = greatest-less f rs some (All-tail (λ s. s.head.frame < f) r rs all) in
    grind (arith, nat_tests)

-- what a datagram says of its frame, and of its block
abbrev SaysOfFrame : ℕ → Shape → Received → Type 0
SaysOfFrame frame shape r = r.head.frame ≡ frame → r.head.last_block ≡ shape.last_block

abbrev SaysOfBlock : ℕ → ℕ → Shape → Received → Type 0
SaysOfBlock frame block shape r =
    is_of_block frame block r ≡ true → (r.head.shards ≡ shape.shards) × (r.head.percentage ≡ shape.percentage)

-- what came before agrees
Agree-tail : (r : Received) (rs : List Received) (frame block : ℕ) (shape : Shape) → Agree (r ∷ rs) frame block shape
    → Agree rs frame block shape
Agree-tail r rs frame block shape agree =
    record {
      frames = All-tail (SaysOfFrame frame shape) r rs agree.frames;
      blocks = All-tail (SaysOfBlock frame block shape) r rs agree.blocks;
    }

-- ---- whether a member of a block counts

-- the test, with the block that it is of
abbrev counts_in : ℕ → ℕ → ℕ → Received → List Received → List Received → Bool
counts_in w frame block r before counted =
    not (is_left w before frame)
    && same_frame r (oldest (is_of_frame frame) before)
    && same_block r (oldest (is_of_block frame block) counted)
    && not (list_any (is_shard frame block r.head.index) counted)
    && nat_lt (length (filter (is_of_block frame block) counted)) r.head.shards

-- it is the test that counts
counts_in-is : (w frame block : ℕ) (r : Received) (before counted : List Received) → is_of_block frame block r ≡ true
    → counts w r before counted ≡ counts_in w frame block r before counted
counts_in-is w frame block r before counted of =
    let same = of_block-frame frame block r of in
    ap (λ (n : ℕ). counts_in w n r.head.block r before counted) same.0 ∙ ap (λ (n : ℕ). counts_in w frame n r before counted) same.1

-- one counts only where its block has fewer shards than data shards
counts-room : (w frame block : ℕ) (r : Received) (before counted : List Received) → is_of_block frame block r ≡ true → counts w r before counted ≡ true
    → length (filter (is_of_block frame block) counted) < r.head.shards
counts-room w frame block r before counted of one =
    let tests =
    not (is_left w before frame) && same_frame r (oldest (is_of_frame frame) before) && same_block r (oldest (is_of_block frame block) counted)
    && not (list_any (is_shard frame block r.head.index) counted) in
    let room = nat_lt (length (filter (is_of_block frame block) counted)) r.head.shards in
    ltb-true (length (filter (is_of_block frame block) counted)) r.head.shards
    (and_parts tests room (sym (counts_in-is w frame block r before counted of) ∙ one)).1

-- one that agrees counts, where its block has room and not its shard
counts-new : (w : ℕ) (rs : List Received) (r : Received) (frame block : ℕ) (shape : Shape)
    → Agree (r ∷ rs) frame block shape
    → greatest rs < frame + w → is_of_block frame block r ≡ true → list_any (is_shard frame block r.head.index) (counting w rs) ≡ false
    → length (filter (is_of_block frame block) (counting w rs)) < shape.shards → counts w r rs (counting w rs) ≡ true
counts-new w rs r frame block shape agree below of none less =
    let older = Agree-tail r rs frame block shape agree in
    let last = All-head (SaysOfFrame frame shape) r rs agree.frames (of_block-frame frame block r of).0 in
    let here = All-head (SaysOfBlock frame block shape) r rs agree.blocks of in
    let like_frame = λ (s : Received) (says : SaysOfFrame frame shape s) (passes : is_of_frame frame s ≡ true).
    eq-eqb r.head.last_block s.head.last_block (last ∙ sym (says (eqb-true s.head.frame frame passes))) in
    let like_block = λ (s : Received) (says : SaysOfBlock frame block shape s) (passes : is_of_block frame block s ≡ true).
    and_from (r.head.shards == s.head.shards) (r.head.percentage == s.head.percentage)
    (eq-eqb r.head.shards s.head.shards (here.0 ∙ sym (says passes).0))
    (eq-eqb r.head.percentage s.head.percentage (here.1 ∙ sym (says passes).1)) in
    let LikeFrame = λ (s : Received). is_of_frame frame s ≡ true → same_frame r (Some s) ≡ true in
    let LikeBlock = λ (s : Received). is_of_block frame block s ≡ true → same_block r (Some s) ≡ true in
    let frames = All-weaker (SaysOfFrame frame shape) LikeFrame like_frame rs older.frames in
    let blocks = All-weaker (SaysOfBlock frame block shape) LikeBlock like_block rs older.blocks in
    let frame_first = oldest-each (λ o. same_frame r o ≡ true) (is_of_frame frame) rs refl frames in
    let block_first = oldest-each (λ o. same_block r o ≡ true) (is_of_block frame block) (counting w rs) refl (counting-all w LikeBlock rs blocks) in
    let kept = length (filter (is_of_block frame block) (counting w rs)) in
    let within = not (is_left w rs frame) in
    let same = same_frame r (oldest (is_of_frame frame) rs) in
    let alike = same_block r (oldest (is_of_block frame block) (counting w rs)) in
    let new = not (list_any (is_shard frame block r.head.index) (counting w rs)) in
    let room : kept < r.head.shards = omega (arith, here.0) in
    let two = and_from within same (grind (arith, nat_tests)) frame_first in
    let three = and_from (within && same) alike two block_first in
    let four = and_from (within && same && alike) new three (not_from_false (list_any (is_shard frame block r.head.index) (counting w rs)) none) in
    counts_in-is w frame block r rs (counting w rs) of
    ∙ and_from (within && same && alike && new) (nat_lt kept r.head.shards) four (lt-ltb kept r.head.shards room)

-- ---- the counting members of a block

-- those that count of a block
abbrev held : ℕ → ℕ → ℕ → List Received → List Received
held w frame block rs = filter (is_of_block frame block) (counting w rs)

-- one that doesn't count changes nothing
held-not : (w frame block : ℕ) (r : Received) (rs : List Received) → counts w r rs (counting w rs) ≡ false
    → length (held w frame block (r ∷ rs)) ≡ length (held w frame block rs)
held-not w frame block r rs not_one = ap (λ (counted : List Received). length (filter (is_of_block frame block) counted)) (counting-not w r rs not_one)

-- nor does one of another block
held-other : (w frame block : ℕ) (r : Received) (rs : List Received) → counts w r rs (counting w rs) ≡ true → is_of_block frame block r ≡ false
    → length (held w frame block (r ∷ rs)) ≡ length (held w frame block rs)
held-other w frame block r rs one other =
    ap (λ (counted : List Received). length (filter (is_of_block frame block) counted)) (counting-one w r rs one)
    ∙ ap (λ (kept : List Received). length kept) (cond-false (is_of_block frame block r) (r ∷ held w frame block rs) (held w frame block rs) other)

-- one of the block that counts is one more
held-more : (w frame block : ℕ) (r : Received) (rs : List Received) → counts w r rs (counting w rs) ≡ true → is_of_block frame block r ≡ true
    → length (held w frame block (r ∷ rs)) ≡ suc (length (held w frame block rs))
held-more w frame block r rs one of =
    ap (λ (counted : List Received). length (filter (is_of_block frame block) counted)) (counting-one w r rs one)
    ∙ ap (λ (kept : List Received). length kept) (cond-true (is_of_block frame block r) (r ∷ held w frame block rs) (held w frame block rs) of)

-- they grow
held-grows : (w frame block : ℕ) (r : Received) (rs : List Received) → counts w r rs (counting w rs) ≡ true
    → length (held w frame block rs) ≤ length (held w frame block (r ∷ rs))
held-grows w frame block r rs one = elim (cases_Bool (is_of_block frame block r)) [
  | inl of ↦ omega (arith, held-more w frame block r rs one of)
  | inr other ↦ omega (arith, held-other w frame block r rs one other)
]

-- they are no more than its data shards
held-few : (w : ℕ) (rs : List Received) (frame block : ℕ) (shape : Shape) → Agree rs frame block shape
    → length (held w frame block rs) ≤ shape.shards
held-few w [] frame block shape agree =
    let none = ap (λ (counted : List Received). length (filter (is_of_block frame block) counted)) (counting-empty w) in omega arith
held-few w (r ∷ rs) frame block shape agree =
    let few = held-few w rs frame block shape (Agree-tail r rs frame block shape agree) in
    elim (cases_Bool (counts w r rs (counting w rs))) [
      | inl one ↦
          elim (cases_Bool (is_of_block frame block r)) [
            | inl of ↦
                let here = All-head (SaysOfBlock frame block shape) r rs agree.blocks of in
                omega (arith, held-more w frame block r rs one of, counts-room w frame block r rs (counting w rs) of one, here.0)
            | inr other ↦ omega (arith, few, held-other w frame block r rs one other)
          ]
      | inr not_one ↦ omega (arith, few, held-not w frame block r rs not_one)
    ]

-- a member's shard is among the counting ones
abbrev IsHeld : ℕ → ℕ → List Received → Received → Type 0
IsHeld frame block counted r = is_of_block frame block r ≡ true → list_any (is_shard frame block r.head.index) counted ≡ true

-- where one of the frame came and it isn't left, there is room for a frame below
frame_less : (r : Received) (rs : List Received) (frame block w : ℕ) → is_of_block frame block r ≡ true → All (λ s. s.head.frame < frame + w) (r ∷ rs)
    → 0 < frame + w
frame_less r rs frame block w of below =
    let first : r.head.frame < frame + w = All-head (λ s. s.head.frame < frame + w) r rs below in omega arith

-- where they are fewer than its data shards, the shard of each member that came is among them
held-all : (w : ℕ) (rs : List Received) (frame block : ℕ) (shape : Shape) → Agree rs frame block shape
    → All (λ r. r.head.frame < frame + w) rs
    → length (held w frame block rs) < shape.shards → All (IsHeld frame block (counting w rs)) rs
held-all w [] frame block shape agree below less = λ k d h. absurd (omega arith)
held-all w (r ∷ rs) frame block shape agree below less =
    let older = Agree-tail r rs frame block shape agree in
    let below_rest = All-tail (λ s. s.head.frame < frame + w) r rs below in
    elim (cases_Bool (counts w r rs (counting w rs))) [
      | inl one ↦
          let rest = held-all w rs frame block shape older below_rest (omega (arith, held-grows w frame block r rs one)) in
          subst (λ (counted : List Received). All (IsHeld frame block counted) (r ∷ rs)) (sym (counting-one w r rs one))
          (All-cons (IsHeld frame block (r ∷ counting w rs)) r rs
          (λ of. or_left (is_shard frame block r.head.index r) _
          (and_from (is_of_block frame block r) (r.head.index == r.head.index) of (eq-eqb r.head.index r.head.index refl)))
          (All-weaker (IsHeld frame block (counting w rs)) (IsHeld frame block (r ∷ counting w rs))
          (λ s has of. or_right (is_shard frame block s.head.index r) _ (has of)) rs rest))
      | inr not_one ↦
          let less_rest : length (held w frame block rs) < shape.shards = omega (arith, held-not w frame block r rs not_one) in
          let rest = held-all w rs frame block shape older below_rest less_rest in
          subst (λ (counted : List Received). All (IsHeld frame block counted) (r ∷ rs)) (sym (counting-not w r rs not_one))
          (All-cons (IsHeld frame block (counting w rs)) r rs
          (λ of. true_from_ne_false _ (λ none. both_ways (counts w r rs (counting w rs)) not_one
          (counts-new w rs r frame block shape agree
          (greatest-less (frame + w) rs (frame_less r rs frame block w of below) below_rest) of none less_rest)))
          rest)
    ]

-- ---- distinct shards

abbrev number_of : Received → ℕ
number_of r = r.head.index

-- a shard is among them where its number is
shard-is_member : (frame block index : ℕ) (rs : List Received)
    → list_any (is_shard frame block index) rs ≡ is_member nat_eq (map number_of (filter (is_of_block frame block) rs)) index
shard-is_member frame block index [] = refl
shard-is_member frame block index (r ∷ rs) =
    let rest = shard-is_member frame block index rs in
    let flip : (r.head.index == index) ≡ (index == r.head.index) = grind (arith, nat_tests) in
    elim (cases_Bool (is_of_block frame block r)) [
      | inl of ↦ rw (of, flip, rest) refl
      | inr other ↦ rw (other, rest) refl
    ]

-- numbers that are all among others, no two the same, are no more than those
distinct-few : (xs ys : List ℕ) → AllPairs (λ m n. m ≢ n) xs → All (λ n. is_member nat_eq ys n ≡ true) xs → length xs ≤ length ys
distinct-few xs ys apart among =
    length-le_from_is_member nat_eq_equiv xs ys
    (IsDistinct-from_apart nat_eq xs (λ i j d less h. ne_eqb (get_or xs i d) (get_or xs j d) (apart i j d less h)))
    (λ q in_xs. All-contains (λ n. is_member nat_eq ys n ≡ true) xs q among ((is_member-Decides Decides-eqb xs q).0 in_xs))

-- the law
pub distinct_shards_fill : DistinctShardsFillBlock
distinct_shards_fill w rs chosen frame block shape agree below apart of came enough =
    let few = held-few w rs frame block shape agree in
    elim (cases_lt (length (held w frame block rs)) shape.shards) [
      | inl less ↦
          let all = held-all w rs frame block shape agree below less in
          let numbers = map number_of (held w frame block rs) in
          let among = All-map (λ n. is_member nat_eq numbers n ≡ true) number_of chosen (λ k d h.
          sym (shard-is_member frame block (get_or chosen k d).head.index (counting w rs))
          ∙ All-contains (IsHeld frame block (counting w rs)) rs (get_or chosen k d) all (came k d h) (of k d h)) in
          let few_numbers = distinct-few (map number_of chosen) numbers (numbers_apart number_of chosen apart) among in
          absurd (omega (arith, few_numbers, length-map chosen number_of, length-map (held w frame block rs) number_of))
      | inr full ↦ omega (arith, few)
    ]
