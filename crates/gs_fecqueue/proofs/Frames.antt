-- What a frame's blocks hold together.
use Rattle.std.proofs.Common.{◌≡◌, ◌≢◌, ◌<◌, ◌≤◌, ◌+◌, ◌-◌, ◌⊎◌, ℕ, zero, suc, Bool, true, false, ◌&&◌, not, cond, List, [], ◌∷◌, ◌++◌, length, get_or, set}
use Rattle.std.proofs.Common.{take, Option, Some, None, refl, sym, ap, subst, ◌∙◌, arith, inl, inr, add-zero}
use Rattle.std.specs.Prelude.{◌==◌, if◌then◌else◌}
use Rattle.std.specs.List.{filter, flat_map, list_all, range_with_len, slice_get}
use Rattle.std.proofs.Math.Seq.{take-suc}
use Rattle.std.proofs.lemmas.Bool.{cases_Bool, cases_eq, cond-true, cond-false, eq-eqb, ne_eqb, eqb-true, and_parts, and_from, and_left, both_ways}
use Rattle.std.proofs.lemmas.List.{append-nil}
use Rattle.std.proofs.lemmas.List.Concat.{flat_map-append}
use Rattle.gs_rtp.specs.Stream.{StreamSettings}
use Rattle.gs_frames.specs.Shards.{payload_of}
use Rattle.gs_frames.specs.Received.{Received, oldest, is_of_block}
use Rattle.gs_frames.specs.Verdict.{first_or, has_all, is_block_whole, is_frame_whole}
use Rattle.gs_frames.specs.Complete.{joined_payloads, block_payloads, both, payloads}
use Rattle.gs_frames.proofs.Counting.{oldest-miss, oldest-kept, oldest-new}
use Rattle.gs_fecqueue.specs.declared.block.Block.{Block}
use Rattle.gs_fecqueue.specs.Holding.{data_of_block, HoldsShards, HoldsBlock}
use Rattle.gs_fecqueue.specs.BlockVerdict.{held_behind, first_behind}
use Rattle.gs_fecqueue.specs.FrameHolding.{is_whole_room, HoldsBlockOf, counted_behind, first_data}

-- ---- one block

-- a block is whole where its room is
pub room_whole : (s : StreamSettings) (block : Block) (held : List Received) (o : Option Received) → HoldsBlock s block held o
    → is_whole_room block ≡ has_all held o
room_whole s block held None holds =
    ap (λ (n : ℕ). not (n == 0) && n == block.shards) holds.1
room_whole s block held (Some f) holds =
    let some : (block.held == 0) ≡ false = ne_eqb block.held 0 (λ e. absurd (omega (arith, holds.some, holds.room.count))) in
    ap (λ (b : Bool). not b && block.held == block.shards) some
    ∙ ap (λ (n : ℕ). n == block.shards) holds.room.count
    ∙ ap (λ (n : ℕ). length held == n) holds.room.shards

-- a whole block has its payloads
pub block-data : (s : StreamSettings) (block : Block) (held : List Received) (o : Option Received) → HoldsBlock s block held o
    → has_all held o ≡ true → block_payloads s held o ≡ Some (data_of_block (payload_of s) block)
block-data s block held None holds whole = cc
block-data s block held (Some f) holds whole =
    cond-true (length held == f.head.shards) (Some (joined_payloads s held f)) None whole
    ∙ ap (λ (l : List ℕ). Some l) (sym (holds.whole (eqb-true (length held) f.head.shards whole)))

-- ---- all of them

-- what holds of the blocks from a on
abbrev pub HoldFrom : StreamSettings → List Received → ℕ → ℕ → List Block → Type 0
HoldFrom s counted f a blocks =
    (b i : ℕ) (block : Block) → slice_get blocks b ≡ Some block → a + b ≡ i → HoldsBlockOf s counted f i block

pub hold-first : (s : StreamSettings) (counted : List Received) (f a : ℕ) (block : Block) (blocks : List Block) → HoldFrom s counted f a (block ∷ blocks)
    → HoldsBlockOf s counted f a block
hold-first s counted f a block blocks hold = hold 0 a block refl (add-zero a)

hold-rest : (s : StreamSettings) (counted : List Received) (f a : ℕ) (block : Block) (blocks : List Block) → HoldFrom s counted f a (block ∷ blocks)
    → HoldFrom s counted f (a + 1) blocks
hold-rest s counted f a block blocks hold = λ b i x e at. hold (suc b) i x e (omega arith)

-- they are whole where their rooms are
pub all_whole : (s : StreamSettings) (counted : List Received) (f a n : ℕ) (blocks : List Block) → n ≤ length blocks → HoldFrom s counted f a blocks
    → list_all is_whole_room (take n blocks) ≡ list_all (is_block_whole counted f) (range_with_len a n)
all_whole s counted f a zero blocks room hold = refl
all_whole s counted f a (suc n) [] room hold = absurd (omega arith)
all_whole s counted f a (suc n) (block ∷ blocks) room hold =
    let first : is_whole_room block ≡ is_block_whole counted f a =
    room_whole s block (filter (is_of_block f a) counted) (oldest (is_of_block f a) counted) (hold-first s counted f a block blocks hold) in
    let rest = all_whole s counted f (a + 1) n blocks (omega arith) (hold-rest s counted f a block blocks hold) in
    ap (λ (b : Bool). b && list_all is_whole_room (take n blocks)) first
    ∙ ap (λ (b : Bool). is_block_whole counted f a && b) rest

-- each of a range passes
pub range-each : (test : ℕ → Bool) (a n b : ℕ) → list_all test (range_with_len a n) ≡ true → a ≤ b → b < a + n → test b ≡ true
range-each test a zero b all least most = absurd (omega arith)
range-each test a (suc n) b all least most =
    let parts = and_parts (test a) (list_all test (range_with_len (a + 1) n)) all in
    elim (cases_eq a b) [
      | inl this ↦ ap test (sym this) ∙ parts.0
      | inr other ↦ range-each test (a + 1) n b parts.1 (omega arith) (omega arith)
    ]

-- the payloads of the first n blocks stand in their rooms
pub payloads-held : (s : StreamSettings) (counted : List Received) (f n : ℕ) (blocks : List Block) → n ≤ length blocks → HoldFrom s counted f 0 blocks
    → ((b : ℕ) → b < n → is_block_whole counted f b ≡ true)
    → payloads s counted f n ≡ Some (flat_map (data_of_block (payload_of s)) (take n blocks))
payloads-held s counted f zero blocks room hold whole = refl
payloads-held s counted f (suc n) blocks room hold whole =
    let size = payload_of s in
    let before = payloads-held s counted f n blocks (omega arith) hold (λ b h. whole b (omega arith)) in
    let at = block_at blocks n (omega arith) in
    let block = at.0 in
    let held = filter (is_of_block f n) counted in
    let o = oldest (is_of_block f n) counted in
    let here : block_payloads s held o ≡ Some (data_of_block size block) =
    block-data s block held o (hold n n block at.1 (omega arith)) (whole n (omega arith)) in
    ap (λ (p : Option (List ℕ)). both p (block_payloads s held o)) before
    ∙ ap (λ (p : Option (List ℕ)). both (Some (flat_map (data_of_block size) (take n blocks))) p) here
    ∙ ap (λ (l : List ℕ). Some l)
    (ap (λ (l : List ℕ). flat_map (data_of_block size) (take n blocks) ++ l) (sym (append-nil (data_of_block size block)))
    ∙ sym (flat_map-append (data_of_block size) (take n blocks) (block ∷ []))
    ∙ ap (λ (l : List Block). flat_map (data_of_block size) l) (sym (take-one blocks n block at.1)))
  where
    block_at : (xs : List Block) (i : ℕ) → i < length xs → (x : Block) × (slice_get xs i ≡ Some x)
    block_at [] i h = absurd (omega arith)
    block_at (x ∷ xs) zero h = (x, refl)
    block_at (x ∷ xs) (suc i) h = block_at xs i (omega arith)

    take-one : (xs : List Block) (i : ℕ) (x : Block) → slice_get xs i ≡ Some x → take (suc i) xs ≡ take i xs ++ x ∷ []
    take-one [] i x e = cc
    take-one (y ∷ ys) zero x e = let same : y ≡ x = cc in ap (λ (z : Block). z ∷ []) same
    take-one (y ∷ ys) (suc i) x e = ap (λ (l : List Block). y ∷ l) (take-one ys i x e)

-- those of one block
pub payloads-one : (s : StreamSettings) (counted : List Received) (f : ℕ) (blocks : List Block) → 1 ≤ length blocks → HoldFrom s counted f 0 blocks
    → is_block_whole counted f 0 ≡ true → payloads s counted f 1 ≡ Some (first_data (payload_of s) blocks)
payloads-one s counted f [] room hold whole = absurd (omega arith)
payloads-one s counted f (block ∷ blocks) room hold whole =
    ap (λ (p : Option (List ℕ)). both (Some []) p)
    (block-data s block (filter (is_of_block f 0) counted) (oldest (is_of_block f 0) counted) (hold-first s counted f 0 block blocks hold) whole)

-- ---- one of them changes

-- an element of a list in which one was written
pub set-get : {X : Type 0} (xs : List X) (i j : ℕ) (x y : X) → slice_get (set xs i x) j ≡ Some y
    → ((j ≡ i) × (y ≡ x)) ⊎ ((j ≢ i) × (slice_get xs j ≡ Some y))
set-get [] i j x y e = cc
set-get (z ∷ zs) zero zero x y e = let same : x ≡ y = cc in inl (refl, sym same)
set-get (z ∷ zs) zero (suc j) x y e = inr (λ h. absurd (omega arith), e)
set-get (z ∷ zs) (suc i) zero x y e = inr (λ h. absurd (omega arith), e)
set-get (z ∷ zs) (suc i) (suc j) x y e = elim (set-get zs i j x y e) [
  | inl this ↦ inl (ap (λ (n : ℕ). suc n) this.0, this.1)
  | inr other ↦ inr (λ h. other.0 (omega arith), other.1)
]

-- the one that was written, and the others
pub get-set_same : {X : Type 0} (xs : List X) (i : ℕ) (x y : X) → slice_get xs i ≡ Some y → slice_get (set xs i x) i ≡ Some x
get-set_same [] i x y e = cc
get-set_same (z ∷ zs) zero x y e = refl
get-set_same (z ∷ zs) (suc i) x y e = get-set_same zs i x y e

pub get-set_other : {X : Type 0} (xs : List X) (i j : ℕ) (x : X) → j ≢ i → slice_get (set xs i x) j ≡ slice_get xs j
get-set_other [] i j x other = refl
get-set_other (z ∷ zs) zero zero x other = absurd (other refl)
get-set_other (z ∷ zs) zero (suc j) x other = refl
get-set_other (z ∷ zs) (suc i) zero x other = refl
get-set_other (z ∷ zs) (suc i) (suc j) x other = get-set_other zs i j x (λ e. other (ap (λ (n : ℕ). suc n) e))

-- what counts of r's block, and the first of it
pub filter-own : (f b : ℕ) (counts : Bool) (r : Received) (counted : List Received) → is_of_block f b r ≡ true
    → filter (is_of_block f b) (counted_behind counts r counted) ≡ held_behind counts r (filter (is_of_block f b) counted)
filter-own f b true r counted own = cond-true (is_of_block f b r) (r ∷ filter (is_of_block f b) counted) (filter (is_of_block f b) counted) own
filter-own f b false r counted own = refl

oldest-behind : (f b : ℕ) (r : Received) (counted : List Received) (o : Option Received) → oldest (is_of_block f b) counted ≡ o → is_of_block f b r ≡ true
    → oldest (is_of_block f b) (r ∷ counted) ≡ Some (first_or r o)
oldest-behind f b r counted None e own = oldest-new (is_of_block f b) r counted e own
oldest-behind f b r counted (Some first) e own = oldest-kept (is_of_block f b) r counted first e

pub oldest-own : (f b : ℕ) (counts : Bool) (r : Received) (counted : List Received) → is_of_block f b r ≡ true
    → oldest (is_of_block f b) (counted_behind counts r counted) ≡ first_behind counts r (oldest (is_of_block f b) counted)
oldest-own f b true r counted own = oldest-behind f b r counted (oldest (is_of_block f b) counted) refl own
oldest-own f b false r counted own = refl

-- of another block neither changes
pub filter-other : (f b : ℕ) (counts : Bool) (r : Received) (counted : List Received) → is_of_block f b r ≡ false
    → filter (is_of_block f b) (counted_behind counts r counted) ≡ filter (is_of_block f b) counted
filter-other f b true r counted other = cond-false (is_of_block f b r) (r ∷ filter (is_of_block f b) counted) (filter (is_of_block f b) counted) other
filter-other f b false r counted other = refl

pub oldest-other : (f b : ℕ) (counts : Bool) (r : Received) (counted : List Received) → is_of_block f b r ≡ false
    → oldest (is_of_block f b) (counted_behind counts r counted) ≡ oldest (is_of_block f b) counted
oldest-other f b true r counted other = oldest-miss (is_of_block f b) r counted other
oldest-other f b false r counted other = refl

-- a block that isn't r's holds what it held
pub other-holds : (s : StreamSettings) (counted : List Received) (f b : ℕ) (counts : Bool) (r : Received) (block : Block) → is_of_block f b r ≡ false
    → HoldsBlockOf s counted f b block → HoldsBlockOf s (counted_behind counts r counted) f b block
other-holds s counted f b counts r block other holds =
    let H : List Received → Option Received → Type 0 = λ l o. HoldsBlock s block l o in
    let now = counted_behind counts r counted in
    let e1 = sym (filter-other f b counts r counted other) in
    let e2 = sym (oldest-other f b counts r counted other) in
    subst (λ (o : Option Received). H (filter (is_of_block f b) now) o) e2
    (subst (λ (l : List Received). H l (oldest (is_of_block f b) counted)) e1 holds)

-- r's block, by what holds of it
pub own-holds : (s : StreamSettings) (counted : List Received) (f b : ℕ) (counts : Bool) (r : Received) (block : Block) → is_of_block f b r ≡ true
    → HoldsBlock s block (held_behind counts r (filter (is_of_block f b) counted)) (first_behind counts r (oldest (is_of_block f b) counted))
    → HoldsBlockOf s (counted_behind counts r counted) f b block
own-holds s counted f b counts r block own holds =
    let H : List Received → Option Received → Type 0 = λ l o. HoldsBlock s block l o in
    let now = counted_behind counts r counted in
    let e1 = sym (filter-own f b counts r counted own) in
    let e2 = sym (oldest-own f b counts r counted own) in
    subst (λ (o : Option Received). H (filter (is_of_block f b) now) o) e2
    (subst (λ (l : List Received). H l (first_behind counts r (oldest (is_of_block f b) counted))) e1 holds)
