-- What one more datagram changes in what came first, what counts and what is complete.
use Rattle.std.proofs.Common.{◌≡◌, ◌<◌, ◌≤◌, ◌+◌, ℕ, zero, suc, Bool, true, false, List, [], ◌∷◌, Option, Some, None, refl, sym, ap, ◌∙◌, arith, inl, inr}
use Rattle.std.specs.Prelude.{nat_le, ◌==◌, if◌then◌else◌}
use Rattle.std.specs.List.{filter, list_any}
use Rattle.std.proofs.lemmas.Bool.{cond-true, cond-false, and_left, and_parts, eqb-true, cases_Bool, ne_eqb}
use Rattle.std.proofs.lemmas.Bool.Decides.{nat_tests}
use Rattle.gs_rtp.specs.Stream.{StreamSettings}
use Rattle.gs_frames.specs.Shards.{payload_of}
use Rattle.gs_frames.specs.Client.{ClientSettings}
use Rattle.gs_frames.specs.Received.{Received, greatest, oldest, is_of_frame, is_of_block}
use Rattle.gs_frames.specs.Verdict.{counting}
use Rattle.gs_frames.proofs.Judged.{is_shard, counts, counting-empty, counting-first}
use Rattle.gs_frames.specs.Complete.{block_payloads, both, payloads, image_behind, frame_in, complete}

-- ---- the first that came

abbrev or_this : (Received → Bool) → Received → Option Received → Option Received
or_this test r o = elim o [ Some first ↦ Some first | None ↦ if test r then Some r else None ]

or_this-miss : (test : Received → Bool) (r : Received) (o : Option Received) → test r ≡ false → or_this test r o ≡ o
or_this-miss test r (Some first) e = refl
or_this-miss test r None e = cond-false (test r) (Some r) None e

or_this-none : (test : Received → Bool) (r : Received) (o : Option Received) → or_this test r o ≡ None → (o ≡ None) × (test r ≡ false)
or_this-none test r (Some first) e = cc
or_this-none test r None e = elim (cases_Bool (test r)) [
  | inl passes ↦ let is_some : Some r ≡ None = sym (cond-true (test r) (Some r) None passes) ∙ e in cc
  | inr fails ↦ (refl, fails)
]

-- one that fails the test changes nothing
pub oldest-miss : (test : Received → Bool) (r : Received) (rs : List Received) → test r ≡ false → oldest test (r ∷ rs) ≡ oldest test rs
oldest-miss test r rs e = or_this-miss test r (oldest test rs) e

-- nor does a later one
pub oldest-kept : (test : Received → Bool) (r : Received) (rs : List Received) (first : Received) → oldest test rs ≡ Some first
    → oldest test (r ∷ rs) ≡ Some first
oldest-kept test r rs first e = ap (or_this test r) e

pub oldest-new : (test : Received → Bool) (r : Received) (rs : List Received) → oldest test rs ≡ None → test r ≡ true → oldest test (r ∷ rs) ≡ Some r
oldest-new test r rs e passes = ap (or_this test r) e ∙ cond-true (test r) (Some r) None passes

pub oldest-none : (test : Received → Bool) (r : Received) (rs : List Received) → oldest test (r ∷ rs) ≡ None → (oldest test rs ≡ None) × (test r ≡ false)
oldest-none test r rs e = or_this-none test r (oldest test rs) e

-- ---- none of a frame

abbrev pub NoneOf : ℕ → List Received → Type 0
NoneOf f [] = Unit {0}
NoneOf f (r ∷ rs) = (is_of_frame f r ≡ false) × NoneOf f rs

pub NoneOf-from_oldest : (f : ℕ) (rs : List Received) → oldest (is_of_frame f) rs ≡ None → NoneOf f rs
NoneOf-from_oldest f [] e = tt
NoneOf-from_oldest f (r ∷ rs) e =
    let parts = oldest-none (is_of_frame f) r rs e in (parts.1, NoneOf-from_oldest f rs parts.0)

pub oldest_of_frame-none : (f : ℕ) (rs : List Received) → NoneOf f rs → oldest (is_of_frame f) rs ≡ None
oldest_of_frame-none f [] h = refl
oldest_of_frame-none f (r ∷ rs) h = oldest-miss (is_of_frame f) r rs h.0 ∙ oldest_of_frame-none f rs h.1

-- what passes the test of a block is of the frame and the block
pub of_block-frame : (f block : ℕ) (r : Received) → is_of_block f block r ≡ true → (r.head.frame ≡ f) × (r.head.block ≡ block)
of_block-frame f block r passes =
    let tests = and_parts (r.head.frame == f) (r.head.block == block) passes in
    (eqb-true r.head.frame f tests.0, eqb-true r.head.block block tests.1)

pub is_of_block-miss : (f block : ℕ) (r : Received) → is_of_frame f r ≡ false → is_of_block f block r ≡ false
is_of_block-miss f block r e = and_left (r.head.frame == f) (r.head.block == block) e

pub oldest_of_block-none : (f block : ℕ) (rs : List Received) → NoneOf f rs → oldest (is_of_block f block) rs ≡ None
oldest_of_block-none f block [] h = refl
oldest_of_block-none f block (r ∷ rs) h =
    oldest-miss (is_of_block f block) r rs (is_of_block-miss f block r h.0) ∙ oldest_of_block-none f block rs h.1

pub filter_of_block-none : (f block : ℕ) (rs : List Received) → NoneOf f rs → filter (is_of_block f block) rs ≡ []
filter_of_block-none f block [] h = refl
filter_of_block-none f block (r ∷ rs) h =
    cond-false (is_of_block f block r) (r ∷ filter (is_of_block f block) rs) (filter (is_of_block f block) rs) (is_of_block-miss f block r h.0)
    ∙ filter_of_block-none f block rs h.1

pub any_shard-none : (f block index : ℕ) (rs : List Received) → NoneOf f rs → list_any (is_shard f block index) rs ≡ false
any_shard-none f block index [] h = refl
any_shard-none f block index (r ∷ rs) h =
    let fails : is_shard f block index r ≡ false = and_left (is_of_block f block r) (r.head.index == index) (is_of_block-miss f block r h.0) in
    let rest = any_shard-none f block index rs h.1 in
    rw (fails, rest) refl

-- ---- what counts

pub counting-not : (w : ℕ) (r : Received) (rs : List Received) → counts w r rs (counting w rs) ≡ false → counting w (r ∷ rs) ≡ counting w rs
counting-not w r rs e = counting-first w r rs ∙ cond-false (counts w r rs (counting w rs)) (r ∷ counting w rs) (counting w rs) e

pub counting-one : (w : ℕ) (r : Received) (rs : List Received) → counts w r rs (counting w rs) ≡ true → counting w (r ∷ rs) ≡ r ∷ counting w rs
counting-one w r rs e = counting-first w r rs ∙ cond-true (counts w r rs (counting w rs)) (r ∷ counting w rs) (counting w rs) e

pub NoneOf-counting : (w f : ℕ) (rs : List Received) → NoneOf f rs → NoneOf f (counting w rs)
NoneOf-counting w f [] h = rw counting-empty tt
NoneOf-counting w f (r ∷ rs) h = elim (cases_Bool (counts w r rs (counting w rs))) [
  | inl one ↦ let P : List Received → Type 0 = NoneOf f in rw (counting-one w r rs one) (h.0, NoneOf-counting w f rs h.1)
  | inr not_one ↦ rw (counting-not w r rs not_one) (NoneOf-counting w f rs h.1)
]

-- ---- what is complete

payloads-miss : (s : StreamSettings) (r : Received) (counted : List Received) (f n : ℕ) → is_of_frame f r ≡ false
    → payloads s (r ∷ counted) f n ≡ payloads s counted f n
payloads-miss s r counted f zero e = refl
payloads-miss s r counted f (suc n) e =
    let miss = is_of_block-miss f n r e in
    let kept = cond-false (is_of_block f n r) (r ∷ filter (is_of_block f n) counted) (filter (is_of_block f n) counted) miss in
    let first = oldest-miss (is_of_block f n) r counted miss in
    ap (λ (p : Option (List ℕ)). both p (block_payloads s (filter (is_of_block f n) (r ∷ counted)) (oldest (is_of_block f n) (r ∷ counted))))
    (payloads-miss s r counted f n e)
    ∙ ap (λ (held : List Received). both (payloads s counted f n) (block_payloads s held (oldest (is_of_block f n) (r ∷ counted)))) kept
    ∙ ap (λ (o : Option Received). both (payloads s counted f n) (block_payloads s (filter (is_of_block f n) counted) o)) first

image_behind-miss : (s : StreamSettings) (r : Received) (counted : List Received) (f : ℕ) (o : Option Received) → is_of_frame f r ≡ false
    → image_behind s (r ∷ counted) f o ≡ image_behind s counted f o
image_behind-miss s r counted f None e = refl
image_behind-miss s r counted f (Some first) e = payloads-miss s r counted f (first.head.last_block + 1) e

-- a frame by what counts and what came first of it
abbrev pub complete_by : StreamSettings → ℕ → List Received → Option Received → Option Rattle.gs_frames.specs.Image.Frame
complete_by s f counted first = frame_in (payload_of s) (image_behind s counted f first)

pub complete-is : (c : ClientSettings) (rs : List Received) (f : ℕ)
    → complete c rs f ≡ complete_by c.stream f (counting c.window rs) (oldest (is_of_frame f) rs)
unfolding complete
complete-is c rs f = refl

-- where neither what counts nor what came first of a frame changes, nor does the frame
pub complete-same : (c : ClientSettings) (rs rs' : List Received) (f : ℕ) → counting c.window rs ≡ counting c.window rs'
    → oldest (is_of_frame f) rs ≡ oldest (is_of_frame f) rs'
    → complete c rs f ≡ complete c rs' f
complete-same c rs rs' f counted first =
    complete-is c rs f ∙ ap (λ (cs : List Received). complete_by c.stream f cs (oldest (is_of_frame f) rs)) counted
    ∙ ap (complete_by c.stream f (counting c.window rs')) first ∙ sym (complete-is c rs' f)

-- a datagram of another frame doesn't change it
pub complete-other : (c : ClientSettings) (r : Received) (rs : List Received) (f : ℕ) → is_of_frame f r ≡ false → complete c (r ∷ rs) f ≡ complete c rs f
complete-other c r rs f e =
    let first = oldest-miss (is_of_frame f) r rs e in
    elim (cases_Bool (counts c.window r rs (counting c.window rs))) [
      | inl one ↦
          complete-is c (r ∷ rs) f
          ∙ ap (λ (cs : List Received). complete_by c.stream f cs (oldest (is_of_frame f) (r ∷ rs))) (counting-one c.window r rs one)
          ∙ ap (complete_by c.stream f (r ∷ counting c.window rs)) first
          ∙ ap (frame_in (payload_of c.stream)) (image_behind-miss c.stream r (counting c.window rs) f (oldest (is_of_frame f) rs) e)
          ∙ sym (complete-is c rs f)
      | inr not_one ↦ complete-same c (r ∷ rs) rs f (counting-not c.window r rs not_one) first
    ]

-- a frame of which nothing came isn't complete
pub complete-none : (c : ClientSettings) (rs : List Received) (f : ℕ) → NoneOf f rs → complete c rs f ≡ None
complete-none c rs f h = complete-is c rs f ∙ ap (complete_by c.stream f (counting c.window rs)) (oldest_of_frame-none f rs h)

-- a frame with a block that isn't whole has no image
both-none : (x : Option (List ℕ)) → both x None ≡ None
both-none None = refl
both-none (Some x) = refl

-- blocks of which nothing counts aren't whole
payloads-none : (s : StreamSettings) (counted : List Received) (f n : ℕ) → 0 < n → NoneOf f counted → payloads s counted f n ≡ None
payloads-none s counted f zero some none = absurd (omega arith)
payloads-none s counted f (suc n) some none =
    ap (λ (o : Option Received). both (payloads s counted f n) (block_payloads s (filter (is_of_block f n) counted) o)) (oldest_of_block-none f n counted none)
    ∙ both-none (payloads s counted f n)

-- so a frame of which nothing counts isn't complete, whatever came first of it
complete_by-none : (s : StreamSettings) (f : ℕ) (counted : List Received) (o : Option Received) → NoneOf f counted → complete_by s f counted o ≡ None
complete_by-none s f counted None none = refl
complete_by-none s f counted (Some first) none =
    ap (frame_in (payload_of s)) (payloads-none s counted f (first.head.last_block + 1) (omega arith) none)

-- its own frame isn't changed by a datagram that doesn't count
complete-own : (c : ClientSettings) (r : Received) (rs : List Received) (f : ℕ) (o : Option Received) → oldest (is_of_frame f) rs ≡ o
    → counting c.window (r ∷ rs) ≡ counting c.window rs → complete c (r ∷ rs) f ≡ complete c rs f
complete-own c r rs f (Some first) e same =
    complete-same c (r ∷ rs) rs f same (oldest-kept (is_of_frame f) r rs first e ∙ sym e)
complete-own c r rs f None e same =
    let none = NoneOf-from_oldest f rs e in
    complete-is c (r ∷ rs) f
    ∙ ap (λ (cs : List Received). complete_by c.stream f cs (oldest (is_of_frame f) (r ∷ rs))) same
    ∙ complete_by-none c.stream f (counting c.window rs) (oldest (is_of_frame f) (r ∷ rs)) (NoneOf-counting c.window f rs none)
    ∙ sym (complete-none c rs f none)

-- a datagram that doesn't count changes no frame
pub complete-passed : (c : ClientSettings) (r : Received) (rs : List Received) → counting c.window (r ∷ rs) ≡ counting c.window rs
    → (f : ℕ) → complete c (r ∷ rs) f ≡ complete c rs f
complete-passed c r rs same f = complete-own c r rs f (oldest (is_of_frame f) rs) refl same

-- ---- the greatest frame

pub NoneOf-above : (rs : List Received) (f : ℕ) → greatest rs < f → NoneOf f rs
NoneOf-above [] f h = tt
NoneOf-above (r ∷ rs) f h =
    let this : r.head.frame < f = grind (arith, nat_tests) in
    let below : greatest rs < f = grind (arith, nat_tests) in
    (ne_eqb r.head.frame f (λ e. absurd (omega (arith, e))), NoneOf-above rs f below)

pub greatest-new : (r : Received) (rs : List Received) → greatest rs < r.head.frame → greatest (r ∷ rs) ≡ r.head.frame
greatest-new r rs h = grind (arith, nat_tests)

pub greatest-kept : (r : Received) (rs : List Received) → r.head.frame ≤ greatest rs → greatest (r ∷ rs) ≡ greatest rs
greatest-kept r rs h = grind (arith, nat_tests)

-- a datagram of a frame that was left doesn't count
pub counts-left : (w : ℕ) (r : Received) (rs : List Received) → r.head.frame + w ≤ greatest rs → counts w r rs (counting w rs) ≡ false
counts-left w r rs h =
    let left : nat_le (r.head.frame + w) (greatest rs) ≡ true = grind (arith, nat_tests) in
    rw left refl
