-- A frame that is complete stays so: a block that is whole takes no other shard.
use Rattle.std.proofs.Common.{◌≡◌, ◌<◌, ◌+◌, ℕ, zero, suc, true, false, ◌&&◌, not, List, ◌∷◌, ◌++◌, length, Option, Some, None, refl, sym, ap, subst, ◌∙◌}
use Rattle.std.proofs.Common.{arith, inl, inr}
use Rattle.std.specs.Prelude.{nat_lt, ◌==◌}
use Rattle.std.specs.List.{filter, list_any}
use Rattle.std.proofs.lemmas.Bool.{cases_Bool, cond-false, and_parts, eqb-true, ltb-true}
use Rattle.std.proofs.lemmas.Option.{cond_some}
use Rattle.gs_rtp.specs.Stream.{StreamSettings}
use Rattle.gs_frames.specs.Shards.{payload_of}
use Rattle.gs_frames.specs.Image.{Frame}
use Rattle.gs_frames.specs.Received.{Received, is_left, oldest, is_of_frame, is_of_block}
use Rattle.gs_frames.specs.Verdict.{counting}
use Rattle.gs_frames.specs.Complete.{block_payloads, both, payloads, image_behind, frame_in}
use Rattle.gs_frames.specs.CompleteLaws.{CompleteFrameStays}
use Rattle.gs_frames.proofs.Judged.{same_frame, same_block, is_shard, counts}
use Rattle.gs_frames.proofs.Counting.{oldest-miss, oldest-kept, of_block-frame, counting-not, counting-one, complete_by, complete-is, complete-same}

-- ---- what a test of `counts` gives

-- one that counts: its frame isn't left, it agrees with its frame and its block, its shard isn't there, and
-- its block has fewer shards than data shards
pub record AreCountsParts (w : ℕ) (r : Received) (before counted : List Received) : Type 0 where
  pub not_left : not (is_left w before r.head.frame) ≡ true
  pub frame : same_frame r (oldest (is_of_frame r.head.frame) before) ≡ true
  pub block : same_block r (oldest (is_of_block r.head.frame r.head.block) counted) ≡ true
  pub other : not (list_any (is_shard r.head.frame r.head.block r.head.index) counted) ≡ true
  pub room : nat_lt (length (filter (is_of_block r.head.frame r.head.block) counted)) r.head.shards ≡ true

-- the parts of its test
pub counts-parts : (w : ℕ) (r : Received) (before counted : List Received) → counts w r before counted ≡ true → AreCountsParts w r before counted
counts-parts w r before counted e =
    let room = nat_lt (length (filter (is_of_block r.head.frame r.head.block) counted)) r.head.shards in
    let other = not (list_any (is_shard r.head.frame r.head.block r.head.index) counted) in
    let block = same_block r (oldest (is_of_block r.head.frame r.head.block) counted) in
    let frame = same_frame r (oldest (is_of_frame r.head.frame) before) in
    let within = not (is_left w before r.head.frame) in
    let last = and_parts (within && frame && block && other) room e in
    let fourth = and_parts (within && frame && block) other last.0 in
    let third = and_parts (within && frame) block fourth.0 in
    let second = and_parts within frame third.0 in
    record { not_left = second.0; frame = second.1; block = third.1; other = fourth.1; room = last.1 }

-- ---- whole blocks

-- both parts of what both hold
pub both-some : (x y : Option (List ℕ)) (z : List ℕ) → both x y ≡ Some z
    → (a : List ℕ) × (b : List ℕ) × (x ≡ Some a) × (y ≡ Some b) × (a ++ b ≡ z)
both-some None y z e = cc
both-some (Some a) None z e = cc
both-some (Some a) (Some b) z e = let same : a ++ b ≡ z = cc in (a, b, refl, refl, same)

-- a block's first shard and its shards, where r may be the next of it
abbrev IsNext : Received → List Received → ℕ → ℕ → Type 0
IsNext r counted f block =
    (same_block r (oldest (is_of_block f block) counted) ≡ true)
    × (nat_lt (length (filter (is_of_block f block) counted)) r.head.shards ≡ true)

-- a whole block has no next one
whole_block-next : (s : StreamSettings) (r : Received) (held : List Received) (o : Option Received) (bytes : List ℕ)
    → same_block r o ≡ true → nat_lt (length held) r.head.shards ≡ true → block_payloads s held o ≡ Some bytes → ⊥
whole_block-next s r held None bytes agrees room e = cc
whole_block-next s r held (Some first) bytes agrees room e =
    let whole = cond_some (length held == first.head.shards) _ bytes e in
    let size : length held ≡ first.head.shards = eqb-true (length held) first.head.shards whole.0 in
    let same = and_parts (r.head.shards == first.head.shards) (r.head.percentage == first.head.percentage) agrees in
    let shards : r.head.shards ≡ first.head.shards = eqb-true r.head.shards first.head.shards same.0 in
    let less : length held < r.head.shards = ltb-true (length held) r.head.shards room in
    absurd (omega arith)

-- so what counts next isn't of it
whole_block-miss : (s : StreamSettings) (r : Received) (counted : List Received) (f block : ℕ) (bytes : List ℕ) → IsNext r counted r.head.frame r.head.block
    → block_payloads s (filter (is_of_block f block) counted) (oldest (is_of_block f block) counted) ≡ Some bytes → is_of_block f block r ≡ false
whole_block-miss s r counted f block bytes next e = elim (cases_Bool (is_of_block f block r)) [
  | inr fails ↦ fails
  | inl passes ↦
      let of = of_block-frame f block r passes in
      let Frame_of : ℕ → Type 0 = λ g. IsNext r counted g r.head.block in
      let Block_of : ℕ → Type 0 = λ b. IsNext r counted f b in
      let here : IsNext r counted f block =
      subst Block_of of.1 (subst Frame_of of.0 next) in
      absurd (whole_block-next s r (filter (is_of_block f block) counted) (oldest (is_of_block f block) counted) bytes here.0 here.1 e)
]

-- whole blocks stay as they are
payloads-kept : (s : StreamSettings) (r : Received) (counted : List Received) (f n : ℕ) (image : List ℕ) → IsNext r counted r.head.frame r.head.block
    → payloads s counted f n ≡ Some image → payloads s (r ∷ counted) f n ≡ Some image
payloads-kept s r counted f zero image next e = e
payloads-kept s r counted f (suc n) image next e =
    let block = block_payloads s (filter (is_of_block f n) counted) (oldest (is_of_block f n) counted) in
    let parts = both-some (payloads s counted f n) block image e in
    let miss = whole_block-miss s r counted f n parts.1 next parts.3 in
    let before = payloads-kept s r counted f n parts.0 next parts.2 in
    let kept = cond-false (is_of_block f n r) (r ∷ filter (is_of_block f n) counted) (filter (is_of_block f n) counted) miss in
    let first = oldest-miss (is_of_block f n) r counted miss in
    ap (λ (p : Option (List ℕ)). both p (block_payloads s (filter (is_of_block f n) (r ∷ counted)) (oldest (is_of_block f n) (r ∷ counted))))
    (before ∙ sym parts.2)
    ∙ ap (λ (held : List Received). both (payloads s counted f n) (block_payloads s held (oldest (is_of_block f n) (r ∷ counted)))) kept
    ∙ ap (λ (o : Option Received). both (payloads s counted f n) (block_payloads s (filter (is_of_block f n) counted) o)) first
    ∙ e

-- ---- the frame

-- what a complete frame's image is
pub frame_in-some : (payload : ℕ) (o : Option (List ℕ)) (held : Frame) → frame_in payload o ≡ Some held → (image : List ℕ) × (o ≡ Some image)
frame_in-some payload None held e = cc
frame_in-some payload (Some image) held e = (image, refl)

-- by what came first of it
stays_behind : (s : StreamSettings) (w : ℕ) (r : Received) (rs : List Received) (f : ℕ) (held : Frame) (o : Option Received) → oldest (is_of_frame f) rs ≡ o
    → counts w r rs (counting w rs) ≡ true → complete_by s f (counting w rs) o ≡ Some held
    → complete_by s f (r ∷ counting w rs) (oldest (is_of_frame f) (r ∷ rs)) ≡ Some held
stays_behind s w r rs f held None first one e = let none : None ≡ Some held = e in cc
stays_behind s w r rs f held (Some o) first one e =
    let parts = counts-parts w r rs (counting w rs) one in
    let image = frame_in-some (payload_of s) (image_behind s (counting w rs) f (Some o)) held e in
    let kept = payloads-kept s r (counting w rs) f (o.head.last_block + 1) image.0 (parts.block, parts.room) image.1 in
    ap (complete_by s f (r ∷ counting w rs)) (oldest-kept (is_of_frame f) r rs o first)
    ∙ ap (frame_in (payload_of s)) (kept ∙ sym image.1) ∙ e

-- where nothing came first of it, it isn't complete
first_of-complete : (s : StreamSettings) (f : ℕ) (counted : List Received) (o : Option Received) (held : Frame)
    → complete_by s f counted o ≡ Some held → (first : Received) × (o ≡ Some first)
first_of-complete s f counted None held e = let none : None ≡ Some held = e in cc
first_of-complete s f counted (Some first) held e = (first, refl)

-- the law
pub complete_stays : CompleteFrameStays
complete_stays c r rs f held e =
    let by = sym (complete-is c rs f) ∙ e in
    elim (cases_Bool (counts c.window r rs (counting c.window rs))) [
      | inl one ↦
          complete-is c (r ∷ rs) f
          ∙ ap (λ (cs : List Received). complete_by c.stream f cs (oldest (is_of_frame f) (r ∷ rs))) (counting-one c.window r rs one)
          ∙ stays_behind c.stream c.window r rs f held (oldest (is_of_frame f) rs) refl one by
      | inr not_one ↦
          let first = first_of-complete c.stream f (counting c.window rs) (oldest (is_of_frame f) rs) held by in
          complete-same c (r ∷ rs) rs f (counting-not c.window r rs not_one) (oldest-kept (is_of_frame f) r rs first.0 first.1 ∙ sym first.1) ∙ e
    ]
