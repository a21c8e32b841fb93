-- A frame of which nothing came with one more datagram, and one of which nothing came at all.
use Rattle.std.proofs.Common.{◌≡◌, ◌≢◌, ◌<◌, ◌≤◌, ◌+◌, ◌⊎◌, ℕ, zero, suc, Bool, true, false, ◌&&◌, List, [], ◌∷◌, length, Option, Some, None, refl, sym, ap}
use Rattle.std.proofs.Common.{subst, ◌∙◌, arith, inl, inr}
use Rattle.std.specs.Prelude.{if◌then◌else◌}
use Rattle.std.specs.List.{All, filter, list_all, range_with_len, slice_get}
use Rattle.std.proofs.lemmas.Bool.{cases_Bool, cases_lt, cond-true, cond-false, eq-eqb, ne_eqb, and_parts, both_ways}
use Rattle.std.proofs.lemmas.Option.{slice_get_within, get_or_from_slice_get}
use Rattle.gs_rtp.specs.Stream.{StreamSettings}
use Rattle.gs_frames.specs.Client.{ClientSettings}
use Rattle.gs_frames.specs.Received.{Received, greatest, is_left, oldest, is_of_frame, is_of_block}
use Rattle.gs_frames.specs.Verdict.{first_or, has_all, is_block_whole, is_frame_whole, judged, is_counting, counting}
use Rattle.gs_frames.specs.Complete.{block_payloads, both, payloads}
use Rattle.gs_frames.proofs.Counting.{NoneOf, NoneOf-from_oldest, NoneOf-counting, NoneOf-above, oldest_of_frame-none, oldest_of_block-none, is_of_block-miss}
use Rattle.gs_frames.proofs.Counting.{filter_of_block-none, oldest-miss, oldest-kept, oldest-new, oldest-none}
use Rattle.gs_fecqueue.specs.declared.block.Block.{Block}
use Rattle.gs_fecqueue.specs.declared.frame.Frame.{Frame}
use Rattle.gs_fecqueue.specs.Holding.{HoldsBlock}
use Rattle.gs_fecqueue.specs.FrameHolding.{HoldsBlockOf, HoldsBlocks, HoldsFrame, counted_behind, IsBegun}
use Rattle.gs_fecqueue.specs.Standing.{HasFrameCome, IsHeld}
use Rattle.gs_fecqueue.proofs.Frames.{filter-other, oldest-other, other-holds, range-each}

-- ---- one more datagram of another frame

-- tests that agree at each number of a range
all-same : (p q : ℕ → Bool) (a n : ℕ) → ((b : ℕ) → p b ≡ q b) → list_all p (range_with_len a n) ≡ list_all q (range_with_len a n)
all-same p q a zero same = refl
all-same p q a (suc n) same =
    ap (λ (b : Bool). b && list_all p (range_with_len (a + 1) n)) (same a)
    ∙ ap (λ (b : Bool). q a && b) (all-same p q (a + 1) n same)

frame_whole-other : (counted : List Received) (f last : ℕ) (r : Received) → is_of_frame f r ≡ false
    → is_frame_whole (r ∷ counted) f last ≡ is_frame_whole counted f last
frame_whole-other counted f last r other =
    all-same (is_block_whole (r ∷ counted) f) (is_block_whole counted f) 0 (last + 1) (λ b.
    let miss = is_of_block-miss f b r other in
    ap (λ (l : List Received). has_all l (oldest (is_of_block f b) (r ∷ counted))) (filter-other f b true r counted miss)
    ∙ ap (has_all (filter (is_of_block f b) counted)) (oldest-other f b true r counted miss))

payloads-other : (s : StreamSettings) (counted : List Received) (f n : ℕ) (r : Received) → is_of_frame f r ≡ false
    → payloads s (r ∷ counted) f n ≡ payloads s counted f n
payloads-other s counted f zero r other = refl
payloads-other s counted f (suc n) r other =
    let miss = is_of_block-miss f n r other in
    let o = oldest (is_of_block f n) (r ∷ counted) in
    ap (λ (p : Option (List ℕ)). both p (block_payloads s (filter (is_of_block f n) (r ∷ counted)) o)) (payloads-other s counted f n r other)
    ∙ ap (λ (l : List Received). both (payloads s counted f n) (block_payloads s l o)) (filter-other f n true r counted miss)
    ∙ ap (λ (p : Option Received). both (payloads s counted f n) (block_payloads s (filter (is_of_block f n) counted) p)) (oldest-other f n true r counted miss)

frame-other : (s : StreamSettings) (frame : Frame) (counted : List Received) (first : Received) (counts : Bool) (r : Received)
    → is_of_frame frame.number r ≡ false → HoldsFrame s frame counted first → HoldsFrame s frame (counted_behind counts r counted) first
frame-other s frame counted first false r other holds = holds
frame-other s frame counted first true r other holds =
    let last = first.head.last_block in
    record {
      holds = record {
        last = holds.holds.last;
        blocks = λ b block e. other-holds s counted frame.number b true r block (is_of_block-miss frame.number b r other) (holds.holds.blocks b block e);
      };
      image = λ several whole.
          payloads-other s counted frame.number (last + 1) r other
          ∙ holds.image several (sym (frame_whole-other counted frame.number last r other) ∙ whole);
    }

-- ---- what counts with one more datagram

pub counting-behind : (w : ℕ) (r : Received) (rs : List Received)
    → counting w (r ∷ rs) ≡ counted_behind (is_counting (judged w r rs (counting w rs))) r (counting w rs)
unfolding counting
counting-behind w r rs = refl

-- a frame is held when a datagram of another comes
pub held-other : (c : ClientSettings) (rs : List Received) (frame : Frame) (r : Received) → is_of_frame frame.number r ≡ false → IsHeld c rs frame
    → IsHeld c (r ∷ rs) frame
held-other c rs frame r other held =
    let counts = is_counting (judged c.window r rs (counting c.window rs)) in
    let Holds : List Received → Type 0 = λ l. HoldsFrame c.stream frame l held.first in
    record {
      first = held.first;
      first_is = oldest-miss (is_of_frame frame.number) r rs other ∙ held.first_is;
      holds = subst Holds (sym (counting-behind c.window r rs)) (frame-other c.stream frame (counting c.window rs) held.first counts r other held.holds);
    }

-- and when one comes that doesn't count
pub held-passed : (c : ClientSettings) (rs : List Received) (frame : Frame) (r : Received)
    → is_counting (judged c.window r rs (counting c.window rs)) ≡ false → IsHeld c rs frame → IsHeld c (r ∷ rs) frame
held-passed c rs frame r passed held =
    let same : counting c.window (r ∷ rs) ≡ counting c.window rs =
    counting-behind c.window r rs ∙ ap (λ (b : Bool). counted_behind b r (counting c.window rs)) passed in
    let Holds : List Received → Type 0 = λ l. HoldsFrame c.stream frame l held.first in
    record {
      first = held.first;
      first_is = oldest-kept (is_of_frame frame.number) r rs held.first held.first_is;
      holds = subst Holds (sym same) held.holds;
    }

-- ---- what came of a frame

pub come-other : (rs : List Received) (f : ℕ) (r : Received) → is_of_frame f r ≡ false → HasFrameCome (r ∷ rs) f → HasFrameCome rs f
come-other rs f r other came = λ none. came (oldest-miss (is_of_frame f) r rs other ∙ none)

pub come-within : (rs : List Received) (f : ℕ) → HasFrameCome rs f → f ≤ greatest rs
come-within rs f came = elim (cases_lt (greatest rs) f) [
  | inl above ↦ absurd (came (oldest_of_frame-none f rs (NoneOf-above rs f above)))
  | inr within ↦ within
]

-- the first that came of r's frame
pub first-with : (rs : List Received) (r : Received) (o : Option Received) → oldest (is_of_frame r.head.frame) rs ≡ o
    → oldest (is_of_frame r.head.frame) (r ∷ rs) ≡ Some (first_or r o)
first-with rs r None e = oldest-new (is_of_frame r.head.frame) r rs e (eq-eqb r.head.frame r.head.frame refl)
first-with rs r (Some first) e = oldest-kept (is_of_frame r.head.frame) r rs first e

-- ---- a frame that began

pub begun-holds : (s : StreamSettings) (w : ℕ) (frame : Frame) (rs : List Received) (r : Received) (f last : ℕ) → IsBegun frame f last
    → last ≡ r.head.last_block
    → oldest (is_of_frame f) rs ≡ None → HoldsFrame s frame (counting w rs) r
begun-holds s w frame rs r f last begun last_is none =
    let counted = counting w rs in
    let nothing : NoneOf f counted = NoneOf-counting w f rs (NoneOf-from_oldest f rs none) in
    let no_shards : (b : ℕ) → filter (is_of_block f b) counted ≡ [] = λ b. filter_of_block-none f b counted nothing in
    let no_first : (b : ℕ) → oldest (is_of_block f b) counted ≡ None = λ b. oldest_of_block-none f b counted nothing in
    let Holds : ℕ → Type 0 = λ n. (b : ℕ) (block : Block) → slice_get frame.blocks b ≡ Some block → HoldsBlockOf s counted n b block in
    let blocks : Holds f = λ b block e.
    let empty : block.held ≡ 0 =
    ap (λ (x : Block). x.held) (sym (get_or_from_slice_get frame.blocks b block block e)) ∙ begun.blocks b block (slice_get_within frame.blocks b block e) in
    let H : List Received → Option Received → Type 0 = λ l o. HoldsBlock s block l o in
    let at_none : H [] None = (refl, empty) in
    subst (λ (o : Option Received). H (filter (is_of_block f b) counted) o) (sym (no_first b))
    (subst (λ (l : List Received). H l None) (sym (no_shards b)) at_none) in
    record {
      holds = record {
        last = begun.last_is ∙ last_is;
        blocks = subst Holds (sym begun.number_is) blocks;
      };
      image = λ several whole.
          let mine : is_frame_whole counted f r.head.last_block ≡ true = ap (λ (n : ℕ). is_frame_whole counted n r.head.last_block) (sym begun.number_is)
          ∙ whole in
          let first : is_block_whole counted f 0 ≡ true = range-each (is_block_whole counted f) 0 (r.head.last_block + 1) 0 mine (omega arith) (omega arith) in
          let not_first : is_block_whole counted f 0 ≡ false = ap (has_all (filter (is_of_block f 0) counted)) (no_first 0) in
          absurd (both_ways (is_block_whole counted f 0) not_first first);
    }
