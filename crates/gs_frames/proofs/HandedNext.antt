-- The last frame handed, and whether an IDR frame is awaited, tell whether the next frame is handed.
use Rattle.std.proofs.Common.{◌≡◌, ◌<◌, ◌≤◌, ◌+◌, ℕ, suc, Bool, true, false, ◌&&◌, ◌||◌, not, List, [], ◌∷◌, Option, Some, refl, sym, ap, ◌∙◌, arith}
use Rattle.std.specs.Prelude.{nat_lt, ◌==◌}
use Rattle.std.specs.List.{All, AllPairs, find, list_any}
use Rattle.std.proofs.lemmas.Bool.{cond-true, ne_eqb, lt-ltb}
use Rattle.std.proofs.lemmas.List.Elements.{All-head, All-tail, All-weaker, All-nil, All-cons}
use Rattle.gs_frames.specs.Client.{ClientSettings, Arrival, Datagram, Reset}
use Rattle.gs_frames.specs.Received.{taken}
use Rattle.gs_frames.specs.Settled.{settled}
use Rattle.gs_frames.specs.Handed.{Handed, is_re_entry, settled_at_resets, last_reset_before, has_idr_since}
use Rattle.gs_frames.specs.Kept.{last_of, waits_for_idr_frame}
use Rattle.gs_frames.specs.KeptLaws.{AreBelow, LastHandedTellsNext}
use Rattle.gs_frames.proofs.SettledUp.{settled_never_falls}

-- ---- resets

-- no reset came behind more settled frames than there are now
pub resets-within : (c : ClientSettings) (came : List Arrival) → All (λ s. s ≤ settled c (taken c came)) (settled_at_resets c came)
resets-within c [] = All-nil (λ s. s ≤ settled c (taken c []))
resets-within c (Datagram bytes ∷ came) =
    let more = settled_never_falls c (Datagram bytes) came in
    All-weaker (λ s. s ≤ settled c (taken c came)) (λ s. s ≤ settled c (taken c (Datagram bytes ∷ came))) (λ s h. omega arith)
    (settled_at_resets c came) (resets-within c came)
resets-within c (Reset ∷ came) =
    All-cons (λ s. s ≤ settled c (taken c came)) (settled c (taken c came)) (settled_at_resets c came) (omega arith) (resets-within c came)

-- so the last one of all is the last before a frame above the settled ones
waiting-is : (resets : List ℕ) (hs : List Handed) (frame : ℕ) → All (λ s. s < frame) resets
    → not (has_idr_since hs (last_reset_before resets frame)) ≡ waits_for_idr_frame hs resets
waiting-is [] hs frame all = refl
waiting-is (reset ∷ resets) hs frame all =
    let before : reset < frame = All-head (λ s. s < frame) reset resets all in
    ap (λ (o : Option ℕ). not (has_idr_since hs o))
    (cond-true (nat_lt reset frame) (Some reset) (find (λ s. nat_lt s frame) resets) (lt-ltb reset frame before))

-- ---- the frame just below

-- the last of them is below what all are
last-below : (frame : ℕ) (h : Handed) (hs : List Handed) → All (λ g. g.frame < frame) (h ∷ hs) → last_of (h ∷ hs) < frame
last-below frame h [] all = All-head (λ g. g.frame < frame) h [] all
last-below frame h (g ∷ hs) all = last-below frame g hs (All-tail (λ g. g.frame < frame) h (g ∷ hs) all)

-- of rising frames the first is below the last
tail-rises : (h : Handed) (hs : List Handed) → AllPairs (λ a b. a.frame < b.frame) (h ∷ hs) → AllPairs (λ a b. a.frame < b.frame) hs
tail-rises h hs rise i j d less within = rise (suc i) (suc j) d (omega arith) (omega arith)

first-last : (h g : Handed) (hs : List Handed) → AllPairs (λ a b. a.frame < b.frame) (h ∷ g ∷ hs) → h.frame < last_of (g ∷ hs)
first-last h g [] rise = rise 0 1 h (omega arith) (omega arith)
first-last h g (f ∷ hs) rise =
    let first : h.frame < g.frame = rise 0 1 h (omega arith) (omega arith) in
    let rest = first-last g f hs (tail-rises h (g ∷ f ∷ hs) rise) in
    omega arith

one-follows : (n : ℕ) (b : Bool) → 1 ≤ n → (b || false) ≡ (nat_lt 0 n && b)
one-follows n b some = or_false b ∙ sym (ap (λ (t : Bool). t && b) (lt-ltb 0 n some))
  where
    or_false : (x : Bool) → (x || false) ≡ x
    or_false true = refl
    or_false false = refl

-- only the last can be the one just below
follows-last : (frame : ℕ) (hs : List Handed) → AreBelow frame hs
    → list_any (λ h. h.frame + 1 == frame) hs ≡ (nat_lt 0 (last_of hs) && last_of hs + 1 == frame)
follows-last frame [] below = refl
follows-last frame (h ∷ []) below = one-follows h.frame (h.frame + 1 == frame) (All-head (λ g. 1 ≤ g.frame) h [] below.least)
follows-last frame (h ∷ g ∷ hs) below =
    let least = All-tail (λ f. 1 ≤ f.frame) h (g ∷ hs) below.least in
    let under = All-tail (λ f. f.frame < frame) h (g ∷ hs) below.below in
    let last = last-below frame g hs under in
    let first = first-last h g hs below.rise in
    ap (λ (b : Bool). b || list_any (λ f. f.frame + 1 == frame) (g ∷ hs)) (ne_eqb (h.frame + 1) frame (λ e. absurd (omega arith)))
    ∙ follows-last frame (g ∷ hs) (record { least = least; below = under; rise = tail-rises h (g ∷ hs) below.rise })

-- ---- the law

by_parts : (k w w' f f' re : Bool) → w ≡ w' → f ≡ f' → (not (not k && w) && (re || f)) ≡ ((k || not w') && (re || f'))
by_parts true w w' f f' re p q = ap (λ (b : Bool). re || b) q
by_parts false w w' f f' re p q = ap (λ (b : Bool). not b && (re || f)) p ∙ ap (λ (b : Bool). not w' && (re || b)) q

pub last_handed_tells : LastHandedTellsNext
last_handed_tells c came hs frame kind above below =
    let resets = settled_at_resets c came in
    by_parts (kind == 2) (not (has_idr_since hs (last_reset_before resets frame))) (waits_for_idr_frame hs resets)
    (list_any (λ h. h.frame + 1 == frame) hs) (nat_lt 0 (last_of hs) && last_of hs + 1 == frame) (is_re_entry kind)
    (waiting-is resets hs frame
    (All-weaker (λ s. s ≤ settled c (taken c came)) (λ s. s < frame) (λ s h. omega arith) resets (resets-within c came)))
    (follows-last frame hs below)
