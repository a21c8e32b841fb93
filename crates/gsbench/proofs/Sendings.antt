-- Datagrams that are sent again as those of many frames, one by one.
use Rattle.std.proofs.Common.{◌≡◌, ◌+◌, ◌-◌, ◌≤◌, ◌<◌, ℕ, suc, Bool, true, false, List, [], ◌∷◌, ◌++◌}
use Rattle.std.proofs.Common.{length, map, take, drop, set, get_or, refl, sym, ap, ◌∙◌, subst, arith, append_assoc, length-append, cond}
use Rattle.std.specs.Prelude.{reverse, nat_le}
use Rattle.std.proofs.lemmas.Bool.{leb-true}
use Rattle.std.proofs.lemmas.List.{append-nil, map_more, take-map, drop_all, drop_at, take_all, take_at}
use Rattle.std.proofs.lemmas.List.{reverse-append, length-drop, length-map, length-take-le}
use Rattle.std.proofs.Math.Seq.{map-set_same, take-length}
use Rattle.std.proofs.lemmas.Simd.{map-map}
use Rattle.byteorder.specs.Endian.{little_bytes}
use Rattle.byteorder.specs.Numbers.{length-bytes_low_first}
use Rattle.gs_frames.specs.Client.{Arrival, Datagram, datagrams}
use Rattle.gsbench.specs.Sending.{arriving, is_dropped, numbered_bytes, sent_of}

-- ---- a datagram whose number is set again

abbrev set_in : ℕ → List ℕ → List ℕ
set_in frame bytes = take 20 bytes ++ little_bytes 4 frame ++ drop 24 bytes

front_long : (frame : ℕ) (bytes : List ℕ) → 32 ≤ length bytes → length (take 20 bytes ++ little_bytes 4 frame) ≡ 24
front_long frame bytes long =
    let few : length (take 20 bytes) ≡ 20 = length-take-le 20 bytes (omega (arith, long)) in
    omega (arith, few, length-append (take 20 bytes) (little_bytes 4 frame), length-bytes_low_first 0 4 frame)

set_long : (frame : ℕ) (bytes : List ℕ) → 32 ≤ length bytes → length (set_in frame bytes) ≡ length bytes
set_long frame bytes long =
    omega (arith, long, front_long frame bytes long, length-append (take 20 bytes ++ little_bytes 4 frame) (drop 24 bytes), length-drop 24 bytes)

set_front : (frame : ℕ) (bytes : List ℕ) → 32 ≤ length bytes → take 20 (set_in frame bytes) ≡ take 20 bytes
set_front frame bytes long =
    ap (take 20) (append_assoc (take 20 bytes) (little_bytes 4 frame) (drop 24 bytes))
    ∙ take_at (take 20 bytes) (little_bytes 4 frame ++ drop 24 bytes) 20 (length-take-le 20 bytes (omega (arith, long)))

set_back : (frame : ℕ) (bytes : List ℕ) → 32 ≤ length bytes → drop 24 (set_in frame bytes) ≡ drop 24 bytes
set_back frame bytes long = drop_at (take 20 bytes ++ little_bytes 4 frame) (drop 24 bytes) 24 (front_long frame bytes long)

numbered_again : (g frame : ℕ) (bytes : List ℕ) → numbered_bytes g (numbered_bytes frame bytes) ≡ numbered_bytes g bytes
numbered_again g frame bytes =
    let At : Bool → Type 0 =
    λ b. nat_le 32 (length bytes) ≡ b → numbered_bytes g (cond b (set_in frame bytes) bytes) ≡ numbered_bytes g bytes in
    elim (nat_le 32 (length bytes)) as At [
      | true ↦ λ is.
          let long : 32 ≤ length bytes = leb-true 32 (length bytes) is in
          let same : nat_le 32 (length (set_in frame bytes)) ≡ nat_le 32 (length bytes) = ap (nat_le 32) (set_long frame bytes long) in
          let parts : set_in g (set_in frame bytes) ≡ set_in g bytes =
          ap (λ (l : List ℕ). l ++ little_bytes 4 g ++ drop 24 (set_in frame bytes)) (set_front frame bytes long)
          ∙ ap (λ (l : List ℕ). take 20 bytes ++ little_bytes 4 g ++ l) (set_back frame bytes long) in
          ap (λ (b : Bool). cond b (set_in g (set_in frame bytes)) (set_in frame bytes)) (same ∙ is)
          ∙ parts ∙ sym (ap (λ (b : Bool). cond b (set_in g bytes) bytes) is)
      | false ↦ λ is. refl
    ] refl

-- ---- one that comes behind others

arriving_more : (every before : ℕ) (xs : List (List ℕ)) (x : List ℕ)
    → arriving every before (xs ++ x ∷ []) ≡ arriving every before xs ++ cond (is_dropped every (before + length xs + 1)) [] (x ∷ [])
arriving_more every before [] x =
    let At : Bool → Type 0 = λ b. cond b [] (x ∷ []) ≡ [] ++ cond (is_dropped every (before + 0 + 1)) [] (x ∷ []) in
    let same : before + 0 + 1 ≡ before + 1 = omega arith in
    ap (λ (n : ℕ). cond (is_dropped every n) [] (x ∷ [])) (sym same)
arriving_more every before (y ∷ ys) x =
    let Lost : Bool = is_dropped every (before + 1) in
    let rest : List (List ℕ) = arriving every (before + 1) ys in
    let same : before + 1 + length ys + 1 ≡ before + suc (length ys) + 1 = omega arith in
    let last : ℕ → List (List ℕ) = λ n. cond (is_dropped every n) [] (x ∷ []) in
    let more : arriving every (before + 1) (ys ++ x ∷ []) ≡ rest ++ last (before + suc (length ys) + 1) =
    arriving_more every (before + 1) ys x ∙ ap (λ (n : ℕ). rest ++ last n) same in
    let At : Bool → Type 0 = λ b. cond b (arriving every (before + 1) (ys ++ x ∷ [])) (y ∷ arriving every (before + 1) (ys ++ x ∷ []))
    ≡ cond b rest (y ∷ rest) ++ last (before + suc (length ys) + 1) in
    elim (is_dropped every (before + 1)) as At [ true ↦ more | false ↦ ap (λ (l : List (List ℕ)). y ∷ l) more ]

-- as arrivals, the newest first
abbrev pub newest_first : ℕ → List (List ℕ) → List Arrival
newest_first every xs = datagrams (reverse (arriving every 0 xs))

lost_more : (every number : ℕ) (xs : List (List ℕ)) (x : List ℕ) → number ≡ length xs + 1 → is_dropped every number ≡ true
    → newest_first every (xs ++ x ∷ []) ≡ newest_first every xs
lost_more every number xs x is lost =
    let here : is_dropped every (0 + length xs + 1) ≡ true = ap (is_dropped every) (omega (arith, is)) ∙ lost in
    let more : arriving every 0 (xs ++ x ∷ []) ≡ arriving every 0 xs =
    arriving_more every 0 xs x ∙ ap (λ (b : Bool). arriving every 0 xs ++ cond b [] (x ∷ [])) here ∙ append-nil (arriving every 0 xs) in
    ap (λ (l : List (List ℕ)). datagrams (reverse l)) more

came_more : (every number : ℕ) (xs : List (List ℕ)) (x : List ℕ) → number ≡ length xs + 1 → is_dropped every number ≡ false
    → newest_first every (xs ++ x ∷ []) ≡ Datagram x ∷ newest_first every xs
came_more every number xs x is lost =
    let here : is_dropped every (0 + length xs + 1) ≡ false = ap (is_dropped every) (omega (arith, is)) ∙ lost in
    let more : arriving every 0 (xs ++ x ∷ []) ≡ arriving every 0 xs ++ x ∷ [] =
    arriving_more every 0 xs x ∙ ap (λ (b : Bool). arriving every 0 xs ++ cond b [] (x ∷ [])) here in
    ap (λ (l : List (List ℕ)). datagrams (reverse l)) more ∙ ap datagrams (reverse-append (arriving every 0 xs) (x ∷ []))

-- what a queue or a client stands for behind one more that is lost, or that comes
pub stands_lost : (At : List Arrival → Type 0) (every number : ℕ) (xs all : List (List ℕ)) (x : List ℕ) (came : List Arrival)
    → number ≡ length xs + 1 → is_dropped every number ≡ true → all ≡ xs ++ x ∷ [] → At (newest_first every xs ++ came)
    → At (newest_first every all ++ came)
stands_lost At every number xs all x came is lost more stands =
    let Of : List Arrival → Type 0 = λ front. At (front ++ came) in
    subst Of (sym (ap (newest_first every) more ∙ lost_more every number xs x is lost)) stands

pub stands_came : (At : List Arrival → Type 0) (every number : ℕ) (xs all : List (List ℕ)) (x : List ℕ) (came : List Arrival)
    → number ≡ length xs + 1 → is_dropped every number ≡ false → all ≡ xs ++ x ∷ [] → At (Datagram x ∷ (newest_first every xs ++ came))
    → At (newest_first every all ++ came)
stands_came At every number xs all x came is lost more stands =
    let Of : List Arrival → Type 0 = λ front. At (front ++ came) in
    subst Of (sym (ap (newest_first every) more ∙ came_more every number xs x is lost)) stands

-- ---- the datagrams of a frame, in a list of anything that has bytes

module _ {X : Type 0} (items : X → List ℕ) where
  -- they differ in the number alone
  abbrev pub AreSame : List X → List X → Type 0
  AreSame old new = (g : ℕ) → map (λ (d : X). numbered_bytes g (items d)) new ≡ map (λ (d : X). numbered_bytes g (items d)) old

  pub same_at_first : (old : List X) → AreSame old old
  same_at_first old = λ g. refl

  pub same_set : (frame k : ℕ) (old new : List X) (y d : X) → AreSame old new → items y ≡ numbered_bytes frame (items (get_or new k d))
      → AreSame old (set new k y)
  same_set frame k old new y d same is = λ g.
      map-set_same (λ (x : X). numbered_bytes g (items x)) new k y d (ap (numbered_bytes g) is ∙ numbered_again g frame (items (get_or new k d))) ∙ same g

  pub same_long : (old new : List X) → AreSame old new → length new ≡ length old
  same_long old new same =
      sym (length-map new (λ (d : X). numbered_bytes 0 (items d))) ∙ ap length (same 0) ∙ length-map old (λ (d : X). numbered_bytes 0 (items d))

  -- all of the frames before this one, and the first k of this one
  abbrev pub sent_up_to : ℕ → ℕ → List X → List (List ℕ)
  sent_up_to frame k all = sent_of (frame - 1) (map items all) ++ take k (map (λ (d : X). numbered_bytes frame (items d)) all)

  pub one_more : (frame k : ℕ) (old new : List X) (y d : X) → AreSame old new → k < length new → items y ≡ numbered_bytes frame (items (get_or new k d))
      → sent_up_to frame (k + 1) old ≡ sent_up_to frame k old ++ items y ∷ []
  one_more frame k old new y d same low is =
      let F : X → List ℕ = λ x. numbered_bytes frame (items x) in
      let front : List (List ℕ) = sent_of (frame - 1) (map items old) in
      let here : take (k + 1) (map F old) ≡ take k (map F old) ++ items y ∷ [] =
      ap (take (k + 1)) (sym (same frame)) ∙ take-map F (k + 1) new ∙ map_more F new k d low
      ∙ ap (λ (l : List (List ℕ)). l ++ F (get_or new k d) ∷ []) (sym (take-map F k new) ∙ ap (take k) (same frame))
      ∙ ap (λ (x : List ℕ). take k (map F old) ++ x ∷ []) (sym is) in
      ap (λ (l : List (List ℕ)). front ++ l) here ∙ sym (append_assoc front (take k (map F old)) (items y ∷ []))

  pub none_yet : (frame : ℕ) (all : List X) → sent_up_to frame 0 all ≡ sent_of (frame - 1) (map items all)
  none_yet frame all = append-nil (sent_of (frame - 1) (map items all))

  pub whole_frame : (frame k : ℕ) (all : List X) → 1 ≤ frame → k ≡ length all → sent_up_to frame k all ≡ sent_of frame (map items all)
  whole_frame frame k all least is =
      let F : X → List ℕ = λ x. numbered_bytes frame (items x) in
      let n : ℕ = frame - 1 in
      let front : List (List ℕ) = sent_of n (map items all) in
      let next : frame ≡ suc n = omega (arith, least) in
      let long : k ≡ length (map F all) = is ∙ sym (length-map all F) in
      let every : take k (map F all) ≡ map (numbered_bytes frame) (map items all) =
      ap (λ (m : ℕ). take m (map F all)) long ∙ take-length (map F all) ∙ sym (map-map (numbered_bytes frame) items all) in
      ap (λ (l : List (List ℕ)). front ++ l) every ∙ ap (λ (m : ℕ). front ++ map (numbered_bytes m) (map items all)) next
      ∙ ap (λ (m : ℕ). sent_of m (map items all)) (sym next)

-- ---- a number that is set in place

pub numbered_long : (frame : ℕ) (bytes : List ℕ) → length (numbered_bytes frame bytes) ≡ length bytes
numbered_long frame bytes =
    let At : Bool → Type 0 = λ b. nat_le 32 (length bytes) ≡ b → length (cond b (set_in frame bytes) bytes) ≡ length bytes in
    elim (nat_le 32 (length bytes)) as At [
      | true ↦ λ is. set_long frame bytes (leb-true 32 (length bytes) is)
      | false ↦ λ is. refl
    ] refl

-- what stands in a vector of n bytes that are written over as a slice
pub written_over : (frame n : ℕ) (old was new : List ℕ) → n ≡ length old → was ≡ old → new ≡ numbered_bytes frame was
    → take n (new ++ drop (length new) old) ≡ numbered_bytes frame old
written_over frame n old was new many is set =
    let here : new ≡ numbered_bytes frame old = set ∙ ap (numbered_bytes frame) is in
    let long : length new ≡ n = ap length here ∙ numbered_long frame old ∙ sym many in
    let none : drop (length new) old ≡ [] = drop_all (length new) old (omega (arith, long, many)) in
    ap (λ (l : List ℕ). take n (new ++ l)) none ∙ ap (take n) (append-nil new) ∙ take_all n new (omega (arith, long)) ∙ here
