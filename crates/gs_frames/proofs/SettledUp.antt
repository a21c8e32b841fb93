-- Frames that are complete or left stay as they are, and up to which one each is.
use Rattle.std.proofs.Common.{◌≡◌, ◌<◌, ◌≤◌, ◌+◌, ℕ, zero, suc, Bool, true, false, ◌&&◌, ◌||◌, List, ◌∷◌, Option, Some, None, refl, sym, ap, subst, ◌∙◌, arith}
use Rattle.std.proofs.Common.{inl, inr}
use Rattle.std.specs.Prelude.{◌==◌, is_some}
use Rattle.std.proofs.lemmas.Bool.{cases_Bool, cases_lt, cases_eq, cond-true, cond-false, and_parts, and_from, eqb-true, eq-eqb, ne_eqb, or_left, or_right}
use Rattle.std.proofs.lemmas.Bool.{both_ways, false_from_ne_true}
use Rattle.std.proofs.lemmas.Bool.Decides.{nat_tests}
use Rattle.gs_frames.specs.Client.{ClientSettings}
use Rattle.gs_frames.specs.Image.{Frame}
use Rattle.gs_frames.specs.Received.{Received, greatest, is_left, taken}
use Rattle.gs_frames.specs.Complete.{complete}
use Rattle.gs_frames.specs.Settled.{is_done, one_further, settled_among, settled}
use Rattle.gs_frames.specs.SettledLaws.{AreDone, SettledIsGreatest, SettledNeverFalls}
use Rattle.gs_frames.proofs.Counting.{NoneOf-above, counting-not, counts-left, complete-other, complete-none, complete-passed}
use Rattle.gs_frames.proofs.CompleteStays.{complete_stays}
use Rattle.gs_frames.proofs.Taken.{taken-more}

-- ---- frames that are left

-- the greatest frame never falls
pub greatest-grows : (r : Received) (rs : List Received) → greatest rs ≤ greatest (r ∷ rs)
greatest-grows r rs = grind (arith, nat_tests)

pub left-from : (w : ℕ) (rs : List Received) (f : ℕ) → f + w ≤ greatest rs → is_left w rs f ≡ true
left-from w rs f h = grind (arith, nat_tests)

pub left-says : (w : ℕ) (rs : List Received) (f : ℕ) → is_left w rs f ≡ true → f + w ≤ greatest rs
left-says w rs f e = grind (arith, nat_tests)

pub left-not_from : (w : ℕ) (rs : List Received) (f : ℕ) → greatest rs < f + w → is_left w rs f ≡ false
left-not_from w rs f h = grind (arith, nat_tests)

pub left-not_says : (w : ℕ) (rs : List Received) (f : ℕ) → is_left w rs f ≡ false → greatest rs < f + w
left-not_says w rs f e = grind (arith, nat_tests)

-- a frame that is left stays as it is
pub complete-left : (c : ClientSettings) (r : Received) (rs : List Received) (f : ℕ) → is_left c.window rs f ≡ true → complete c (r ∷ rs) f ≡ complete c rs f
complete-left c r rs f left = elim (cases_eq r.head.frame f) [
  | inl this ↦
      let old : r.head.frame + c.window ≤ greatest rs = omega (arith, left-says c.window rs f left) in
      complete-passed c r rs (counting-not c.window r rs (counts-left c.window r rs old)) f
  | inr other ↦ complete-other c r rs f (ne_eqb r.head.frame f other)
]

-- ---- frames that are complete or left

by_held : (c : ClientSettings) (r : Received) (rs : List Received) (f : ℕ) (o : Option Frame) → complete c rs f ≡ o
    → (is_some o || is_left c.window rs f) ≡ true → complete c (r ∷ rs) f ≡ complete c rs f
by_held c r rs f (Some held) e done = complete_stays c r rs f held e ∙ sym e
by_held c r rs f None e done = complete-left c r rs f done

-- they stay as they are
pub done-same : (c : ClientSettings) (r : Received) (rs : List Received) (f : ℕ) → is_done c rs f ≡ true → complete c (r ∷ rs) f ≡ complete c rs f
done-same c r rs f done = by_held c r rs f (complete c rs f) refl done

pub done-stays : (c : ClientSettings) (r : Received) (rs : List Received) (f : ℕ) → is_done c rs f ≡ true → is_done c (r ∷ rs) f ≡ true
done-stays c r rs f done =
    ap (λ (o : Option Frame). is_some o || is_left c.window (r ∷ rs) f) (done-same c r rs f done)
    ∙ elim (cases_Bool (is_some (complete c rs f))) [
      | inl held ↦ or_left (is_some (complete c rs f)) (is_left c.window (r ∷ rs) f) held
      | inr not_held ↦
          let left : is_left c.window rs f ≡ true = rw not_held at done in
          let old = left-says c.window rs f left in
          or_right (is_some (complete c rs f)) (is_left c.window (r ∷ rs) f)
          (left-from c.window (r ∷ rs) f (omega (arith, greatest-grows r rs)))
    ]

-- a frame above all that came is neither
pub done-above : (c : ClientSettings) (rs : List Received) (f : ℕ) → greatest rs < f → is_done c rs f ≡ false
done-above c rs f above =
    ap (λ (o : Option Frame). is_some o || is_left c.window rs f) (complete-none c rs f (NoneOf-above rs f above))
    ∙ left-not_from c.window rs f (omega arith)

-- ---- up to which frame each is

further-done : (P : ℕ → Type 0) (n reached : ℕ) (done : Bool) → P reached → (reached ≡ n → done ≡ true → P (suc n)) → P (one_further n reached done)
further-done P n reached done stays further = elim (cases_Bool (reached == n && done)) [
  | inl both ↦
      let tests = and_parts (reached == n) done both in
      subst P (sym (cond-true (reached == n && done) (suc n) reached both)) (further (eqb-true reached n tests.0) tests.1)
  | inr not_both ↦ subst P (sym (cond-false (reached == n && done) (suc n) reached not_both)) stays
]

pub among-within : (c : ClientSettings) (rs : List Received) (n : ℕ) → settled_among c rs n ≤ n
among-within c rs zero = omega arith
among-within c rs (suc n) =
    let before = among-within c rs n in
    further-done (λ m. m ≤ suc n) n (settled_among c rs n) (is_done c rs (suc n)) (omega arith) (λ same done. omega arith)

done-more : (c : ClientSettings) (rs : List Received) (n : ℕ) → AreDone c rs n → is_done c rs (suc n) ≡ true → AreDone c rs (suc n)
done-more c rs n below here f least within = elim (cases_lt f (suc n)) [
  | inl less ↦ below f least (omega arith)
  | inr at_it ↦ let this : suc n ≡ f = omega arith in subst (λ (k : ℕ). is_done c rs k ≡ true) this here
]

pub among-done : (c : ClientSettings) (rs : List Received) (n : ℕ) → AreDone c rs (settled_among c rs n)
among-done c rs zero = λ f least within. absurd (omega arith)
among-done c rs (suc n) =
    let before = among-done c rs n in
    further-done (AreDone c rs) n (settled_among c rs n) (is_done c rs (suc n)) before
    (λ same done. done-more c rs n (subst (AreDone c rs) same before) done)

among-greatest : (c : ClientSettings) (rs : List Received) (n m : ℕ) → m ≤ n → AreDone c rs m → m ≤ settled_among c rs n
among-greatest c rs zero m within done = omega arith
among-greatest c rs (suc n) m within done = elim (cases_lt m (suc n)) [
  | inl less ↦
      let before = among-greatest c rs n m (omega arith) done in
      further-done (λ k. m ≤ k) n (settled_among c rs n) (is_done c rs (suc n)) before
      (λ same here. omega (arith, among-within c rs n))
  | inr at_it ↦
      let before = among-greatest c rs n n (omega arith) (λ f least below. done f least (omega arith)) in
      let all : settled_among c rs n ≡ n = omega (arith, among-within c rs n) in
      let here = done (suc n) (omega arith) (omega arith) in
      let further : settled_among c rs (suc n) ≡ suc n =
      cond-true (settled_among c rs n == n && is_done c rs (suc n)) (suc n) (settled_among c rs n)
      (and_from (settled_among c rs n == n) (is_done c rs (suc n)) (eq-eqb (settled_among c rs n) n all) here) in
      omega arith
]

pub settled-is : (c : ClientSettings) (rs : List Received) → settled c rs ≡ settled_among c rs (greatest rs)
unfolding settled
settled-is c rs = refl

pub settled-within : (c : ClientSettings) (rs : List Received) → settled c rs ≤ greatest rs
settled-within c rs = omega (arith, settled-is c rs, among-within c rs (greatest rs))

pub settled-done : (c : ClientSettings) (rs : List Received) → AreDone c rs (settled c rs)
settled-done c rs = subst (AreDone c rs) (sym (settled-is c rs)) (among-done c rs (greatest rs))

pub settled-greatest : (c : ClientSettings) (rs : List Received) (n : ℕ) → AreDone c rs n → n ≤ settled c rs
settled-greatest c rs n done = elim (cases_lt (greatest rs) n) [
  | inr within ↦ omega (arith, settled-is c rs, among-greatest c rs (greatest rs) n within done)
  | inl above ↦ absurd (both_ways (is_done c rs n) (done-above c rs n above) (done n (omega arith) (omega arith)))
]

-- the frame above isn't done
pub settled-next : (c : ClientSettings) (rs : List Received) → is_done c rs (suc (settled c rs)) ≡ false
settled-next c rs =
    false_from_ne_true (is_done c rs (suc (settled c rs)))
    (λ done. let more = settled-greatest c rs (suc (settled c rs)) (done-more c rs (settled c rs) (settled-done c rs) done) in absurd (omega arith))

-- so it is settled up to n where each is done up to n, and the next one isn't
pub settled-unique : (c : ClientSettings) (rs : List Received) (n : ℕ) → AreDone c rs n → is_done c rs (suc n) ≡ false → settled c rs ≡ n
settled-unique c rs n done next = elim (cases_lt n (settled c rs)) [
  | inl more ↦ absurd (both_ways (is_done c rs (suc n)) next (settled-done c rs (suc n) (omega arith) (omega arith)))
  | inr no_more ↦ omega (arith, settled-greatest c rs n done)
]

-- the laws
pub settled_is_greatest : SettledIsGreatest
settled_is_greatest c rs = (settled-done c rs, settled-greatest c rs)

pub settled-grows : (c : ClientSettings) (r : Received) (rs : List Received) → settled c rs ≤ settled c (r ∷ rs)
settled-grows c r rs =
    settled-greatest c (r ∷ rs) (settled c rs) (λ f least within. done-stays c r rs f (settled-done c rs f least within))

pub settled_never_falls : SettledNeverFalls
settled_never_falls c arrival came =
    taken-more (λ rs. settled c (taken c came) ≤ settled c rs) c arrival came (omega arith) (λ r. settled-grows c r (taken c came))
