-- A text without the spaces at its ends.
use Rattle.std.proofs.Common.{◌≡◌, ℕ, zero, suc, ◌+◌, Bool, true, false, cond, eqb, List, [], ◌∷◌, ◌++◌, refl, sym, ap, ◌∙◌, append_assoc, arith, drop, reverse}
use Rattle.std.proofs.Common.{one-add, zero-add, suc-add}
use Rattle.std.specs.List.{list_all, prefix_len}
use Rattle.std.proofs.lemmas.Bool.{false≢true}
use Rattle.gs_bytes.specs.Numbers.{is_digit}
use Rattle.gs_bytes.proofs.Lists.{all_back}
use Rattle.std.proofs.lemmas.List.{append-nil, reverse-append, reverse-reverse}
use Rattle.std.proofs.lemmas.Bool.Decides.{nat_tests}
use Rattle.gs_bytes.specs.Words.{HasNoOuterSpace, is_space, spaces, trimmed, without_first_spaces, without_last_spaces}

pub without_first-cons : (b : ℕ) (s : List ℕ) → without_first_spaces (b ∷ s) ≡ cond (eqb b 32) (without_first_spaces s) (b ∷ s)
without_first-cons b s = test (eqb b 32) refl
  where
    test : (t : Bool) → eqb b 32 ≡ t → drop (cond t (1 + prefix_len is_space s) 0) (b ∷ s) ≡ cond t (without_first_spaces s) (b ∷ s)
    test true e = rw one-add refl
    test false e = refl

abbrev pub BeginsWithoutSpace : List ℕ → Type 0
BeginsWithoutSpace s = (rest : List ℕ) → s ≡ 32 ∷ rest → ⊥

-- a text is some spaces, and the rest, which begins without one
pub record Leading (s : List ℕ) : Type 0 where
  pub count : ℕ
  pub parts : s ≡ spaces count ++ without_first_spaces s
  pub none : BeginsWithoutSpace (without_first_spaces s)

leading_at : (b : ℕ) (s : List ℕ) → Leading s → (t : Bool) → eqb b 32 ≡ t → Leading (b ∷ s)
leading_at b s l true e =
    let is : without_first_spaces (b ∷ s) ≡ without_first_spaces s = without_first-cons b s ∙ ap (λ (t : Bool). cond t (without_first_spaces s) (b ∷ s)) e in
    let byte : b ≡ 32 = grind (arith, nat_tests) in
    record { count = suc l.count; parts = rw (is, byte) (ap (λ (t : List ℕ). 32 ∷ t) l.parts); none = rw is l.none }
leading_at b s l false e =
    let is : without_first_spaces (b ∷ s) ≡ b ∷ s = without_first-cons b s ∙ ap (λ (t : Bool). cond t (without_first_spaces s) (b ∷ s)) e in
    let other : b ≡ 32 → ⊥ = grind (arith, nat_tests) in
    record { count = 0; parts = sym is; none = λ rest h. other cc }

pub leading : (s : List ℕ) → Leading s
leading [] = record { count = 0; parts = refl; none = λ rest h. cc }
leading (b ∷ s) = leading_at b s (leading s) (eqb b 32) refl

without_first-none : (s : List ℕ) → BeginsWithoutSpace s → without_first_spaces s ≡ s
without_first-none [] h = refl
without_first-none (b ∷ s) h =
    let other : b ≡ 32 → ⊥ = λ e. h s cc in
    let test : eqb b 32 ≡ false = grind (arith, nat_tests) in
    without_first-cons b s ∙ ap (λ (t : Bool). cond t (without_first_spaces s) (b ∷ s)) test

pub without_last-none : (s : List ℕ) → ((front : List ℕ) → s ≡ front ++ 32 ∷ [] → ⊥) → without_last_spaces s ≡ s
without_last-none s last =
    ap reverse (without_first-none (reverse s) (λ rest h. last (reverse rest) (sym (reverse-reverse s) ∙ ap reverse h ∙ reverse-append (32 ∷ []) rest)))
    ∙ reverse-reverse s

pub without_first-spaces : (k : ℕ) (s : List ℕ) → BeginsWithoutSpace s → without_first_spaces (spaces k ++ s) ≡ s
without_first-spaces zero s h = without_first-none s h
without_first-spaces (suc k) s h = without_first-cons 32 (spaces k ++ s) ∙ without_first-spaces k s h

spaces-push : (k : ℕ) → spaces k ++ 32 ∷ [] ≡ spaces (suc k)
spaces-push zero = refl
spaces-push (suc k) = ap (λ (t : List ℕ). 32 ∷ t) (spaces-push k)

reverse-spaces : (k : ℕ) → reverse (spaces k) ≡ spaces k
reverse-spaces zero = refl
reverse-spaces (suc k) = reverse-append (32 ∷ []) (spaces k) ∙ ap (λ (t : List ℕ). t ++ 32 ∷ []) (reverse-spaces k) ∙ spaces-push k

-- a text is some spaces, the text without them, and some spaces
pub record Trims (s : List ℕ) : Type 0 where
  pub before : ℕ
  pub after : ℕ
  pub parts : s ≡ spaces before ++ trimmed s ++ spaces after
  pub outer : HasNoOuterSpace (trimmed s)

pub trims : (s : List ℕ) → Trims s
trims s =
    let a = leading s in
    let t = without_first_spaces s in
    let b = leading (reverse t) in
    let u = without_first_spaces (reverse t) in
    let t-is : t ≡ reverse u ++ spaces b.count = sym (reverse-reverse t) ∙ ap reverse b.parts ∙ reverse-append (spaces b.count) u
    ∙ ap (λ (v : List ℕ). reverse u ++ v) (reverse-spaces b.count) in
    record {
      before = a.count;
      after = b.count;
      parts = a.parts ∙ ap (λ (v : List ℕ). spaces a.count ++ v) t-is ∙ sym (append_assoc (spaces a.count) (reverse u) (spaces b.count));
      outer = record {
        first = λ rest e. a.none (rest ++ spaces b.count) (t-is ∙ ap (λ (v : List ℕ). v ++ spaces b.count) e);
        last = λ front e. b.none (reverse front) (sym (reverse-reverse u) ∙ ap reverse e ∙ reverse-append front (32 ∷ []));
      };
    }

spaces-add : (a b : ℕ) → spaces a ++ spaces b ≡ spaces (a + b)
spaces-add zero b = ap spaces (sym (zero-add b))
spaces-add (suc a) b = ap (λ (t : List ℕ). 32 ∷ t) (spaces-add a b) ∙ ap spaces (sym (suc-add a b))

only_spaces : (k : ℕ) → without_first_spaces (spaces k) ≡ []
only_spaces zero = refl
only_spaces (suc k) = without_first-cons 32 (spaces k) ∙ only_spaces k

first_is : (c : ℕ) (u : List ℕ) (t rest : List ℕ) → (c ∷ u) ++ t ≡ 32 ∷ rest → c ≡ 32
first_is c u t rest h = cc

trimmed_by : (before after : ℕ) (v u : List ℕ) → HasNoOuterSpace v → v ≡ u → trimmed (spaces before ++ v ++ spaces after) ≡ v
trimmed_by before after v [] outer e =
    let all : spaces before ++ v ++ spaces after ≡ spaces (before + after) = ap (λ (t : List ℕ). spaces before ++ t ++ spaces after) e
    ∙ ap (λ (t : List ℕ). t ++ spaces after) (append-nil (spaces before)) ∙ spaces-add before after in
    ap trimmed all ∙ ap (λ (t : List ℕ). reverse (without_first_spaces (reverse t))) (only_spaces (before + after)) ∙ sym e
trimmed_by before after v (c ∷ u) outer e =
    let first : without_first_spaces (spaces before ++ v ++ spaces after) ≡ v ++ spaces after =
    ap without_first_spaces (append_assoc (spaces before) v (spaces after))
    ∙ without_first-spaces before (v ++ spaces after) (λ rest h. outer.first u
    (e ∙ ap (λ (n : ℕ). n ∷ u) (first_is c u (spaces after) rest (ap (λ (t : List ℕ). t ++ spaces after) (sym e) ∙ h)))) in
    let turned : reverse (v ++ spaces after) ≡ spaces after ++ reverse v =
    reverse-append v (spaces after) ∙ ap (λ (t : List ℕ). t ++ reverse v) (reverse-spaces after) in
    let second : without_first_spaces (spaces after ++ reverse v) ≡ reverse v =
    without_first-spaces after (reverse v) (λ rest h. outer.last (reverse rest) (sym (reverse-reverse v) ∙ ap reverse h ∙ reverse-append (32 ∷ []) rest)) in
    ap (λ (t : List ℕ). reverse (without_first_spaces (reverse t))) first ∙ ap (λ (t : List ℕ). reverse (without_first_spaces t)) turned ∙ ap reverse second
    ∙ reverse-reverse v

pub trimmed-spaces : (before after : ℕ) (v : List ℕ) → HasNoOuterSpace v → trimmed (spaces before ++ v ++ spaces after) ≡ v
trimmed-spaces before after v outer = trimmed_by before after v v outer refl

-- a space at the end goes
pub trim_more : (s front : List ℕ) → s ≡ front ++ 32 ∷ [] → reverse (without_first_spaces (reverse front)) ≡ reverse (without_first_spaces (reverse s))
trim_more s front e =
    let turned : reverse s ≡ 32 ∷ reverse front = ap reverse e ∙ reverse-append front (32 ∷ []) in
    ap reverse (sym (ap without_first_spaces turned ∙ without_first-cons 32 (reverse front)))

-- digits have no space at either end
pub digits_outer : (ds : List ℕ) → list_all is_digit ds ≡ true → HasNoOuterSpace ds
digits_outer ds e = record {
  first = λ rest h. let t = sym (ap (list_all is_digit) h) ∙ e in false≢true t;
  last = λ front h. let t = all_back is_digit front (32 ∷ []) (sym (ap (list_all is_digit) h) ∙ e) in false≢true t;
}
