-- Going over the lines of a body byte by byte.
use Rattle.std.proofs.Common.{◌≡◌, ℕ, ◌+◌, ◌-◌, ◌<◌, ◌≤◌, Bool, true, false, cond, eqb, List, [], ◌∷◌, ◌++◌, length, take, drop, get_or, Option, Some, None}
use Rattle.std.proofs.Common.{refl, sym, ap, ◌∙◌, append_assoc, arith, drop-cons, add-one}
use Rattle.std.proofs.lemmas.List.{append-nil, length-drop, get_or-drop, take_more, drop_all}
use Rattle.std.proofs.lemmas.Bool.Decides.{nat_tests}
use Rattle.gs_sdp.specs.Lines.{with_byte, crlf_lines, value_in, later, last_among}

-- the first of some lines, with bytes in front
abbrev pub with_front : List ℕ → List (List ℕ) → List (List ℕ)
with_front front [] = []
with_front front (line ∷ lines) = (front ++ line) ∷ lines

front_byte : (front : List ℕ) (b : ℕ) (lines : List (List ℕ)) → with_front front (with_byte b lines) ≡ with_front (front ++ b ∷ []) lines
front_byte front b [] = refl
front_byte front b (line ∷ lines) = ap (λ (l : List ℕ). l ∷ lines) (sym (append_assoc front (b ∷ []) line))

front_none : (lines : List (List ℕ)) → with_front [] lines ≡ lines
front_none [] = refl
front_none (line ∷ lines) = refl

pub lines_other : (b : ℕ) (bs : List ℕ) → (b ≡ 10 → ⊥) → crlf_lines (b ∷ bs) ≡ with_byte b (crlf_lines bs)
lines_other b bs other =
    let test : eqb b 10 ≡ false = grind (arith, nat_tests) in
    ap (λ (t : Bool). cond t ([] ∷ crlf_lines bs) (with_byte b (crlf_lines bs))) test

pub lines_feed : (b : ℕ) (bs : List ℕ) → b ≡ 10 → crlf_lines (b ∷ bs) ≡ [] ∷ crlf_lines bs
lines_feed b bs same =
    let test : eqb b 10 ≡ true = grind (arith, nat_tests) in
    ap (λ (t : Bool). cond t ([] ∷ crlf_lines bs) (with_byte b (crlf_lines bs))) test

module _ (body : List ℕ) (start i : ℕ) (order : start ≤ i) where
  -- the bytes from the start of a line to here, and the lines behind them
  abbrev pub IsInLine : Type 0
  IsInLine = crlf_lines (drop start body) ≡ with_front (take (i - start) (drop start body)) (crlf_lines (drop i body))

  module _ (within : i < length body) where
    rest_of : drop i body ≡ get_or body i 0 ∷ drop (i + 1) body
    rest_of = rw (add-one) (drop-cons body i 0 within)

    one_more : take (i + 1 - start) (drop start body) ≡ take (i - start) (drop start body) ++ get_or body i 0 ∷ []
    one_more =
        let size : i - start < length (drop start body) = omega (arith, length-drop start body) in
        let next : i + 1 - start ≡ i - start + 1 = omega arith in
        let place : start + (i - start) ≡ i = omega arith in
        ap (λ (n : ℕ). take n (drop start body)) next ∙ take_more (drop start body) (i - start) 0 size
        ∙ ap (λ (b : ℕ). take (i - start) (drop start body) ++ b ∷ []) (get_or-drop start body (i - start) 0 ∙ ap (λ (n : ℕ). get_or body n 0) place)

    pub goes_on : (get_or body i 0 ≡ 10 → ⊥) → IsInLine → crlf_lines (drop start body) ≡ with_front (take (i + 1 - start) (drop start body))
        (crlf_lines (drop (i + 1) body))
    goes_on other h =
        h ∙ ap (λ (s : List ℕ). with_front (take (i - start) (drop start body)) (crlf_lines s)) rest_of
        ∙ ap (with_front (take (i - start) (drop start body))) (lines_other (get_or body i 0) (drop (i + 1) body) other)
        ∙ front_byte (take (i - start) (drop start body)) (get_or body i 0) (crlf_lines (drop (i + 1) body))
        ∙ ap (λ (f : List ℕ). with_front f (crlf_lines (drop (i + 1) body))) (sym one_more)

    pub ends : get_or body i 0 ≡ 10 → IsInLine → crlf_lines (drop start body) ≡ take (i - start) (drop start body) ∷ crlf_lines (drop (i + 1) body)
    ends same h =
        h ∙ ap (λ (s : List ℕ). with_front (take (i - start) (drop start body)) (crlf_lines s)) rest_of
        ∙ ap (with_front (take (i - start) (drop start body))) (lines_feed (get_or body i 0) (drop (i + 1) body) same)
        ∙ ap (λ (l : List ℕ). l ∷ crlf_lines (drop (i + 1) body)) (append-nil (take (i - start) (drop start body)))

  pub none_left : length body ≤ i → IsInLine → crlf_lines (drop start body) ≡ []
  none_left le h = h ∙ ap (λ (s : List ℕ). with_front (take (i - start) (drop start body)) (crlf_lines s)) (drop_all i body le)

pub at_start : (body : List ℕ) (start : ℕ) → crlf_lines (drop start body) ≡ with_front (take (start - start) (drop start body)) (crlf_lines (drop start body))
at_start body start =
    let none : start - start ≡ 0 = omega arith in
    sym (ap (λ (n : ℕ). with_front (take n (drop start body)) (crlf_lines (drop start body))) none ∙ front_none (crlf_lines (drop start body)))

-- ---- the last value

later_later : (a b c : Option (List ℕ)) → later a (later b c) ≡ later (later a b) c
later_later a b None = refl
later_later a b (Some value) = refl

pub found_more : (name line : List ℕ) (lines : List (List ℕ)) (found : Option (List ℕ)) (all : Option (List ℕ)) (rest : List (List ℕ)) → rest ≡ line ∷ lines
    → later found (last_among name rest) ≡ all → later (later found (value_in name line)) (last_among name lines) ≡ all
found_more name line lines found all rest e h = sym (later_later found (value_in name line) (last_among name lines))
    ∙ ap (λ (ls : List (List ℕ)). later found (last_among name ls)) (sym e) ∙ h
