-- The passes of a cell, their calls, and the history that has these and no others.
use Rattle.std.proofs.Common.{◌≡◌, ℕ, zero, suc, ◌+◌, ◌*◌, ◌%◌, ◌^◌, ◌<◌, ◌≤◌, ◌==◌, ◌||◌, Bool, true, false, cond, List, [], ◌∷◌, ◌++◌, length, refl, sym, ap}
use Rattle.std.proofs.Common.{subst, ◌∙◌, arith}
use Rattle.std.specs.List.{AllByRecursion}
use Rattle.std.proofs.lemmas.Bool.Decides.{nat_tests}
use Rattle.std.proofs.Math.Nat.{mod-add-mod, mul-le-mul_right, suc-mul, zero-mul}
use Rattle.std.proofs.lemmas.Bool.{or_right, eqb-true}
use Rattle.gs_turn.specs.declared.turned.Turned.{Ghosts}
use Rattle.gs_turn.specs.declared.turn_call.TurnCall.{TurnCall}
use Rattle.gs_turn.specs.declared.pass.Pass.{Pass}
use Rattle.gs_turn.specs.declared.turn.Turn.{Turn}
use Rattle.gs_turn.specs.Cells.{AreNewPasses, IsNewPass}
use Rattle.gs_turn.specs.History.{HasOwn, Leaves, calls_under, has_number, least_number, turn_call, with_call}
use Rattle.gsbench.specs.Calling.{HasCalled, HaveCalled}
use Rattle.gs_bytes.proofs.Cases.{less_is_other}

-- ---- new passes

module _ {S C R : Type 0} {g : Ghosts S C R} (t : Turn S C R) where
  -- all but the last of new passes are new, and so is the last
  pub new_but_last : (n : ℕ) (ps : List (Pass S C R g)) (p : Pass S C R g) → AreNewPasses t n (ps ++ p ∷ [])
      → AreNewPasses t n ps × IsNewPass t (n + length ps) p
  new_but_last n [] p h = let same : n ≡ n + 0 = omega arith in (tt, subst (λ (k : ℕ). IsNewPass t k p) same h.0)
  new_but_last n (x ∷ ps) p h =
      let r = new_but_last (n + 1) ps p h.1 in
      let same : n + 1 + length ps ≡ n + suc (length ps) = omega arith in
      ((h.0, r.0), subst (λ (k : ℕ). IsNewPass t k p) same r.1)

  pub new_of_all : (n : ℕ) (all ps : List (Pass S C R g)) (p : Pass S C R g) → all ≡ ps ++ p ∷ [] → AreNewPasses t n all
      → AreNewPasses t n ps × IsNewPass t (n + length ps) p
  new_of_all n all ps p is are =
      let New : List (Pass S C R g) → Type 0 = λ xs. AreNewPasses t n xs in
      new_but_last n ps p (subst New is are)

-- ---- calls of one pass, and of passes that are joined

is_equal : (n : ℕ) → (n == n) ≡ true
is_equal n = grind (arith, nat_tests)

-- 1 for a test that holds
abbrev hit : Bool → ℕ
hit true = 1
hit false = 0

module _ {C R : Type 0} where
  length_more : (xs : List (TurnCall C R)) (x : TurnCall C R) → length (xs ++ x ∷ []) ≡ length xs + 1
  length_more [] x = refl
  length_more (y ∷ ys) x = let is = length_more ys x in omega (arith, is)

  pub one_call_more : (number count : ℕ) (own more : List (ℕ × List (TurnCall C R))) (call : C) (reply : R) → HasCalled number count own
      → more ≡ with_call (turn_call (least_number own) call reply) own → HasCalled number (count + 1) more
  one_call_more number count own more call reply has is =
      let e : TurnCall C R = turn_call number call reply in
      let Made : List (ℕ × List (TurnCall C R)) → Type 0 = λ o. more ≡ with_call (turn_call (least_number o) call reply) o in
      let made : more ≡ (number, cond (number == number) (has.0 ++ e ∷ []) has.0) ∷ [] = subst Made has.1 is in
      let Holds : Bool → Type 0 = λ b. more ≡ (number, cond b (has.0 ++ e ∷ []) has.0) ∷ [] in
      (has.0 ++ e ∷ [], subst Holds (is_equal number) made, length_more has.0 e ∙ ap (λ (n : ℕ). n + 1) has.2)

  pub first_called : (count : ℕ) (own : List (ℕ × List (TurnCall C R))) → HasCalled 0 count own → HaveCalled 0 count own × (length own ≡ 1)
  first_called count own has =
      let Have : List (ℕ × List (TurnCall C R)) → Type 0 = λ o. HaveCalled 0 count o × (length o ≡ 1) in
      subst Have (sym has.1) ((refl, has.2, tt), refl)

  behind : (number count : ℕ) (own : List (ℕ × List (TurnCall C R))) (calls : List (TurnCall C R)) → HaveCalled number count own
      → length calls ≡ count → HaveCalled number count (own ++ (number + length own, calls) ∷ [])
  behind number count [] calls have many = let same : number + 0 ≡ number = omega arith in (same, many, tt)
  behind number count (o ∷ os) calls have many =
      let Have : ℕ → Type 0 = λ n. HaveCalled (number + 1) count (os ++ (n, calls) ∷ []) in
      let same : number + 1 + length os ≡ number + suc (length os) = omega arith in
      (have.0, have.1, subst Have same (behind (number + 1) count os calls have.2 many))

  length_join : (xs ys : List (ℕ × List (TurnCall C R))) → length (xs ++ ys) ≡ length xs + length ys
  length_join [] ys = omega arith
  length_join (x ∷ xs) ys = let is = length_join xs ys in omega (arith, is)

  -- the last pass is joined to those before it
  pub joined_called : (count n : ℕ) (own give both : List (ℕ × List (TurnCall C R))) → HaveCalled 0 count own × (length own ≡ n)
      → HasCalled (0 + n) count give → both ≡ own ++ give → HaveCalled 0 count both × (length both ≡ n + 1)
  joined_called count n own give both have has is =
      let Have : List (ℕ × List (TurnCall C R)) → Type 0 = λ o. HaveCalled 0 count o in
      let last : ℕ → List (ℕ × List (TurnCall C R)) = λ k. (0 + k, has.0) ∷ [] in
      let all : both ≡ own ++ last (length own) =
      is ∙ ap (λ (o : List (ℕ × List (TurnCall C R))). own ++ o) (has.1 ∙ ap last (sym have.1)) in
      let long : length both ≡ length own + 1 = ap length all ∙ length_join own (last (length own)) in
      (subst Have (sym all) (behind 0 count own has.0 have.0 has.2), omega (arith, long, have.1))

  -- ---- the history

  pub numbers_called : (number count i : ℕ) (own : List (ℕ × List (TurnCall C R))) → HaveCalled number count own → i < length own
      → has_number (number + i) own ≡ true
  numbers_called number count i [] have low = absurd (omega (arith, low))
  numbers_called number count zero (o ∷ os) have low =
      let same : o.0 ≡ number + 0 = omega (arith, have.0) in
      let Here : ℕ → Type 0 = λ k. ((k == o.0) || has_number k os) ≡ true in
      let here : ((o.0 == o.0) || has_number o.0 os) ≡ true = ap (λ (b : Bool). b || has_number o.0 os) (is_equal o.0) in
      subst Here same here
  numbers_called number count (suc i) (o ∷ os) have low =
      let same : number + 1 + i ≡ number + suc i = omega arith in
      let There : ℕ → Type 0 = λ k. has_number k os ≡ true in
      let below : i < length os = omega (arith, low) in
      let there : has_number (number + suc i) os ≡ true =
      subst There same (numbers_called (number + 1) count i os have.2 below) in
      or_right (number + suc i == o.0) (has_number (number + suc i) os) there

  pub all_numbers : (count i : ℕ) (own : List (ℕ × List (TurnCall C R))) → HaveCalled 0 count own → i < length own → has_number i own ≡ true
  all_numbers count i own have low =
      let same : 0 + i ≡ i = omega arith in
      let Has : ℕ → Type 0 = λ k. has_number k own ≡ true in
      subst Has same (numbers_called 0 count i own have low)

  -- how many calls of a history were made under the numbers of a pass
  abbrev found : List (TurnCall C R) → List (ℕ × List (TurnCall C R)) → ℕ
  found h [] = 0
  found h (o ∷ os) = length (calls_under o.0 h) + found h os

  -- how often a pass has a number
  abbrev hits : ℕ → List (ℕ × List (TurnCall C R)) → ℕ
  hits n [] = 0
  hits n (o ∷ os) = hit (n == o.0) + hits n os

  hits_none : (number count n : ℕ) (own : List (ℕ × List (TurnCall C R))) → HaveCalled number count own → n < number → hits n own ≡ 0
  hits_none number count n [] have low = refl
  hits_none number count n (o ∷ os) have low =
      let here : hit (n == o.0) ≡ 0 = ap hit (less_is_other n o.0 (omega (arith, have.0, low))) in
      let there = hits_none (number + 1) count n os have.2 (omega (arith, low)) in
      omega (arith, here, there)

  hits_one : (number count n : ℕ) (own : List (ℕ × List (TurnCall C R))) → HaveCalled number count own → has_number n own ≡ true → hits n own ≡ 1
  hits_one number count n [] have has = absurd (cc)
  hits_one number count n (o ∷ os) have has =
      let Hits : Bool → Type 0 = λ b. (n == o.0) ≡ b → (b || has_number n os) ≡ true → hit b + hits n os ≡ 1 in
      elim (n == o.0) as Hits [
        | true ↦ λ is _.
            let none = hits_none (number + 1) count n os have.2 (omega (arith, have.0, eqb-true n o.0 is)) in
            omega (arith, none)
        | false ↦ λ _ later. let one = hits_one (number + 1) count n os have.2 later in omega (arith, one)
      ] refl has

  one_longer : (b : Bool) (e : TurnCall C R) (c : List (TurnCall C R)) → length (cond b (e ∷ c) c) ≡ length c + hit b
  one_longer true e c = omega arith
  one_longer false e c = omega arith

  found_more : (e : TurnCall C R) (es : List (TurnCall C R)) (own : List (ℕ × List (TurnCall C R))) → found (e ∷ es) own ≡ found es own + hits e.number own
  found_more e es [] = refl
  found_more e es (o ∷ os) =
      let here = one_longer (e.number == o.0) e (calls_under o.0 es) in
      let there = found_more e es os in
      omega (arith, here, there)

  found_none : (own : List (ℕ × List (TurnCall C R))) → found [] own ≡ 0
  found_none [] = refl
  found_none (o ∷ os) = let none = found_none os in omega (arith, none)

  -- all calls of a history that has no others
  all_found : (number count : ℕ) (own : List (ℕ × List (TurnCall C R))) (h : List (TurnCall C R)) → HaveCalled number count own
      → AllByRecursion (λ (e : TurnCall C R). has_number e.number own ≡ true) h → found h own ≡ length h
  all_found number count own [] have all = found_none own
  all_found number count own (e ∷ es) have all =
      let more = found_more e es own in
      let one = hits_one number count e.number own have all.0 in
      let there = all_found number count own es have all.1 in
      omega (arith, more, one, there)

  -- those that were made
  made_found : (number count : ℕ) (own : List (ℕ × List (TurnCall C R))) (h : List (TurnCall C R)) → HaveCalled number count own → HasOwn own h
      → found h own ≡ length own * count
  made_found number count [] h have made = sym (zero-mul count)
  made_found number count (o ∷ os) h have made =
      let here : length (calls_under o.0 h) ≡ count = ap length made.0 ∙ have.1 in
      let there = made_found (number + 1) count os h have.2 made.1 in
      let both = suc-mul (length os) count in
      omega (arith, here, there, both)

  pub all_counted : (number count : ℕ) (own : List (ℕ × List (TurnCall C R))) (h : List (TurnCall C R)) → HaveCalled number count own → HasOwn own h
      → AllByRecursion (λ (e : TurnCall C R). has_number e.number own ≡ true) h → length h ≡ length own * count
  all_counted number count own h have made all = sym (all_found number count own h have all) ∙ made_found number count own h have made

  -- a state that counts its calls, modulo 2^64
  pub leaves_counted : {S : Type 0} (steps : S → C → R → S → Type 0) (calls : S → ℕ)
      → ((s : S) (c : C) (r : R) (t : S) → steps s c r t → calls t ≡ (calls s + 1) % 2 ^ 64)
      → (s t : S) (h : List (TurnCall C R)) → calls s < 2 ^ 64 → Leaves steps s h t → calls t ≡ (calls s + length h) % 2 ^ 64
  leaves_counted steps calls each s t [] low leaves =
      let same : calls t ≡ calls s = ap calls (sym leaves) in
      omega (arith, same, low)
  leaves_counted steps calls each s t (e ∷ es) low leaves =
      let u = leaves.0 in
      let step : calls u ≡ (calls s + 1) % 2 ^ 64 = each s e.call e.reply u leaves.1 in
      let below : calls u < 2 ^ 64 = omega (arith, step) in
      let rest = leaves_counted steps calls each u t es below leaves.2 in
      let longer : calls s + 1 + length es ≡ calls s + suc (length es) = omega arith in
      rest ∙ ap (λ (n : ℕ). (n + length es) % 2 ^ 64) step ∙ mod-add-mod (calls s + 1) (2 ^ 64) (length es) ∙ ap (λ (n : ℕ). n % 2 ^ 64) longer

-- as many as were made, where they are fewer than 2^64
pub none_wraps : (calls start made threads count : ℕ) → calls ≡ (start + made) % 2 ^ 64 → start ≡ 0 → made ≡ threads * count → threads ≤ 16
    → count < 2 ^ 32 → calls ≡ threads * count
none_wraps calls start made threads count left none all few low =
    let most : threads * count ≤ 16 * count = mul-le-mul_right count few in
    omega (arith, left, none, all, most, low)
