-- The seats of a table, of which one changes its view: sums over all views, facts of each, and marks that no two have.
use Rattle.std.proofs.Common.{◌≡◌, ◌≢◌, ◌⊎◌, ℕ, zero, suc, ◌+◌, ◌≤◌, List, [], ◌∷◌, ◌++◌, length, set, refl, sym, ap, ◌∙◌, subst, inl, inr, ⊎_elim, arith}
use mathlib.Core.Option.{some, some-injective, some-ne-none}
use lib.ListN.{get_elem?}
use Rattle.atomic_table.proofs.Lists.{at_set}
use Rattle.gs_turn.specs.Rule.{total}

module _ {V : Type 0} where
  pub total_set : (f : V → ℕ) (views : List V) (id : ℕ) (v w : V) → get_elem? views id ≡ some v → total f (set views id w) + f v ≡ total f views + f w
  total_set f [] id v w at = absurd (some-ne-none v (sym at))
  total_set f (x ∷ xs) zero v w at = let is : f x ≡ f v = ap f (some-injective x v at) in omega arith
  total_set f (x ∷ xs) (suc id) v w at = let rest = total_set f xs id v w at in omega arith

  pub total_snoc : (f : V → ℕ) (views : List V) (v : V) → total f (views ++ v ∷ []) ≡ total f views + f v
  total_snoc f [] v = omega arith
  total_snoc f (x ∷ xs) v = let rest = total_snoc f xs v in omega arith

  pub total_le : (f g : V → ℕ) (views : List V) → ((id : ℕ) (v : V) → get_elem? views id ≡ some v → f v ≤ g v) → total f views ≤ total g views
  total_le f g [] each = omega arith
  total_le f g (x ∷ xs) each = let here = each zero x refl in let rest = total_le f g xs (λ id v at. each (suc id) v at) in omega arith

  -- a seat's view is what it is
  pub one_view : (views : List V) (id : ℕ) (v w : V) → get_elem? views id ≡ some v → get_elem? views id ≡ some w → v ≡ w
  one_view views id v w a b = some-injective v w (sym a ∙ b)

  -- the first and only seat
  pub only_view : (x v : V) (id : ℕ) → get_elem? (x ∷ []) id ≡ some v → x ≡ v
  only_view x v zero at = some-injective x v at
  only_view x v (suc id) at = absurd (some-ne-none v (sym at))

  -- the view that a seat was given
  pub here_set : (views : List V) (id : ℕ) (v w : V) → get_elem? views id ≡ some v → get_elem? (set views id w) id ≡ some w
  here_set [] id v w at = absurd (some-ne-none v (sym at))
  here_set (x ∷ xs) zero v w at = refl
  here_set (x ∷ xs) (suc id) v w at = here_set xs id v w at

  -- a fact of each seat after one has a new view
  pub each_set : (P : ℕ → V → Type 0) (views : List V) (id : ℕ) (w : V) → P id w → ((j : ℕ) (u : V) → j ≢ id → get_elem? views j ≡ some u → P j u)
      → (j : ℕ) (u : V) → get_elem? (set views id w) j ≡ some u → P j u
  each_set P views id w here others j u at =
      ⊎_elim (λ (t : (j ≡ id) × (w ≡ u)). subst (λ (z : ℕ × V). P z.0 z.1) (λ i. (sym t.0 i, t.1 i)) here)
      (λ (t : (j ≢ id) × (get_elem? views j ≡ some u)). others j u t.0 t.1)
      (at_set views id j w u at)

  -- a seat of a longer list is one of the list, or the last
  pub at_end : (views : List V) (w : V) (j : ℕ) (u : V) → get_elem? (views ++ w ∷ []) j ≡ some u → (get_elem? views j ≡ some u) ⊎ ((j ≡ length views) × (w ≡ u))
  at_end [] w zero u at = inr (refl, some-injective w u at)
  at_end [] w (suc j) u at = absurd (some-ne-none u (sym at))
  at_end (x ∷ xs) w zero u at = inl at
  at_end (x ∷ xs) w (suc j) u at = ⊎_elim (λ h. inl h) (λ (h : (j ≡ length xs) × (w ≡ u)). inr (let e = h.0 in omega (arith, e), h.1)) (at_end xs w j u at)

  -- a fact of each seat after one has come
  pub each_snoc : (P : ℕ → V → Type 0) (views : List V) (w : V) → ((j : ℕ) → P j w) → ((j : ℕ) (u : V) → get_elem? views j ≡ some u → P j u)
      → (j : ℕ) (u : V) → get_elem? (views ++ w ∷ []) j ≡ some u → P j u
  each_snoc P views w last others j u at = ⊎_elim (λ h. others j u h) (λ (h : (j ≡ length views) × (w ≡ u)). subst (P j) h.1 (last j)) (at_end views w j u at)

  module _ {A : Type 0} (M : A → V → Type 0) where
    -- no two seats have one mark
    abbrev pub Apart : List V → Type 0
    Apart views = (i j : ℕ) (v w : V) (a : A) → get_elem? views i ≡ some v → get_elem? views j ≡ some w → M a v → M a w → i ≡ j

    -- none of the other seats has a mark of w
    abbrev pub Alone : List V → ℕ → V → Type 0
    Alone views id w = (a : A) (j : ℕ) (u : V) → j ≢ id → get_elem? views j ≡ some u → M a w → M a u → ⊥

    pub apart_set : (views : List V) (id : ℕ) (w : V) → Apart views → Alone views id w → Apart (set views id w)
    apart_set views id w apart alone i j x y a at_i at_j mx my =
        ⊎_elim
        (λ (s : (i ≡ id) × (w ≡ x)). ⊎_elim
        (λ (t : (j ≡ id) × (w ≡ y)). s.0 ∙ sym t.0)
        (λ (t : (j ≢ id) × (get_elem? views j ≡ some y)). absurd (alone a j y t.0 t.1 (subst (M a) (sym s.1) mx) my))
        (at_set views id j w y at_j))
        (λ (s : (i ≢ id) × (get_elem? views i ≡ some x)). ⊎_elim
        (λ (t : (j ≡ id) × (w ≡ y)). absurd (alone a i x s.0 s.1 (subst (M a) (sym t.1) my) mx))
        (λ (t : (j ≢ id) × (get_elem? views j ≡ some y)). apart i j x y a s.1 t.1 mx my)
        (at_set views id j w y at_j))
        (at_set views id i w x at_i)

    pub apart_snoc : (views : List V) (w : V) → Apart views → ((a : A) (j : ℕ) (u : V) → get_elem? views j ≡ some u → M a w → M a u → ⊥) → Apart
        (views ++ w ∷ [])
    apart_snoc views w apart new i j x y a at_i at_j mx my =
        ⊎_elim
        (λ (s : get_elem? views i ≡ some x). ⊎_elim
        (λ (t : get_elem? views j ≡ some y). apart i j x y a s t mx my)
        (λ (t : (j ≡ length views) × (w ≡ y)). absurd (new a i x s (subst (M a) (sym t.1) my) mx))
        (at_end views w j y at_j))
        (λ (s : (i ≡ length views) × (w ≡ x)). ⊎_elim
        (λ (t : get_elem? views j ≡ some y). absurd (new a j y t (subst (M a) (sym s.1) mx) my))
        (λ (t : (j ≡ length views) × (w ≡ y)). s.0 ∙ sym t.0)
        (at_end views w j y at_j))
        (at_end views w i x at_i)

    -- a view with no new mark is alone with those that it has
    pub alone_less : (views : List V) (id : ℕ) (v w : V) → Apart views → get_elem? views id ≡ some v → ((a : A) → M a w → M a v) → Alone views id w
    alone_less views id v w apart at less a j u ne at_j mw mu = ne (apart j id u v a at_j at mu (less a mw))
