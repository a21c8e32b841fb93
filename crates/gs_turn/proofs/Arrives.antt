-- The first pass of a new cell takes the empty slot, to bring the opening state in.
use Rattle.std.proofs.Common.{◌≡◌, ℕ, zero, suc, ◌^◌, ◌<◌, ◌≤◌, [], ◌∷◌, get_or, refl, sym, ap}
use Rattle.std.proofs.Common.{subst, inl, inr, arith, Option, None}
use mathlib.Core.Option.{some, none, some-ne-none, some-injective}
use lib.ListN.{get_elem?}
use Rattle.atomic_table.specs.Table.{State, Me, step, takes, stepped, Allows, opening}
use Rattle.gs_turn.specs.declared.rule.Opening.{Opening}
use Rattle.gs_turn.specs.declared.rule.PassView.{PassView}
use Rattle.gs_turn.specs.declared.rule.Standing.TheVariants.{Serving}
use Rattle.gs_turn.specs.Rule.{StandsWell, Knows, Running, Kept, arriving}
use Rattle.gs_turn.specs.Plays.{arrived}

module _ {S C R : Type 0} (steps : S → C → R → S → Type 0) (about : Opening S) (some_pass : 1 ≤ about.passes) (fits : about.passes < 2 ^ 32) where
  abbrev St : Type 0
  St = State (Option S) (PassView S C R)

  abbrev fresh : St
  fresh = opening (1 ∷ 0 ∷ 0 ∷ []) (None ∷ []) (arriving about.state)

  abbrev w : PassView S C R
  w = record (arriving about.state) { standing = Serving 0 }

  abbrev begun : St
  begun = stepped fresh 1 0 0 [] w (takes 0 None)

  only : (A : Type 0) (P : ℕ → A → Type 0) (x : A) → P 0 x → (j : ℕ) (u : A) → get_elem? (x ∷ []) j ≡ some u → P j u
  only A P x h zero u at = subst (P 0) (some-injective x u at) h
  only A P x h (suc j) u at = absurd (some-ne-none u (sym at))

  one_seat : (A : Type 0) (x : A) (i j : ℕ) (u v : A) → get_elem? (x ∷ []) i ≡ some u → get_elem? (x ∷ []) j ≡ some v → i ≡ j
  one_seat A x zero zero u v a b = refl
  one_seat A x zero (suc j) u v a b = absurd (some-ne-none v (sym b))
  one_seat A x (suc i) j u v a b = absurd (some-ne-none u (sym a))

  begins : Running steps about begun
  begins = record {
    log = [];
    state = about.state;
    drawn = 1;
    served = 0;
    made = 1;
    legal = refl;
    words = refl;
    housed = inr (0, w, refl, refl);
    taken = λ j u at is. refl;
    known = only (PassView S C R) (λ seat u. Knows 1 0 1 about.state [] seat u) w
        (record {
          stands = (refl, omega arith, refl);
          ticket_of_some = omega arith;
          of_cell = λ h. refl;
          front = ([], refl);
          olds = tt;
          own =
              ((omega arith, refl), tt);
          maker = λ h. (refl, refl);
        });
    numbers_apart = λ i j u v a at_i at_j m n. one_seat (PassView S C R) w i j u v at_i at_j;
    tickets_apart = λ i j u v a at_i at_j m n. one_seat (PassView S C R) w i j u v at_i at_j;
    drawn_is = refl;
    made_is = refl;
    few = some_pass;
    fits = fits;
    calls = tt;
  }

  first_seat : (id : ℕ) (v : PassView S C R) → get_elem? (arriving about.state ∷ []) id ≡ some v → id ≡ 0
  first_seat zero v at = refl
  first_seat (suc id) v at = absurd (some-ne-none v (sym at))

  pub arrives : (slots id : ℕ) (me : Me (Option S) (PassView S C R)) → me ≡ (arriving about.state, []) → Allows (Kept steps about) slots id me 1 (λ n. n)
      (arrived (step slots 1 0 0 none) me)
  arrives slots id me is s (inl new) deep at small =
      let at' : get_elem? (arriving about.state ∷ []) id ≡ some me.0 = subst (λ (z : St). get_elem? z.views id ≡ some me.0) new at in
      let here = first_seat id me.0 at' in
      let same : begun ≡ stepped s 1 (get_or s.words 1 0) id me.1 w (takes 0 None) = λ i. stepped (sym new i) 1 (get_or (sym new i).words 1 0) (sym here i)
      (sym is i).1 w (takes 0 None) in (
        w,
        takes 0 None,
        subst (λ (z : St). get_elem? z.homes 0 ≡ some (some None)) (sym new) refl,
        inr (subst (Running steps about) same begins),
        λ i. (record ((sym is i).0) { standing = Serving 0 }, (0, None) ∷ (is i).1),
      )
  arrives slots id me is s (inr r) deep at small =
      absurd (subst (StandsWell r.drawn r.served r.log me.0.front) (ap (λ m. m.0.standing) is) (r.known id me.0 at).stands)
