-- After two passes were made one, the front begins with both fronts.
use Rattle.std.proofs.Common.{◌≡◌, ℕ, ◌<◌, ◌≤◌, Bool, true, false, nat_lt, List, [], ◌∷◌, length, set, get_or}
use Rattle.std.proofs.Common.{refl, sym, ◌∙◌, subst, inl, inr, arith, Option}
use Rattle.std.proofs.lemmas.Bool.Decides.{nat_tests}
use Rattle.std.specs.List.{AllByRecursion}
use mathlib.Core.Option.{none}
use mathlib.Core.List.{IsPrefix}
use Rattle.atomic_table.specs.Table.{State, Me, step, keeps, Allows}
use Rattle.gs_turn.specs.declared.rule.Opening.{Opening}
use Rattle.gs_turn.specs.declared.rule.PassView.{PassView}
use Rattle.gs_turn.specs.declared.rule.Standing.TheVariants.{Outside, Serving}
use Rattle.gs_turn.specs.Standings.{tickets_held}
use Rattle.gs_turn.specs.Rule.{Knows, Kept}
use Rattle.gs_turn.specs.Plays.{longer, settled}
use Rattle.gs_bytes.proofs.Lists.{prefix_shorter}
use Rattle.gs_turn.proofs.Seats.{total_set, each_set, apart_set, alone_less}
use Rattle.gs_turn.proofs.Keeping.{HasNumber, HasTicket, housed_set, not_fresh}

begin_front : {A : Type 0} (front log : List A) (olds : List (List A)) → IsPrefix front log → AllByRecursion (λ old. IsPrefix old log) olds → AllByRecursion
    (λ old. length old ≤ length front) olds → AllByRecursion (λ old. IsPrefix old front) olds
begin_front front log [] p all short = tt
begin_front front log (x ∷ xs) p all short = (prefix_shorter x front log all.0 p short.0, begin_front front log xs p all.1 short.1)

pub short_left : {A : Type 0} (xs ys : List A) → length xs ≤ length (longer xs ys)
short_left xs ys = by_test (nat_lt (length xs) (length ys)) refl where
  by_test : (b : Bool) → nat_lt (length xs) (length ys) ≡ b → length xs ≤ length (longer xs ys)
  by_test true is = let low : length xs < length ys = grind (arith, nat_tests) in rw is (omega (arith, low))
  by_test false is = rw is (omega arith)

pub short_right : {A : Type 0} (xs ys : List A) → length ys ≤ length (longer xs ys)
short_right xs ys = by_test (nat_lt (length xs) (length ys)) refl where
  by_test : (b : Bool) → nat_lt (length xs) (length ys) ≡ b → length ys ≤ length (longer xs ys)
  by_test true is = rw is (omega arith)
  by_test false is = let low : length ys ≤ length xs = grind (arith, nat_tests) in rw is (omega (arith, low))

same_word : (ws : List ℕ) (a b c : ℕ) → ws ≡ a ∷ b ∷ c ∷ [] → set ws 0 (get_or ws 0 0) ≡ ws
same_word ws a b c is = subst (λ (z : List ℕ). set z 0 (get_or z 0 0) ≡ z) (sym is) refl

module _ {S C R : Type 0} (steps : S → C → R → S → Type 0) (about : Opening S) where
  abbrev St : Type 0
  St = State (Option S) (PassView S C R)

  pub settles : (slots id : ℕ) (me : Me (Option S) (PassView S C R)) → me.0.standing ≡ Outside → AllByRecursion
      (λ old. length old ≤ length me.0.front) me.0.olds
      → Allows (Kept steps about) slots id me 0 (λ n. n) (settled (step slots 0 0 0 none) me)
  settles slots id me out short s (inl fresh) deep at small = absurd (cc (out, not_fresh about s id me.0 fresh at))
  settles slots id me out short s (inr r) deep at small =
      let v = me.0 in
      let w : PassView S C R = record v { olds = [] } in
      let mine = r.known id v at in
      let held = total_set (λ (u : PassView S C R). tickets_held u.standing) s.views id v w at in
      let owned = total_set (λ (u : PassView S C R). length u.own) s.views id v w at in
      let drawn = r.drawn_is in let made = r.made_is in (
        w,
        keeps,
        tt,
        inr record {
          log = r.log;
          state = r.state;
          drawn = r.drawn;
          served = r.served;
          made = r.made;
          legal = r.legal;
          words = same_word s.words _ _ _ r.words ∙ r.words;
          housed = housed_set r.served r.state s.homes s.views id v w at (λ e. absurd (cc (out, e))) r.housed;
          taken = each_set (λ seat u. u.standing ≡ Serving r.served → s.homes ≡ none ∷ []) s.views id w (λ is. r.taken id v at is)
              (λ j u ne at_j. r.taken j u at_j);
          known = each_set (λ seat u. Knows r.drawn r.served r.made about.state r.log seat u) s.views id w
              (record {
                stands = mine.stands;
                ticket_of_some = mine.ticket_of_some;
                of_cell = mine.of_cell;
                front = mine.front;
                olds = tt;
                own = mine.own;
                maker = mine.maker;
              })
              (λ j u ne at_j. r.known j u at_j);
          numbers_apart = apart_set HasNumber s.views id w r.numbers_apart (alone_less HasNumber s.views id v w r.numbers_apart at (λ a h. h));
          tickets_apart = apart_set HasTicket s.views id w r.tickets_apart (alone_less HasTicket s.views id v w r.tickets_apart at (λ a h. h));
          drawn_is = omega arith;
          made_is = omega arith;
          few = r.few;
          fits = r.fits;
          calls = r.calls;
        },
        (begin_front v.front r.log v.olds mine.front mine.olds short, refl),
      )
