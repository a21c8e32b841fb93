use Rattle.std.proofs.Common.{◌≡◌, ℕ, ◌+◌, List, [], ◌∷◌, ◌++◌, Option, arith, refl, ap, length}
use Rattle.std.proofs.lemmas.List.{length_push}
use Rattle.gs_enet.specs.declared.held.Held.{Held}
use Rattle.gs_enet.proofs.Windows.{in_window-push}
use Rattle.gs_enet.proofs.channel.Channel.give.Goals as goal

grown : (n : ℕ) (xs ys : List (Option Held)) (x : Option Held) → ys ≡ xs ++ x ∷ [] → n + length ys ≡ n + length xs + 1
grown n xs ys x e = omega (arith, ap length e, length_push xs x)

pub returns-clause-given : goal.returns-clause-given
returns-clause-given c =
    record {
      next = grown _ _ _ _ c.in_ok-push_back.ensures.items;
      heard = refl;
      held = λ k. in_window-push k _ _ _ _ c.in_ok-push_back.ensures.items;
    }
