-- The tick of a number stands one place lower.
use Rattle.std.proofs.Common.{◌≡◌, ℕ, zero, suc, ◌-◌, ◌<◌, ◌≤◌, List, map, length, get_or, slice_get, Some, None, option_map}
use Rattle.std.proofs.Common.{refl, sym, ap, ◌∙◌, subst, arith}
use Rattle.std.proofs.lemmas.Option.{slice_get-map, slice_get_read, slice_get_past}
use Rattle.std.specs.declared.sync.Arc.{Arc}
use Rattle.std.specs.Arc.{arc_value}
use Rattle.std.proofs.lemmas.List.{length-map}
use Rattle.gs_tape.specs.Tick.{Tick, tick_numbered}

pub numbered_is : (ts : List Tick) (n : ℕ) → 0 < n → tick_numbered ts n ≡ slice_get ts (n - 1)
numbered_is ts zero some = absurd (omega arith)
numbered_is ts (suc n) some = let e : n ≡ suc n - 1 = omega arith in ap (λ (k : ℕ). slice_get ts k) e

module _ {A : Type 0} (items : List (Arc Tick A)) (ticks : List Tick) (are : map arc_value items ≡ ticks) where
  stands : (n : ℕ) → 0 < n → tick_numbered ticks n ≡ option_map arc_value (slice_get items (n - 1))
  stands n some = numbered_is ticks n some ∙ ap (λ (ts : List Tick). slice_get ts (n - 1)) (sym are) ∙ slice_get-map arc_value items (n - 1)

  pub found_is : (n : ℕ) (x : Arc Tick A) (t : Tick) → 0 < n → n - 1 < length items → x ≡ get_or items (n - 1) x → t ≡ arc_value x
      → tick_numbered ticks n ≡ Some t
  found_is n x t some low at same =
      stands n some ∙ ap (option_map arc_value) (slice_get_read items (length items) (n - 1) x refl low at) ∙ ap Some (sym same)

  pub none_is : (n : ℕ) → 0 < n → length items ≤ n - 1 → tick_numbered ticks n ≡ None
  none_is n some past = stands n some ∙ ap (option_map arc_value) (slice_get_past items (n - 1) past)

  pub last_is : (count : ℕ) (x : Arc Tick A) (t : Tick) → count ≡ length items → 0 < count → x ≡ get_or items (count - 1) x → t ≡ arc_value x
      → tick_numbered ticks (length ticks) ≡ Some t
  last_is count x t is some at same =
      let long : count ≡ length ticks = is ∙ sym (length-map items arc_value) ∙ ap length are in
      subst (λ (n : ℕ). tick_numbered ticks n ≡ Some t) long (found_is count x t some (omega (arith, is, some)) at same)
