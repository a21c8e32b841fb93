-- The set of a sorted list of codes, after a code was put into the list or taken from it.
use Rattle.std.proofs.Common.{◌≡◌, Bool, true, false, cond, not, ◌&&◌, ◌||◌, List, [], ◌∷◌, Option, Some, ℤ, refl, sym, ap, ◌∙◌}
use Rattle.std.specs.List.{list_any}
use Rattle.std.specs.Ordering.{int_cmp, eq_by_cmp}
use Rattle.std.specs.Cmp.{int_cmp_total, eq_by_cmp_equiv}
use Rattle.std.specs.FinSet as set
use Rattle.std.specs.FinSet.{same_set, int_cmp-IsAntisymmetric, contains-from_list, contains-insert, contains-remove, contains-empty}
use Rattle.gs_input.specs.declared.event.Event.{Event}
use Rattle.gs_input.specs.declared.event.Event.TheVariants.{KeyDown, KeyUp, Move, At, Press, Release, Scroll, Unknown}
use Rattle.gs_input.specs.Pressed.{down_after, is_key_down, is_down, was_last_down}

abbrev same : ℤ → ℤ → Bool
same a b = eq_by_cmp int_cmp a b

same_sym : (a b : ℤ) → same a b ≡ same b a
same_sym a b = (eq_by_cmp_equiv int_cmp_total).symm a b

cond_or : (b x : Bool) → cond b true x ≡ (b || x)
cond_or true x = refl
cond_or false x = refl

cond_and : (b x : Bool) → cond b false x ≡ (not b && x)
cond_and true x = refl
cond_and false x = refl

-- what a list of codes has
pub has_code : (codes : List ℤ) (code : ℤ) → set.contains (set.from_list {R = int_cmp} codes) code ≡ list_any (same code) codes
has_code codes code = contains-from_list int_cmp_total codes code

pub code_put : (old new : List ℤ) (code : ℤ) → ((q : ℤ) → list_any (same q) new ≡ cond (same code q) true (list_any (same q) old))
    → set.from_list {R = int_cmp} new ≡ set.insert (set.from_list old) code
code_put old new code h = same_set int_cmp_total int_cmp-IsAntisymmetric _ _ (λ q.
    has_code new q ∙ h q ∙ cond_or (same code q) (list_any (same q) old)
    ∙ ap (λ (b : Bool). b || list_any (same q) old) (same_sym code q) ∙ ap (λ (x : Bool). same q code || x) (sym (has_code old q))
    ∙ sym (contains-insert int_cmp_total (set.from_list old) code q))

pub code_taken : (old new : List ℤ) (code : ℤ) → ((q : ℤ) → list_any (same q) new ≡ cond (same code q) false (list_any (same q) old))
    → set.from_list {R = int_cmp} new ≡ set.remove (set.from_list old) code
code_taken old new code h = same_set int_cmp_total int_cmp-IsAntisymmetric _ _ (λ q.
    has_code new q ∙ h q ∙ cond_and (same code q) (list_any (same q) old)
    ∙ ap (λ (b : Bool). not b && list_any (same q) old) (same_sym code q) ∙ ap (λ (x : Bool). not (same q code) && x) (sym (has_code old q))
    ∙ sym (contains-remove int_cmp_total (set.from_list old) code q))

-- a code is down where its last key event was a key down
down_case : (b x : Bool) (event : Event) (earlier : Option Event) → is_key_down event ≡ true → x ≡ is_down earlier
    → (b || x) ≡ is_down (cond b (Some event) earlier)
down_case true x event earlier is e = sym is
down_case false x event earlier is e = e

up_case : (b x : Bool) (event : Event) (earlier : Option Event) → is_key_down event ≡ false → x ≡ is_down earlier
    → (not b && x) ≡ is_down (cond b (Some event) earlier)
up_case true x event earlier is e = sym is
up_case false x event earlier is e = e

pub down_is_last_down : (events : List Event) (code : ℤ) → set.contains (down_after events) code ≡ was_last_down events code
down_is_last_down [] code = contains-empty int_cmp code
down_is_last_down (KeyDown other modifiers ∷ events) code = contains-insert int_cmp_total (down_after events) other code
    ∙ down_case (same code other) _ (KeyDown other modifiers) _ refl (down_is_last_down events code)
down_is_last_down (KeyUp other modifiers ∷ events) code = contains-remove int_cmp_total (down_after events) other code
    ∙ up_case (same code other) _ (KeyUp other modifiers) _ refl (down_is_last_down events code)
down_is_last_down (Move dx dy ∷ events) code = down_is_last_down events code
down_is_last_down (At x y width height ∷ events) code = down_is_last_down events code
down_is_last_down (Press button ∷ events) code = down_is_last_down events code
down_is_last_down (Release button ∷ events) code = down_is_last_down events code
down_is_last_down (Scroll amount ∷ events) code = down_is_last_down events code
down_is_last_down (Unknown magic ∷ events) code = down_is_last_down events code
