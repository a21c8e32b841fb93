use Rattle.std.proofs.Common.{◌≡◌, ℕ, ◌≤◌, Bool, true, false, cond, ltb, List, length, take, Option, Some, None, sym, ap, ◌∙◌, arith, refl}
use Rattle.std.specs.List.{position_or_len}
use Rattle.std.proofs.lemmas.Bool.Decides.{nat_tests}
use Rattle.std.proofs.lemmas.List.{take_all}
use Rattle.gs_rtsp.specs.Fields.{is_semicolon}
use Rattle.gs_rtsp.proofs.field.before_semicolon.Goals as goal

abbrev first_place : List ℕ → ℕ
first_place value = position_or_len is_semicolon value

abbrev place_by : Bool → ℕ → Option ℕ
place_by t n = cond t (Some n) None

found : (t : Bool) (n end : ℕ) → place_by t n ≡ Some end → n ≡ end
found true n end e = cc
found false n end e = absurd (cc)

not_found : (t : Bool) (n : ℕ) → place_by t n ≡ None → t ≡ false
not_found true n e = absurd (cc)
not_found false n e = refl

pub returns-in-Some : goal.returns-in-Some
returns-in-Some c =
    let value = c.args.value.now in
    ap (λ (n : ℕ). take n value) (sym (found (ltb (first_place value) (length value)) (first_place value) c.in-Some.end (sym c.semicolon.ensures
    ∙ c.in-Some.is)))

pub returns-in-None : goal.returns-in-None
returns-in-None c =
    let value = c.args.value.now in
    let far : ltb (first_place value) (length value) ≡ false =
    not_found (ltb (first_place value) (length value)) (first_place value) (sym c.semicolon.ensures ∙ c.in-None.is) in
    let le : length value ≤ first_place value = grind (arith, nat_tests) in
    sym (take_all (first_place value) value le)
