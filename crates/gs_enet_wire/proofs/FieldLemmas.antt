-- Fields one after the other: their bytes say which numbers they hold, and where they end.
use Rattle.std.proofs.Common.{◌≡◌, ℕ, ◌^◌, ◌<◌, List, [], ◌∷◌, ◌++◌, length, drop, map, refl, sym, ap, ◌∙◌, append_assoc}
use Rattle.std.proofs.lemmas.List.{drop_at}
use Rattle.byteorder.specs.Endian.{big_from}
use Rattle.byteorder.specs.Numbers.{big_number-reads_back, length-bytes_high_first}
use Rattle.gs_enet_wire.specs.Grammar.{WireField, field_bytes, fields_bytes, Fit}

abbrev pub width : WireField → ℕ
width f = f.0

abbrev pub value : WireField → ℕ
value f = f.1

abbrev pub widths : List WireField → List ℕ
widths fs = map width fs

abbrev pub values : List WireField → List ℕ
values fs = map value fs

pub length-field_bytes : (f : WireField) → length (field_bytes f) ≡ f.0
length-field_bytes f = length-bytes_high_first f.0 f.1

abbrev field_of : ℕ → ℕ → WireField
field_of w n = (w, n)

pair_same : (f g : WireField) → f.0 ≡ g.0 → f.1 ≡ g.1 → f ≡ g
pair_same f g w n = ap (λ (k : ℕ). field_of k f.1) w ∙ ap (λ (k : ℕ). field_of g.0 k) n

-- two fields of one width that begin one text hold one number
pub field_same : (f g : WireField) (x y : List ℕ) → f.0 ≡ g.0 → f.1 < 256 ^ f.0 → g.1 < 256 ^ g.0
    → field_bytes f ++ x ≡ field_bytes g ++ y → (f.1 ≡ g.1) × (x ≡ y)
field_same f g x y wide small small' e =
    let number : f.1 ≡ g.1 = sym (big_number-reads_back f.0 f.1 x small) ∙ ap (big_from 0 f.0) e ∙ ap (λ (n : ℕ). big_from 0 n (field_bytes g ++ y)) wide
    ∙ big_number-reads_back g.0 g.1 y small' in
    let rest : x ≡ y = sym (drop_at (field_bytes f) x f.0 (length-field_bytes f)) ∙ ap (drop f.0) e
    ∙ drop_at (field_bytes g) y f.0 (length-field_bytes g ∙ sym wide) in
    (number, rest)

-- the same for fields one after the other
pub fields_same : (fs gs : List WireField) (x y : List ℕ) → widths fs ≡ widths gs → Fit fs → Fit gs
    → fields_bytes fs ++ x ≡ fields_bytes gs ++ y → (fs ≡ gs) × (x ≡ y)
fields_same [] [] x y wide fit fit' e = (refl, e)
fields_same [] (g ∷ gs) x y wide fit fit' e = absurd cc
fields_same (f ∷ fs) [] x y wide fit fit' e = absurd cc
fields_same (f ∷ fs) (g ∷ gs) x y wide fit fit' e =
    let first : f.0 ≡ g.0 = cc in
    let others : widths fs ≡ widths gs = cc in
    let regrouped : field_bytes f ++ (fields_bytes fs ++ x) ≡ field_bytes g ++ (fields_bytes gs ++ y) =
    sym (append_assoc (field_bytes f) (fields_bytes fs) x) ∙ e ∙ append_assoc (field_bytes g) (fields_bytes gs) y in
    let one = field_same f g (fields_bytes fs ++ x) (fields_bytes gs ++ y) first fit.0 fit'.0 regrouped in
    let more = fields_same fs gs x y others fit.1 fit'.1 one.1 in
    let same : f ≡ g = pair_same f g first one.0 in
    (cc (same, more.0), more.1)
