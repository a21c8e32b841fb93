-- The datagram of a number, by the store of the bytes.
use Rattle.std.proofs.Common.{◌≡◌, ◌<◌, ◌-◌, ℕ, Bool, true, false, cond, List, [], map, length, Option, Some, None, refl, sym, ap, subst, ◌∙◌, arith}
use Rattle.std.specs.Prelude.{◌&&◌, nat_lt, nat_le, slice_get}
use Rattle.std.specs.List.{All}
use Rattle.std.specs.Option.{option_map}
use Rattle.std.proofs.lemmas.Bool.{and_parts, leb-true}
use Rattle.std.proofs.lemmas.List.{length-map}
use Rattle.std.proofs.lemmas.List.Elements.{All-get_or}
use Rattle.std.proofs.lemmas.Option.{slice_get-map, slice_get-get_or, slice_get_within, get_or_from_slice_get}
use Rattle.gs_enet.specs.World.{Written}
use Rattle.gs_store.specs.Named.{most_named, is_nameable, named}
use Rattle.gs_sides.specs.Known.{bytes_by, IsReadAsItself}

-- the datagram of that number, of which these are the bytes
pub record IsNamed (ws : List Written) (k : ℕ) (bytes : List ℕ) : Type 0 where
  pub nameable : is_nameable ws k ≡ true
  pub wrote : Written
  pub there : slice_get ws (k - 1) ≡ Some wrote
  pub bytes_are : bytes_by wrote ≡ bytes
  pub again : IsReadAsItself wrote

same_names : (ws : List Written) (k : ℕ) → is_nameable (map bytes_by ws) k ≡ is_nameable ws k
same_names ws k = ap (λ (n : ℕ). nat_le 1 k && nat_le k n && nat_lt (n - k) most_named) (length-map ws bytes_by)

within : (xs : List (List ℕ)) (k : ℕ) → is_nameable xs k ≡ true → k - 1 < length xs
within xs k e =
    let fronts = and_parts (nat_le 1 k && nat_le k (length xs)) (nat_lt (length xs - k) most_named) e in
    let ends = and_parts (nat_le 1 k) (nat_le k (length xs)) fronts.0 in
    let least = leb-true 1 k ends.0 in
    let most = leb-true k (length xs) ends.1 in
    omega (arith, least, most)

pub not_named : (ws : List Written) (k : ℕ) → named (map bytes_by ws) k ≡ None → is_nameable ws k ≡ false
not_named ws k none = by (is_nameable (map bytes_by ws) k) refl none where
  by : (b : Bool) → is_nameable (map bytes_by ws) k ≡ b → cond b (slice_get (map bytes_by ws) (k - 1)) None ≡ None → is_nameable ws k ≡ false
  by false e none = sym (same_names ws k) ∙ e
  by true e none =
      let some = slice_get-get_or (map bytes_by ws) (k - 1) [] (within (map bytes_by ws) k e) in
      let both = sym some ∙ none in
      absurd (grind arith)

pub is_named : (ws : List Written) (k : ℕ) (bytes : List ℕ) → All IsReadAsItself ws → named (map bytes_by ws) k ≡ Some bytes
    → IsNamed ws k bytes
is_named ws k bytes again some = by (is_nameable (map bytes_by ws) k) refl some where
  found : is_nameable ws k ≡ true → (o : Option Written) → slice_get ws (k - 1) ≡ o → option_map bytes_by o ≡ Some bytes → IsNamed ws k bytes
  found able None e some = absurd (grind arith)
  found able (Some w) e some =
      record {
        nameable = able;
        wrote = w;
        there = e;
        bytes_are = grind arith;
        again = subst IsReadAsItself (get_or_from_slice_get ws (k - 1) w w e) (All-get_or IsReadAsItself ws (k - 1) w (slice_get_within ws (k - 1) w e) again);
      }

  by : (b : Bool) → is_nameable (map bytes_by ws) k ≡ b → cond b (slice_get (map bytes_by ws) (k - 1)) None ≡ Some bytes → IsNamed ws k bytes
  by false e some = absurd (grind arith)
  by true e some =
      found (sym (same_names ws k) ∙ e) (slice_get ws (k - 1)) refl (sym (slice_get-map bytes_by ws (k - 1)) ∙ some)
