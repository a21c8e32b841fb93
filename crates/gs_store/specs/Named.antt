-- Which of the items that were put can be named.
use Rattle.std.specs.Prelude.{ℕ, ◌-◌, Bool, ◌&&◌, List, length, Option, None, slice_get, nat_lt, nat_le, if◌then◌else◌}
use Rattle.gs_store.specs.declared.limits.TheConstants.{MOST_NAMED}

-- how many of the last can be
abbrev pub most_named : ℕ
most_named = MOST_NAMED

-- the number, from 1, of one of the last of a list
abbrev pub is_nameable : {A : Type 0} → List A → ℕ → Bool
is_nameable all k = nat_le 1 k && nat_le k (length all) && nat_lt (length all - k) most_named

-- the item of that number, where it can be named
abbrev pub named : {A : Type 0} → List A → ℕ → Option A
named all k = if is_nameable all k then slice_get all (k - 1) else None
