-- Parts that are read one after the other.
use Rattle.std.specs.Prelude.{ℕ, ◌≤◌, List, length, drop, ◌++◌}
use Rattle.std.specs.List.{concat}
use Rattle.gs_generated.specs.declared.parts.Parts.{Parts}

-- the first part is read no further than its end
abbrev pub IsWithin : Parts → Type 0
IsWithin p = p.at ≤ length p.part

-- what is left of it, and the parts behind it
abbrev pub parts_left : Parts → List ℕ
parts_left p = drop p.at p.part ++ concat p.more.items
