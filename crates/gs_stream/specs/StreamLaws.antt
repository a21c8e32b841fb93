-- How what a history gives grows.
use Rattle.std.specs.Prelude.{List, ◌∷◌}
use Rattle.gs_refs.specs.declared.entry.Entry.{Entry}
use Rattle.gs_bytes.specs.Prefix.{IsPrefixOf}

-- what a history gives begins with what it gave before its newest entry
abbrev pub OnlyGrows : {A : Type 0} → (List Entry → List A) → Type 0
OnlyGrows {A} of = (e : Entry) (h : List Entry) → IsPrefixOf (of h) (of (e ∷ h))
