-- What is held in an option that is empty only while it is used.
use Rattle.std.specs.Prelude.{Option, Some, None}

-- a property of what is held, or else this
abbrev pub held_or : {A B : Type 0} → B → (A → B) → Option A → B
held_or other f (Some x) = f x
held_or other f None = other
