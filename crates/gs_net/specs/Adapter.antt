-- What contracts see of an adapter over an object of std, which tells as much as that object does.
use Rattle.std.specs.Prelude.{ℕ, List, Option, None, Some}

-- the object, and the adapter's count of faults
pub record Counted (Inner : Type 0) : Type 0 where
  pub inner : Inner
  pub faults : ℕ

-- the bytes that a file has left, by what its reader tells; a file that wasn't opened tells nothing
abbrev pub left_in : {F : Type 0} → (F → Option (List ℕ)) → Option F → Option (List ℕ)
left_in remaining None = None
left_in remaining (Some file) = remaining file
