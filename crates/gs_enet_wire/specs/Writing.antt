-- What a writer changes.
use Rattle.std.specs.Prelude.{◌≡◌, ℕ, ◌+◌, List, ◌++◌, length, take, drop}
use Rattle.gs_enet_wire.specs.Grammar.{WireField, fields_bytes, Fit}

-- the text stands from the place up to the end, and all else is as before
pub record PutsText (text : List ℕ) (place end : ℕ) (old new : List ℕ) : Type 0 where
  pub ends : end ≡ place + length text
  pub front : take end new ≡ take place old ++ text
  pub rest : drop end new ≡ drop end old

-- the same for fields that hold those numbers
pub record PutsFields (fs : List WireField) (place end : ℕ) (old new : List ℕ) : Type 0 where
  pub puts : PutsText (fields_bytes fs) place end old new
  pub fit : Fit fs
