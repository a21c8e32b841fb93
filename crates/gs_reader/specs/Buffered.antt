-- What a buffered reader hands on of what it holds and of what its source has left.
use Rattle.std.specs.Prelude.{◌≡◌, ◌<◌, ℕ, List, [], ◌++◌, length, Option}
use Rattle.std.specs.Io.KnownBytes.{Appends, Consumes, IsAtEnd, prepend_known}

-- What is still to come of a source: what the reader holds, and then what the source has left, where it tells that.
abbrev pub to_come : List ℕ → Option (List ℕ) → Option (List ℕ)
to_come held left = prepend_known held left

-- The reader, which held `held` and now holds `held'`, handed on these bytes: they and what it holds now are what it
-- held and then what came of the source.
pub record HandsOn (held held' : List ℕ) (left left' taken taken' : Option (List ℕ)) (bytes : List ℕ) : Type 0 where
  pub came : List ℕ
  pub parts : held ++ came ≡ bytes ++ held'
  pub left_after : Consumes left left' came
  pub taken_after : Appends taken taken' came

-- A read failed before so many bytes could be handed on: those that the reader held and those that came of its source
-- in this call are lost, all of them, and are fewer than were wanted.
pub record IsShort (held held' : List ℕ) (left left' taken taken' : Option (List ℕ)) (wanted : ℕ) : Type 0 where
  pub lost : List ℕ
  pub handed : HandsOn held held' left left' taken taken' lost
  pub none_held : held' ≡ []
  pub fewer : length lost < wanted

-- nothing is still to come
abbrev pub HasNothingLeft : List ℕ → Option (List ℕ) → Type 0
HasNothingLeft held left = (held ≡ []) × IsAtEnd left

-- what came is the front of what was to come, and the rest is still to come
abbrev pub HandingOnIsAsTold : Type 0
HandingOnIsAsTold =
    (held held' : List ℕ) (left left' taken taken' : Option (List ℕ)) (bytes : List ℕ)
    → HandsOn held held' left left' taken taken' bytes → Consumes (to_come held left) (to_come held' left') bytes
