-- Cited by private contracts alone: how what is published grows.
use Rattle.std.specs.Prelude.{◌≡◌, [], ◌∷◌, ◌++◌}
use Rattle.std.specs.Arc.{arc_value}
use mathlib.Core.List.{IsPrefix}
use Rattle.gs_capture.specs.Captures.{Capture, AreCaptured}
use Rattle.gs_capture.specs.declared.appended.Appended.{Appended}

-- with one tick more, and the history that ends with it
abbrev pub grown : Capture → Appended → Capture
grown c a = record c { book = a.front.book; ticks = c.ticks ++ arc_value a.tick ∷ []; history = a.front.log }

-- the second begins with the first, and is as sound
pub record Follows (x y : Capture) : Type 0 where
  pub book : y.book ≡ x.book
  pub audio : y.audio ≡ x.audio
  pub later : IsPrefix x.ticks y.ticks
  pub captured : AreCaptured x.audio x.ticks → AreCaptured y.audio y.ticks
  pub whole : x.history ≡ x.ticks → y.history ≡ y.ticks
