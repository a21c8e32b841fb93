-- What a read tells of the viewer.
use Rattle.std.proofs.Common.{◌≡◌, true, List, [], ◌∷◌, ◌++◌, ℕ, length, refl, sym, ap, ◌∙◌, subst, Option, Some, None, IfSome, is_some}
use mathlib.Core.List.{IsPrefix}
use Rattle.logbook.specs.Pages.{Book}
use Rattle.gs_capture.specs.Captures.{Capture, AreCaptured, Reads, nothing}
use Rattle.gs_capture.specs.Held.{held_or}
use Rattle.gs_capture.specs.declared.sight.Sight.{Sight}
use Rattle.gs_capture.specs.Sights.{IsOneCapture, Sees, viewed}
use Rattle.gs_bytes.proofs.Lists.{prefix_trans}

-- who was told of a capture finds that one
one_capture : (o : Option Capture) (y : Capture) → is_some o ≡ true → IfSome o (λ t. IsOneCapture t y) → IsOneCapture (held_or nothing (λ t. t) o) y
one_capture (Some t) y told of_y = of_y
one_capture None y told of_y = absurd (cc told)

pub one_book : (v : Sight) (b : Book) (y : Capture) → is_some v.told ≡ true → (viewed v).capture ≡ b → IfSome v.told (λ t. IsOneCapture t y)
    → b ≡ y.book
one_book v b y told of_b of_y = sym of_b ∙ (one_capture v.told y told of_y).0

pub reads_of : (v w : Sight) (x : Capture) → is_some v.told ≡ true → Sees v x x w → Reads (viewed v) (viewed w)
reads_of v w x told s =
    subst (λ (u : Sight). Reads (viewed v) (viewed u)) (sym s.0) (record {
      capture = refl;
      audio = refl;
      later = s.1.later;
      counted = refl;
      captured = subst (λ (a : ℕ). AreCaptured a x.ticks) (sym (one_capture v.told x told s.1.told).1) s.1.captured;
    })

pub reads_behind : (v u w : Sight) → IsPrefix v.seen u.seen → u.told ≡ v.told → u.reads ≡ v.reads → Reads (viewed u) (viewed w) → Reads (viewed v) (viewed w)
reads_behind v u w later told reads r = record {
  capture = r.capture ∙ ap (λ (o : Option Capture). (held_or nothing (λ t. t) o).book) told;
  audio = r.audio ∙ ap (λ (o : Option Capture). (held_or nothing (λ t. t) o).audio) told;
  later = prefix_trans v.seen u.seen w.seen later r.later;
  counted = r.counted ∙ ap (λ (l : List ℕ). l ++ length w.seen ∷ []) reads;
  captured = r.captured;
}
