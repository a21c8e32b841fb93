-- Each step on what is published keeps its rule.
use Rattle.std.proofs.Common.{◌≡◌, ◌≢◌, ◌⊎◌, ℕ, ◌+◌, List, [], ◌∷◌, ◌++◌, length, set, fold, refl, sym, ap, ◌∙◌, subst, arith, ⊎_elim}
use Rattle.std.proofs.Common.{Option, Some, IfSome, false, Result, Ok, Err, MatchResult, is_err}
use Rattle.std.specs.Arc.{arc_value}
use Rattle.std.proofs.lemmas.Option.{IfSome_then}
use mathlib.Core.Option.{some, some-ne-none}
use mathlib.Core.List.{IsPrefix}
use lib.ListN.{get_elem?}
use Rattle.crossbeam_utils.specs.Register.{Admits, TurnsAt, Forks, Merges}
use Rattle.atomic_table.proofs.Lists.{at_set, at_snoc}
use Rattle.logbook.specs.Pages.{Book}
use Rattle.gs_tape.specs.Tick.{Tick}
use Rattle.gs_capture.specs.Captures.{Capture, HasAudio}
use Rattle.gs_capture.specs.Growing.{grown, Follows}
use Rattle.gs_capture.specs.declared.appended.Appended.{Appended}
use Rattle.gs_capture.specs.declared.sight.Sight.{Sight}
use Rattle.gs_capture.specs.Sights.{unseen, IsOneCapture, Knows, Keeps, Publishes, Finds, Sees, Looks, told_sight}
use Rattle.gs_bytes.proofs.Lists.{prefix_self, prefix_trans}
use Rattle.gs_capture.proofs.Captured.{captured_append}

-- one seat has another view
known_set : (c : Capture) (views : List Sight) (seat : ℕ) (w : Sight) → Knows c w → ((j : ℕ) (u : Sight) → get_elem? views j ≡ some u → Knows c u)
    → (j : ℕ) (u : Sight) → get_elem? (set views seat w) j ≡ some u → Knows c u
known_set c views seat w now others j u at =
    ⊎_elim (λ (t : (j ≡ seat) × (w ≡ u)). subst (Knows c) t.1 now) (λ (t : (j ≢ seat) × (get_elem? views j ≡ some u)). others j u t.1)
    (at_set views seat j w u at)

knows_nothing : (c : Capture) → Knows c unseen
knows_nothing c = record { seen = (c.ticks, refl); told = tt }

pub admits : Admits Keeps unseen
admits c views k = record {
  captured = k.captured;
  whole = k.whole;
  known = λ j u at. ⊎_elim (λ h. k.known j u h) (λ (same : unseen ≡ u). subst (Knows c) same (knows_nothing c)) (at_snoc views unseen u j at);
}

-- what was seen before is still a front
knows_later : (x y : Capture) (v : Sight) → Follows x y → Knows x v → Knows y v
knows_later x y v f k = record {
  seen = prefix_trans v.seen x.ticks y.ticks k.seen f.later;
  told = IfSome_then v.told k.told (λ t of_x. (of_x.0 ∙ sym f.book, of_x.1 ∙ sym f.audio));
}

pub publishes : (seat : ℕ) (v : Sight) (x y : Capture) → Follows x y → TurnsAt Keeps seat v x y Publishes
publishes seat v x y f views k at = (
  record v { told = Some y; seen = y.ticks },
  record {
    captured = f.captured k.captured;
    whole = f.whole k.whole;
    known = known_set y views seat _ (record { seen = prefix_self y.ticks; told = (refl, refl) }) (λ j u at_j. knows_later x y u f (k.known j u at_j));
  },
  refl,
)

finds : (x : Capture) (views : List Sight) (v : Sight) → Keeps x views → Knows x v → Finds v x
finds x views v k mine = record { later = mine.seen; captured = k.captured; whole = k.whole; told = mine.told }

-- a seat that has seen it all, and was told what it was told
keeps_seen : (x : Capture) (views : List Sight) (seat : ℕ) (v w : Sight) → Keeps x views → Knows x v → w.seen ≡ x.ticks → w.told ≡ v.told
    → Keeps x (set views seat w)
keeps_seen x views seat v w k mine seen same = record {
  captured = k.captured;
  whole = k.whole;
  known = known_set x views seat w (record {
    seen = subst (λ (l : List Tick). IsPrefix l x.ticks) (sym seen) (prefix_self x.ticks);
    told = subst (λ (o : Option Capture). IfSome o (λ t. IsOneCapture t x)) (sym same) mine.told;
  }) k.known;
}

pub sees : (seat : ℕ) (v : Sight) (x : Capture) → TurnsAt Keeps seat v x x Sees
sees seat v x views k at =
    let mine = k.known seat v at in
    let w : Sight = record v { seen = x.ticks; reads = v.reads ++ length x.ticks ∷ [] } in
    (w, keeps_seen x views seat v w k mine refl refl, (refl, finds x views v k mine))

pub looks : (seat : ℕ) (v : Sight) (x : Capture) → TurnsAt Keeps seat v x x Looks
looks seat v x views k at =
    let mine = k.known seat v at in
    let w : Sight = record v { seen = x.ticks } in
    (w, keeps_seen x views seat v w k mine refl refl, (refl, finds x views v k mine))

pub forks : (seat : ℕ) (v : Sight) → Forks Keeps seat v v v
forks seat v x views k at = record {
  captured = k.captured;
  whole = k.whole;
  known = λ j u at_j. ⊎_elim (λ h. known_set x views seat v (k.known seat v at) k.known j u h) (λ (same : v ≡ u). subst (Knows x) same (k.known seat v at))
      (at_snoc (set views seat v) v u j at_j);
}

pub merges : (seat : ℕ) (v : Sight) (other : ℕ) (w : Sight) → Merges Keeps seat v other w (told_sight v w) unseen
merges seat v other w x views k at apart there =
    let theirs : Knows x w = ⊎_elim (λ (t : (other ≡ seat) × (told_sight v w ≡ w)). absurd (apart t.0))
    (λ (t : (other ≢ seat) × (get_elem? views other ≡ some w)). k.known other w t.1)
    (at_set views seat other (told_sight v w) w there) in
    record {
      captured = k.captured;
      whole = k.whole;
      known = known_set x (set views seat (told_sight v w)) other unseen (knows_nothing x)
          (known_set x views seat (told_sight v w) (record { seen = (k.known seat v at).seen; told = theirs.told }) k.known);
    }

-- a cell with one seat
pub begins : (book : Book) (audio : ℕ) → Keeps (record { book = book; audio = audio; ticks = []; history = [] }) (unseen ∷ [])
begins book audio = record {
  captured = tt;
  whole = refl;
  known = λ seat v at. ⊎_elim (λ h. absurd (none_there seat v h)) (λ (same : unseen ≡ v). subst (Knows _) same (knows_nothing _)) (at_snoc [] unseen v seat at);
}
  where
    none_there : (j : ℕ) (u : Sight) → get_elem? [] j ≡ some u → ⊥
    none_there j u at = some-ne-none u (sym at)

pub follows_self : (c : Capture) → Follows c c
follows_self c = record { book = refl; audio = refl; later = prefix_self c.ticks; captured = λ k. k; whole = λ w. w }

-- one tick more
pub follows_one : (c : Capture) (a : Appended) → a.front.book ≡ c.book → a.front.log ≡ c.ticks ++ arc_value a.tick ∷ []
    → (arc_value a.tick).number ≡ length c.ticks + 1 → HasAudio c.audio (arc_value a.tick) → Follows c (grown c a)
follows_one c a book log number audio =
    let next : (arc_value a.tick).number ≡ 1 + length c.ticks = omega (arith, number) in record {
      book = book;
      audio = refl;
      later = (arc_value a.tick ∷ [], refl);
      captured = λ k. captured_append c.audio 1 c.ticks (arc_value a.tick ∷ []) k (next, audio, tt);
      whole = λ _. log;
    }

-- one tick that was put behind nothing that was pending
pub follows_pushed : (c c' : Capture) (a : Appended) (before after : List Appended) → c' ≡ c → before ≡ [] → after ≡ before ++ a ∷ []
    → a.front.book ≡ c.book → a.front.log ≡ c.ticks ++ arc_value a.tick ∷ []
    → (arc_value a.tick).number ≡ length c.ticks + 1 → HasAudio c.audio (arc_value a.tick) → Follows c' (fold grown c' after)
follows_pushed c c' a before after same none one book log number audio =
    let all : after ≡ a ∷ [] = one ∙ ap (λ (l : List Appended). l ++ a ∷ []) none in
    subst (λ (x : Capture). Follows x (fold grown x after)) (sym same)
    (subst (λ (l : List Appended). Follows c (fold grown c l)) (sym all) (follows_one c a book log number audio))

pub ok_of : {T E R : Type 0} (P : T → Type 0) (Q : E → Type 0) (r : Result T E) → is_err r ≡ false → MatchResult r P Q → ((x : T) → P x → R) → R
ok_of P Q (Ok x) is h f = f x h
ok_of P Q (Err e) is h f = absurd (cc is)
