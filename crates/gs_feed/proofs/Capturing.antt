-- A feed that captures one more tick, or finds the end of its file.
use Rattle.std.proofs.Common.{◌≡◌, ◌≢◌, ◌⊎◌, inl, inr, ℕ, ◌+◌, ◌<◌, ◌≤◌, List, [], ◌∷◌, ◌++◌, length, take, drop, get_or, Option, Some, None, Result, Ok, Err}
use Rattle.std.proofs.Common.{Bool, false, All, refl, sym, ap, subst, ◌∙◌, arith, length-take, length-drop}
use Rattle.std.specs.Prelude.{IfSome}
use Rattle.std.specs.List.{range_with_len}
use Rattle.std.specs.Result.{IsErrAnd}
use Rattle.std.proofs.lemmas.Result.{err_from_is_err_and}
use Rattle.std.proofs.lemmas.List.{drop_more, take_more, drop-append-le, map-append, length_push}
use Rattle.std.proofs.lemmas.List.Elements.{All-push}
use Rattle.gs_tape.specs.Tick.{Tick}
use Rattle.gs_tape.specs.Limits.{IsWithinLimits, IsTickWithinLimits}
use Rattle.gs_tape.specs.Reading.{Before, Fault, ReadTape, ends_with, and_then}
use Rattle.gs_tape.specs.Tape.{Opened, IsFirstTick, known_behind, unread_tape}
use Rattle.gs_tape.specs.Errors.{fault_of}
use Rattle.gs_tape.specs.declared.error.TapeError.{TapeError}
use Rattle.gs_tape.specs.declared.stage.Stage.{Stage}
use Rattle.gs_tape.specs.declared.stage.Stage.TheVariants.{Open, Ended, Failed}
use Rattle.gs_feed.specs.Feeding.{Feeding, IsFeedSound, IsFeedAt, Captures, forgotten}
use Rattle.gs_bytes.proofs.Lists.{range_more}

-- with one more tick, and the tape behind it
abbrev pub with_tick : Opened → Tick → Feeding → Feeding
with_tick tape t feed = record { tape = tape; lost = feed.lost; count = feed.count + 1; kept = feed.kept ++ t ∷ [] }

forgotten_with : (tape : Opened) (t : Tick) (feed : Feeding) → length feed.kept ≤ feed.count
    → forgotten (with_tick tape t feed) ≡ forgotten feed
forgotten_with tape t feed few = omega (arith, length_push feed.kept t, few)

sound_with : (tape : Opened) (t : Tick) (feed : Feeding) → IsFeedSound feed → feed.lost ≡ false → feed.tape.stage ≡ Open
    → IsWithinLimits feed.tape.audio feed.tape.before.number feed.tape.before.time t → tape.audio ≡ feed.tape.audio
    → tape.before ≡ known_behind feed.tape.before t → IsFeedSound (with_tick tape t feed)
sound_with tape t feed sound held opened within audio known =
    let number : Tick → ℕ = λ x. x.number in
    let next : feed.tape.before.number ≡ feed.count + 1 = sound.next held opened in
    let is : t.number ≡ feed.count + 1 = within.number_is ∙ next in
    let long = length_push feed.kept t in
    let At : ℕ → Type 0 = λ n. IsWithinLimits feed.tape.audio n feed.tape.before.time t in
    let itself : IsTickWithinLimits feed.tape.audio t.number t =
    record { before = feed.tape.before.time; within = subst At (sym within.number_is) within } in
    let Each : ℕ → Type 0 = λ a. All (λ x. IsTickWithinLimits a x.number x) (feed.kept ++ t ∷ []) in
    record {
      next = λ _ _. ap (λ (b : Before). b.number) known ∙ ap (λ (n : ℕ). n + 1) next;
      few = omega (arith, within.number_most, next);
      few_kept = omega (arith, long, sound.few_kept);
      has_newest = λ _. omega (arith, long);
      numbers = map-append number feed.kept (t ∷ []) ∙ ap (λ (l : List ℕ). l ++ t.number ∷ []) sound.numbers
          ∙ sym (range_more (forgotten feed + 1) (length feed.kept) t.number (omega (arith, is, sound.few_kept)))
          ∙ ap (λ (n : ℕ). range_with_len (forgotten feed + 1) n) (sym long)
          ∙ ap (λ (n : ℕ). range_with_len (n + 1) (length (feed.kept ++ t ∷ []))) (sym (forgotten_with tape t feed sound.few_kept));
      within = subst Each (sym audio) (All-push (λ x. IsTickWithinLimits feed.tape.audio x.number x) feed.kept t sound.within itself);
    }

-- ---- the ticks that are still to be read

record IsNext {X : Type 0} (xs : List X) (n : ℕ) (t : X) (ys : List X) : Type 0 where
  pub below : n < length xs
  pub taken : take (n + 1) xs ≡ take n xs ++ t ∷ []
  pub left : drop (n + 1) xs ≡ ys

next_is : {X : Type 0} (xs : List X) (n : ℕ) (t : X) (ys : List X) → drop n xs ≡ t ∷ ys → IsNext xs n t ys
next_is {X} xs n t ys is =
    let many : length (drop n xs) ≡ length (t ∷ ys) = ap (λ (l : List X). length l) is in
    let below : n < length xs = omega (arith, many, length-drop n xs) in
    let both : get_or xs n t ∷ drop (n + 1) xs ≡ t ∷ ys = sym (drop_more xs n t below) ∙ is in
    let first : get_or xs n t ≡ t = cc in
    record {
      below = below;
      taken = take_more xs n t below ∙ ap (λ (x : X). take n xs ++ x ∷ []) first;
      left = cc;
    }

none_left : (xs : List Tick) (n : ℕ) → n ≤ length xs → drop n xs ≡ [] → length xs ≡ n
none_left xs n within none =
    let many : length (drop n xs) ≡ 0 = ap (λ (l : List Tick). length l) none in
    omega (arith, many, length-drop n xs, within)

abbrev told : List Tick → Option Fault → ReadTape
told ticks fault = record { ticks = ticks; fault = fault }

first_told : (before after : Option ReadTape) (all : ReadTape) (r : Result (Option Tick) TapeError) → before ≡ Some all
    → IsFirstTick before after r → IsFirstTick (Some all) after r
first_told before after all r is first = let First : Option ReadTape → Type 0 = λ o. IsFirstTick o after r in subst First is first

stands_with : (tape : Opened) (t : Tick) (feed : Feeding) (left left' : Option (List ℕ)) (ticks : List Tick) (fault : Option Fault)
    → IsFeedSound feed → IsFirstTick (unread_tape feed.tape left) (unread_tape tape left') (Ok (Some t)) → IsFeedAt feed left ticks fault
    → IsFeedAt (with_tick tape t feed) left' ticks fault
stands_with tape t feed left left' ticks fault sound first stands =
    let one = first_told _ _ _ _ stands.unread_is first in
    let rest : ReadTape = one.0 in
    let split : told (drop feed.count ticks) fault ≡ and_then t rest = one.2 in
    let next : IsNext ticks feed.count t rest.ticks = next_is ticks feed.count t rest.ticks (ap (λ (r : ReadTape). r.ticks) split) in
    let of = stands.is_of in
    let front = take feed.count ticks in
    let enough : forgotten feed ≤ length front = omega (arith, length-take feed.count ticks, of.captured) in
    record {
      is_of = record {
        captured = omega (arith, next.below);
        kept_are = ap (λ (l : List Tick). l ++ t ∷ []) of.kept_are
            ∙ sym (drop-append-le (forgotten feed) front (t ∷ []) enough)
            ∙ ap (λ (l : List Tick). drop (forgotten feed) l) (sym next.taken)
            ∙ ap (λ (n : ℕ). drop n (take (feed.count + 1) ticks)) (sym (forgotten_with tape t feed sound.few_kept));
      };
      unread_is = one.1
          ∙ ap (λ (l : List Tick). Some (told l rest.fault)) (sym next.left)
          ∙ ap (λ (f : Option Fault). Some (told (drop (feed.count + 1) ticks) f)) (sym (ap (λ (r : ReadTape). r.fault) split));
    }

-- ---- the clauses of a capture, where `feed` is what was seen before

stood_before : (feed old : Feeding) (left : Option (List ℕ)) (ticks : List Tick) (fault : Option Fault) → feed ≡ old
    → IsFeedAt old left ticks fault → IsFeedAt feed left ticks fault
stood_before feed old left ticks fault same stands =
    let Stands : Feeding → Type 0 = λ f. IsFeedAt f left ticks fault in
    subst Stands (sym same) stands

-- the first of what was to be read was the end
pub captures_end : (feed old : Feeding) (left : Option (List ℕ)) (rest : Option ReadTape) (ticks : List Tick) (fault : Option Fault)
    → feed ≡ old → IsFirstTick (unread_tape feed.tape left) rest (Ok None) → IsFeedAt old left ticks fault
    → (length ticks ≡ old.count) × (fault ≡ None)
captures_end feed old left rest ticks fault same first stands =
    let stood = stood_before feed old left ticks fault same stands in
    let last : told (drop feed.count ticks) fault ≡ ends_with None = first_told _ _ _ _ stood.unread_is first in (
      none_left ticks feed.count stood.is_of.captured (ap (λ (r : ReadTape). r.ticks) last) ∙ ap (λ (f : Feeding). f.count) same,
      ap (λ (r : ReadTape). r.fault) last,
    )

captures_fault : (feed old : Feeding) (left : Option (List ℕ)) (rest : Option ReadTape) (ticks : List Tick) (fault : Option Fault)
    (e : TapeError) → feed ≡ old → IsFirstTick (unread_tape feed.tape left) rest (Err e) → IsFeedAt old left ticks fault
    → Captures old.count ticks fault (Err e)
captures_fault feed old left rest ticks fault e same first stands =
    let stood = stood_before feed old left ticks fault same stands in
    by_fault stood (fault_of e) (first_told _ _ _ _ stood.unread_is first)
  where
    by_fault : IsFeedAt feed left ticks fault → (o : Option Fault)
        → IfSome o (λ why. told (drop feed.count ticks) fault ≡ ends_with (Some why))
        → IfSome o (λ why. (length ticks ≡ old.count) × (fault ≡ Some why))
    by_fault stood None known = tt
    by_fault stood (Some why) known = (
      none_left ticks feed.count stood.is_of.captured (ap (λ (r : ReadTape). r.ticks) known) ∙ ap (λ (f : Feeding). f.count) same,
      ap (λ (r : ReadTape). r.fault) known,
    )

-- it was a fault, which is handed on
pub captures_err : (feed old : Feeding) (left : Option (List ℕ)) (rest : Option ReadTape) (ticks : List Tick) (fault : Option Fault)
    (r : Result Bool TapeError) (e : TapeError) → feed ≡ old → IsErrAnd r (λ y. y ≡ e) → IsFirstTick (unread_tape feed.tape left) rest (Err e)
    → IsFeedAt old left ticks fault → Captures old.count ticks fault r
captures_err feed old left rest ticks fault r e same is first stands =
    let p = err_from_is_err_and r is in
    let Fails : TapeError → Result Bool TapeError = λ y. Err y in
    let Answers : Result Bool TapeError → Type 0 = Captures old.count ticks fault in
    subst Answers (sym (p.1 ∙ ap Fails p.2)) (captures_fault feed old left rest ticks fault e same first stands)

-- the feed with these ticks kept
abbrev pub keeping : Opened → List Tick → Feeding → Feeding
keeping tape items feed = record { tape = tape; lost = feed.lost; count = feed.count + 1; kept = items }

keeping_is : (tape : Opened) (items : List Tick) (t : Tick) (feed : Feeding) → items ≡ feed.kept ++ t ∷ []
    → keeping tape items feed ≡ with_tick tape t feed
keeping_is tape items t feed is = ap (λ (l : List Tick). keeping tape l feed) is

-- it was a tick, which is kept
pub stands_tick : (feed old : Feeding) (tape : Opened) (items : List Tick) (t : Tick) (left left' : Option (List ℕ)) (ticks : List Tick)
    (fault : Option Fault) → feed ≡ old → IsFeedSound feed → items ≡ feed.kept ++ t ∷ []
    → IsFirstTick (unread_tape feed.tape left) (unread_tape tape left') (Ok (Some t)) → IsFeedAt old left ticks fault
    → IsFeedAt (keeping tape items feed) left' ticks fault
stands_tick feed old tape items t left left' ticks fault same sound is first stands =
    let with_it = stands_with tape t feed left left' ticks fault sound first (stood_before feed old left ticks fault same stands) in
    let Stands : Feeding → Type 0 = λ f. IsFeedAt f left' ticks fault in
    subst Stands (sym (keeping_is tape items t feed is)) with_it

stage_cases : (s : Stage) → (s ≡ Open) ⊎ (s ≢ Open)
stage_cases Open = inl refl
stage_cases Ended = inr (λ e. cc)
stage_cases (Failed why) = inr (λ e. cc)

was_open : (old new : Opened) (Q : Type 0) → (old.stage ≢ Open → (new ≡ old) × Q) → new.stage ≡ Open → old.stage ≡ Open
was_open old new Q again opened = elim (stage_cases old.stage) [
  | inl here ↦ here
  | inr other ↦ sym (ap (λ (o : Opened). o.stage) (again other).0) ∙ opened
]

pub sound_tick : (feed : Feeding) (tape : Opened) (items : List Tick) (t : Tick) (Q : Type 0) → IsFeedSound feed → feed.lost ≡ false
    → items ≡ feed.kept ++ t ∷ [] → (feed.tape.stage ≢ Open → (tape ≡ feed.tape) × Q) → tape.stage ≡ Open
    → IsWithinLimits feed.tape.audio feed.tape.before.number feed.tape.before.time t → tape.audio ≡ feed.tape.audio
    → tape.before ≡ known_behind feed.tape.before t → IsFeedSound (keeping tape items feed)
sound_tick feed tape items t Q sound held is again opened within audio known =
    subst IsFeedSound (sym (keeping_is tape items t feed is))
    (sound_with tape t feed sound held (was_open feed.tape tape Q again opened) within audio known)
