-- A feed that drops the oldest of the ticks that it keeps.
use Rattle.std.proofs.Common.{◌≡◌, ℕ, ◌+◌, ◌-◌, ◌<◌, ◌≤◌, List, length, map, take, drop, Option, refl, sym, ap, ◌∙◌, arith, length-drop}
use Rattle.std.specs.List.{range_with_len}
use Rattle.std.proofs.lemmas.List.{drop-drop, drop-map, take_rest}
use Rattle.std.proofs.lemmas.List.FromFn.{length-range_with_len}
use Rattle.std.proofs.lemmas.List.Elements.{All-drop}
use Rattle.gs_tape.specs.Tick.{Tick}
use Rattle.gs_tape.specs.Limits.{IsTickWithinLimits}
use Rattle.gs_tape.specs.Reading.{Fault}
use Rattle.gs_feed.specs.Feeding.{Feeding, IsFeedSound, IsOf, IsFeedAt, forgotten}
use Rattle.gs_feed.proofs.LastTicks.{part_of_numbers}

-- without the oldest d ticks
abbrev pub without : ℕ → Feeding → Feeding
without d feed = record feed { kept = drop d feed.kept }

pub forgotten_without : (d : ℕ) (feed : Feeding) → IsFeedSound feed → d ≤ length feed.kept - 1 → forgotten (without d feed) ≡ forgotten feed + d
forgotten_without d feed sound few =
    let long = length-drop d feed.kept in
    omega (arith, long, few, sound.few_kept)

numbers_without : (f d : ℕ) (kept : List Tick) → d ≤ length kept → map (λ t. t.number) kept ≡ range_with_len (f + 1) (length kept)
    → map (λ t. t.number) (drop d kept) ≡ range_with_len (f + d + 1) (length (drop d kept))
numbers_without f d kept within numbers =
    let number : Tick → ℕ = λ t. t.number in
    let all = range_with_len (f + 1) (length kept) in
    let long : length all ≡ length kept = length-range_with_len (f + 1) (length kept) in
    let many : length kept - d ≡ length (drop d kept) = sym (length-drop d kept) in
    sym (drop-map number d kept) ∙ ap (λ (l : List ℕ). drop d l) numbers
    ∙ sym (take_rest all d) ∙ ap (λ (n : ℕ). take (n - d) (drop d all)) long
    ∙ part_of_numbers f (length kept) d (length kept - d) (f + d) (omega (arith, within)) (λ h. refl)
    ∙ ap (λ (n : ℕ). range_with_len (f + d + 1) n) many

pub sound_without : (d : ℕ) (feed : Feeding) → IsFeedSound feed → d ≤ length feed.kept - 1 → IsFeedSound (without d feed)
sound_without d feed sound few =
    let long : length (drop d feed.kept) ≡ length feed.kept - d = length-drop d feed.kept in
    let many = length (drop d feed.kept) in
    record {
      next = sound.next;
      few = sound.few;
      few_kept = omega (arith, long, sound.few_kept);
      has_newest = λ h. some long (sound.has_newest h);
      numbers = numbers_without (forgotten feed) d feed.kept (omega (arith, few)) sound.numbers
          ∙ ap (λ (n : ℕ). range_with_len (n + 1) many) (sym (forgotten_without d feed sound few));
      within = All-drop (λ t. IsTickWithinLimits feed.tape.audio t.number t) d feed.kept sound.within;
    }
  where
    some : length (drop d feed.kept) ≡ length feed.kept - d → 0 < length feed.kept → 0 < length (drop d feed.kept)
    some long h = omega (arith, long, h, few)

pub of_without : (d : ℕ) (feed : Feeding) (ticks : List Tick) → IsFeedSound feed → d ≤ length feed.kept - 1 → IsOf feed ticks
    → IsOf (without d feed) ticks
of_without d feed ticks sound few of = record {
  captured = of.captured;
  kept_are = ap (λ (l : List Tick). drop d l) of.kept_are
      ∙ drop-drop d (forgotten feed) (take feed.count ticks)
      ∙ ap (λ (n : ℕ). drop n (take feed.count ticks)) (sym (forgotten_without d feed sound few));
}

pub stands_without : (d : ℕ) (feed : Feeding) (left : Option (List ℕ)) (ticks : List Tick) (fault : Option Fault) → IsFeedSound feed
    → d ≤ length feed.kept - 1 → IsFeedAt feed left ticks fault → IsFeedAt (without d feed) left ticks fault
stands_without d feed left ticks fault sound few stands =
    record { is_of = of_without d feed ticks sound few stands.is_of; unread_is = stands.unread_is }

pub kept_without : (d : ℕ) (feed : Feeding) → IsFeedSound feed → d ≤ length feed.kept - 1
    → drop d feed.kept ≡ drop (forgotten (without d feed) - forgotten feed) feed.kept
kept_without d feed sound few =
    let same : d ≡ forgotten (without d feed) - forgotten feed = omega (arith, forgotten_without d feed sound few) in
    ap (λ (n : ℕ). drop n feed.kept) same

-- what is seen of a feed whose items are a part of those before
pub seen_without : (d : ℕ) (feed old : Feeding) (items : List Tick) → items ≡ drop d feed.kept → feed ≡ old
    → record feed { kept = items } ≡ without d old
seen_without d feed old items is same =
    let Seen : List Tick → Feeding = λ l. record feed { kept = l } in
    ap Seen is ∙ ap (without d) same
