-- One generated tick more is spelled.
use Rattle.std.proofs.Common.{◌≡◌, ◌+◌, ◌^◌, ◌<◌, ◌≤◌, All, ℕ, zero, suc, Option, Some, List, [], ◌∷◌, length, refl, sym, ap, ◌∙◌, arith}
use Rattle.std.specs.Prelude.{take, drop}
use Rattle.std.proofs.lemmas.List.Elements.{All-cons, All-nil}
use Rattle.gs_tape.specs.Tick.{Delta, Tick}
use Rattle.gs_tape.specs.Limits.{AreDeltasBetween, most_count, most_unit}
use Rattle.gs_tape.specs.Writer.{TapeWriting, after_tick, opened_writing}
use Rattle.gs_tape.specs.Generated.{generated, ticks_from, tick, ticks_to_come}
use Rattle.gs_tape.proofs.GeneratedWithin.{generated_is_writable}
use Rattle.gs_tape.proofs.GeneratedFile.{AreNext, all_next, first_next, others_next}
use Rattle.gs_generated.specs.declared.unspelled.Unspelled.{Unspelled}
use Rattle.gs_generated.specs.Remaining.{IsUnspelledSound, ticks_left, tick_before}

-- what its spelling wants of a tick
pub record KeepsLimits (t : Tick) : Type 0 where
  pub audio : length t.audio ≤ most_count
  pub deltas : length t.deltas ≤ most_count
  pub idr : length t.idr ≤ most_unit
  pub units : All (λ d. length d.unit < 2 ^ 32) t.deltas

deltas_fit : (above below : ℕ) (ds : List Delta) → AreDeltasBetween above below ds → All (λ d. length d.unit < 2 ^ 32) ds
deltas_fit above below [] between = All-nil (λ (d : Delta). length d.unit < 2 ^ 32)
deltas_fit above below (d ∷ ds) between =
    All-cons (λ (d : Delta). length d.unit < 2 ^ 32) d ds (omega (arith, between.2)) (deltas_fit d.named below ds between.3)

one_more : (k : ℕ) → k + 1 ≡ suc k
one_more k = omega arith

none_left : (t : Tick) (ts : List Tick) → [] ≡ t ∷ ts → ⊥
none_left t ts is = let n : length {A = Tick} [] ≡ length (t ∷ ts) = ap (λ (l : List Tick). length l) is in omega (arith, n)

-- a writer behind these ticks
abbrev all_after : TapeWriting → List Tick → TapeWriting
all_after w [] = w
all_after w (t ∷ ts) = all_after (after_tick w t) ts

next_at : (w : TapeWriting) (all : List Tick) (k : ℕ) → AreNext w all → AreNext (all_after w (take k all)) (drop k all)
next_at w all zero next = next
next_at w [] (suc k) next = next
next_at w (t ∷ ts) (suc k) next = next_at (after_tick w t) ts k (others_next w (after_tick w t) (t ∷ ts) ts t refl refl next)

-- the first tick that is left keeps the limits of a file
pub keeps_limits : (u : Unspelled) (t : Tick) (ts : List Tick) → IsUnspelledSound u → ticks_left u ≡ t ∷ ts → KeepsLimits t
keeps_limits u t ts sound is =
    let all : List Tick = generated u.number u.ticks in
    let next = next_at (opened_writing 240) all u.spelled (all_next 240 5 all (opened_writing 240) refl (generated_is_writable u.number u.ticks sound.few)) in
    let first = first_next _ (drop u.spelled all) ts t (sym sound.left ∙ is) next in
    record {
      audio = first.within.audio_most;
      deltas = first.within.deltas_most;
      idr = first.within.idr_most;
      units = deltas_fit 0 _ t.deltas first.within.deltas_between;
    }

rest_suc : (all : List Tick) (k : ℕ) (t : Tick) (ts : List Tick) → drop k all ≡ t ∷ ts → drop (suc k) all ≡ ts
rest_suc [] zero t ts is = absurd (none_left t ts is)
rest_suc [] (suc k) t ts is = absurd (none_left t ts is)
rest_suc (x ∷ xs) zero t ts is = ap (λ (l : List Tick). drop 1 l) is
rest_suc (x ∷ xs) (suc k) t ts is = rest_suc xs k t ts is

pub rest_one : (all : List Tick) (k : ℕ) (t : Tick) (ts : List Tick) → drop k all ≡ t ∷ ts → drop (k + 1) all ≡ ts
rest_one all k t ts is = ap (λ (n : ℕ). drop n all) (one_more k) ∙ rest_suc all k t ts is

pub some_left : (all : List Tick) (k : ℕ) (t : Tick) (ts : List Tick) → drop k all ≡ t ∷ ts → k < length all
some_left [] zero t ts is = absurd (none_left t ts is)
some_left [] (suc k) t ts is = absurd (none_left t ts is)
some_left (x ∷ xs) zero t ts is = omega (arith)
some_left (x ∷ xs) (suc k) t ts is = let more = some_left xs k t ts is in omega (arith, more)

length-ticks_from : (n t s : ℕ) → length (ticks_from n t s) ≡ n
unfolding ticks_from
length-ticks_from zero t s = refl
length-ticks_from (suc n) t s = ap suc (length-ticks_from n (t + 1) (tick t s).state)

pub few_spelled : (u : Unspelled) (t : Tick) (ts : List Tick) → IsUnspelledSound u → ticks_left u ≡ t ∷ ts → u.spelled < 2000
few_spelled u t ts sound is =
    let more : u.spelled < length (generated u.number u.ticks) = some_left (generated u.number u.ticks) u.spelled t ts (sym sound.left ∙ is) in
    omega (arith, more, length-ticks_from u.ticks 1 u.number, sound.few)

-- a tick at hand is the first that is left
pub at_hand : (u : Unspelled) (t : Tick) → u.tick ≡ Some t → ticks_left u ≡ t ∷ ticks_to_come u.generator
at_hand u t is = ap (λ (o : Option Tick). tick_before o (ticks_to_come u.generator)) is
