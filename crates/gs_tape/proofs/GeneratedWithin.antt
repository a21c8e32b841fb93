-- What a number generates can be written.
use Rattle.std.proofs.Common.{◌≡◌, ◌<◌, ◌≤◌, ◌+◌, ◌-◌, ◌*◌, ◌/◌, ◌%◌, ℕ, zero, suc, List, [], ◌∷◌, ◌++◌, length, refl, sym, ap, subst, arith, inl, inr}
use Rattle.std.specs.Prelude.{◌==◌}
use Rattle.std.specs.List.{All, sum_by}
use Rattle.std.proofs.Math.Nat.{mod-lt}
use Rattle.std.proofs.lemmas.Bool.{cases_lt, cases_Bool, cond-true, cond-false}
use Rattle.std.proofs.lemmas.List.{length-append}
use Rattle.std.proofs.lemmas.List.Elements.{All-nil, All-push}
use Rattle.std.proofs.lemmas.List.FromFn.{length-map-range_with_len}
use Rattle.std.proofs.lemmas.List.Sums.{sum_by-cons, sum_by-append}
use Rattle.gs_tape.specs.Tick.{Delta, unit_bytes}
use Rattle.gs_tape.specs.Limits.{most_unit, AreDeltasBetween, IsWithinLimits, AreWithinLimits}
use Rattle.gs_tape.specs.Generated.{Drawn, draw, next_state, drawn_unit, unit_from, with_delta, deltas, with_sound, three_sounds, sounds, tick, ticks_from}
use Rattle.gs_tape.specs.GeneratedLaws.{GeneratedTicksAreWritable}
use Rattle.gs_tape.proofs.Parts.{delta_none, delta_some}

-- ---- units

length-unit_of : (n s : ℕ) → length (drawn_unit n s).value ≡ n
unfolding drawn_unit
length-unit_of n s = length-map-range_with_len (λ (i : ℕ). (draw s % 251 + i) % 251) 0 n

length-unit_from : (least span s : ℕ) → 0 < span → length (unit_from least span s).value < least + span
unfolding unit_from
length-unit_from least span s some =
    let below : draw s % span < span = mod-lt (draw s) some in
    omega (arith, length-unit_of (least + draw s % span) (next_state s))

-- ---- deltas

abbrev delta_bytes : List Delta → ℕ
delta_bytes ds = sum_by (λ d. length d.unit) ds

-- at most k deltas, against ticks up to the one so many before
record AreUpTo (t back k : ℕ) (ds : List Delta) : Type 0 where
  between : AreDeltasBetween 0 (t - back + 1) ds
  few : length ds ≤ k
  bytes : delta_bytes ds ≤ k * 43000

between_push : (above middle below : ℕ) (ds : List Delta) (d : Delta) → AreDeltasBetween above middle ds → above < d.named → middle ≤ d.named → d.named < below
    → length d.unit ≤ most_unit → AreDeltasBetween above below (ds ++ d ∷ [])
between_push above middle below [] d between more least most unit = (more, most, unit, tt)
between_push above middle below (x ∷ ds) d between more least most unit =
    let first : x.named < middle = between.1 in
    let behind : x.named < d.named = omega arith in
    (between.0, omega arith, between.2, between_push x.named middle below ds d between.3 behind least most unit)

between_wider : (above below below' : ℕ) (ds : List Delta) → below ≤ below' → AreDeltasBetween above below ds → AreDeltasBetween above below' ds
between_wider above below below' [] h between = tt
between_wider above below below' (x ∷ ds) h between =
    let first : x.named < below = between.1 in (between.0, omega arith, between.2, between_wider x.named below below' ds h between.3)

up_to : (t back back' k : ℕ) (x : Drawn (List Delta)) → back' < back → 1 ≤ back' → AreUpTo t back k x.value
    → AreUpTo t back' (k + 1) (with_delta t back' x).value
up_to t back back' k x nearer some is = elim (cases_lt back' t) [
  | inl there ↦
      let unit = (unit_from 41000 2000 x.state).value in
      let d : Delta = record { named = t - back'; unit = unit } in
      let long : length unit < 43000 = length-unit_from 41000 2000 x.state (omega arith) in
      let Is : List Delta → Type 0 = AreUpTo t back' (k + 1) in
      subst Is (sym (ap (λ (y : Drawn (List Delta)). y.value) (delta_some t back' x there))) (record {
        between = between_push 0 (t - back + 1) (t - back' + 1) x.value d is.between (omega arith) (omega arith) (omega arith) (omega arith);
        few = omega (arith, length-append x.value (d ∷ []), is.few);
        bytes = omega (arith, is.bytes, sum_by-append (λ (e : Delta). length e.unit) x.value (d ∷ []), sum_by-cons (λ (e : Delta). length e.unit) d []);
      })
  | inr none ↦
      let Is : List Delta → Type 0 = AreUpTo t back' (k + 1) in
      subst Is (sym (ap (λ (y : Drawn (List Delta)). y.value) (delta_none t back' x none))) (record {
        between = between_wider 0 (t - back + 1) (t - back' + 1) x.value (omega arith) is.between;
        few = omega (arith, is.few);
        bytes = omega (arith, is.bytes);
      })
]

deltas_up_to : (t s : ℕ) → AreUpTo t 1 4 (deltas t s).value
deltas_up_to t s =
    let start : AreUpTo t 9 0 [] = record { between = tt; few = omega arith; bytes = omega arith } in
    let eight = up_to t 9 8 0 (record { value = []; state = s }) (omega arith) (omega arith) start in
    let four = up_to t 8 4 1 (with_delta t 8 (record { value = []; state = s })) (omega arith) (omega arith) eight in
    let two = up_to t 4 2 2 (with_delta t 4 (with_delta t 8 (record { value = []; state = s }))) (omega arith) (omega arith) four in
    up_to t 2 1 3 (with_delta t 2 (with_delta t 4 (with_delta t 8 (record { value = []; state = s })))) (omega arith) (omega arith) two

-- ---- audio units

abbrev sound_bytes : List (List ℕ) → ℕ
sound_bytes us = sum_by (λ u. length u) us

record AreSounds (k : ℕ) (us : List (List ℕ)) : Type 0 where
  whole : All (λ u. length u ≡ 240) us
  few : length us ≤ k
  bytes : sound_bytes us ≤ k * 240

one_sound : (k : ℕ) (x : Drawn (List (List ℕ))) → AreSounds k x.value → AreSounds (k + 1) (with_sound x).value
unfolding with_sound
one_sound k x is =
    let unit = (drawn_unit 240 x.state).value in
    let long = length-unit_of 240 x.state in
    record {
      whole = All-push (λ u. length u ≡ 240) x.value unit is.whole long;
      few = omega (arith, length-append x.value (unit ∷ []), is.few);
      bytes = omega (arith, is.bytes, long, sum_by-append (λ (u : List ℕ). length u) x.value (unit ∷ []), sum_by-cons (λ (u : List ℕ). length u) unit []);
    }

three_are : (s : ℕ) → AreSounds 3 (three_sounds s).value
three_are s =
    let start : AreSounds 0 [] = record { whole = All-nil (λ u. length u ≡ 240); few = omega arith; bytes = omega arith } in
    let first = one_sound 0 (record { value = []; state = s }) start in
    let second = one_sound 1 (with_sound (record { value = []; state = s })) first in
    one_sound 2 (with_sound (with_sound (record { value = []; state = s }))) second

sounds_are : (t s : ℕ) → AreSounds 4 (sounds t s).value
sounds_are t s =
    let Is : Drawn (List (List ℕ)) → Type 0 = λ x. AreSounds 4 x.value in
    let three = three_are s in
    elim (cases_Bool (t % 3 == 0)) [
      | inl third ↦ subst Is (sym (cond-true (t % 3 == 0) (with_sound (three_sounds s)) (three_sounds s) third)) (one_sound 3 (three_sounds s) three)
      | inr other ↦ subst Is (sym (cond-false (t % 3 == 0) (with_sound (three_sounds s)) (three_sounds s) other))
          (record { whole = three.whole; few = omega (arith, three.few); bytes = omega (arith, three.bytes) })
    ]

-- ---- ticks

tick_within : (t s time : ℕ) → 1 ≤ t → t ≤ 2000 → time ≤ (t - 1) * 1000 / 60 → IsWithinLimits 240 t time (tick t s).value
unfolding tick
tick_within t s time least most earlier =
    let idr = unit_from 100000 20000 s in
    let behind = deltas t idr.state in
    let long : length idr.value < 120000 = length-unit_from 100000 20000 s (omega arith) in
    let ds = deltas_up_to t idr.state in
    let us = sounds_are t behind.state in
    record {
      number_is = refl;
      number_most = omega arith;
      not_earlier = earlier;
      time_fits = omega arith;
      idr_most = omega arith;
      deltas_most = omega (arith, ds.few);
      deltas_between = let at : t - 1 + 1 ≡ t = omega arith in subst (λ (n : ℕ). AreDeltasBetween 0 n behind.value) at ds.between;
      audio_most = omega (arith, us.few);
      silent = λ none. absurd (omega (arith, none));
      audio_whole = us.whole;
    }

tick_bytes : (t s : ℕ) → unit_bytes (tick t s).value ≤ 300000
unfolding tick
tick_bytes t s =
    let idr = unit_from 100000 20000 s in
    let behind = deltas t idr.state in
    let long : length idr.value < 120000 = length-unit_from 100000 20000 s (omega arith) in
    omega (arith, long, (deltas_up_to t idr.state).bytes, (sounds_are t behind.state).bytes)

ticks_within : (n t s time : ℕ) → 1 ≤ t → t + n ≤ 2001 → time ≤ (t - 1) * 1000 / 60 → AreWithinLimits 240 t time (ticks_from n t s)
unfolding ticks_from tick
ticks_within zero t s time least most earlier = tt
ticks_within (suc n) t s time least most earlier =
    (tick_within t s time least (omega arith) earlier, ticks_within n (t + 1) (tick t s).state ((t - 1) * 1000 / 60) (omega arith) (omega arith) (omega arith))

ticks_bytes : (n t s : ℕ) → sum_by unit_bytes (ticks_from n t s) ≤ n * 300000
unfolding ticks_from
ticks_bytes zero t s = omega arith
ticks_bytes (suc n) t s =
    let rest = ticks_bytes n (t + 1) (tick t s).state in
    let first = tick_bytes t s in
    omega (arith, sum_by-cons unit_bytes (tick t s).value (ticks_from n (t + 1) (tick t s).state))

pub generated_is_writable : GeneratedTicksAreWritable
generated_is_writable number ticks most = record {
  audio_most = omega arith;
  duration_known = inl refl;
  within = ticks_within ticks 1 number 0 (omega arith) (omega arith) (omega arith);
  bytes_most = omega (arith, ticks_bytes ticks 1 number);
}
