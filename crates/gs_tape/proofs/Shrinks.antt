-- What a step leaves is no longer than what it was given, so a file's reading has enough steps.
use Rattle.std.proofs.Common.{◌≡◌, ◌+◌, ◌-◌, ◌≤◌, ◌∷◌, ℕ, zero, suc, Bool, true, false, Some, None, Result, Ok, Err, List, [], length, take, drop, refl, sym}
use Rattle.std.proofs.Common.{ap, subst, ◌∙◌, arith, length-drop}
use Rattle.std.specs.Prelude.{nat_lt, ◌==◌}
use Rattle.byteorder.specs.Endian.{little_number}
use Rattle.gs_tape.specs.Tick.{Tick, Delta, unit_bytes}
use Rattle.gs_tape.specs.Limits.{most_ticks}
use Rattle.gs_tape.specs.Reading.{Fault, Malformed, Full, ◌>>=◌, unless, bytes_at, number_at, Before, tick_at, ReadTape, ends_with, with_tick, and_then}
use Rattle.gs_tape.specs.Reading.{ticks_at}
use Rattle.gs_tape.specs.Steps.{StepOf, gives, then_read, refused, field, number, unit, delta, deltas, sounds, tick}
use Rattle.gs_tape.proofs.SameSteps.{bind_ok, tick_same, with_held}

record Shrinks {A : Type 0} (d : StepOf A) : Type 0 where
  left : (size : ℕ) (rest : List ℕ) (x : A × List ℕ) → d size rest ≡ Ok x → length x.1 ≤ length rest

passes : {A : Type 0} (bad : Bool) (fault : Fault) (y x : A) → unless bad fault (Ok y) ≡ Ok x → y ≡ x
passes true fault y x e = cc
passes false fault y x e = cc

gives_shrinks : {A : Type 0} (x : A) → Shrinks (gives x)
unfolding gives
gives_shrinks {A = A} x = record {
  left = λ size rest y e.
      let same : ◌≡◌ {A = A × List ℕ} (x, rest) y = cc in
      omega (arith, ap (λ (z : A × List ℕ). length z.1) same);
}

then_shrinks : {A B : Type 0} (d : StepOf A) (f : A → StepOf B) → Shrinks d → ((x : A) → Shrinks (f x)) → Shrinks (then_read d f)
unfolding then_read
then_shrinks d f first second = record {
  left = λ size rest y e.
      let got = bind_ok (d size rest) (λ x. f x.0 size x.1) y e in
      let one = first.left size rest got.0 got.1 in
      let two = (second got.0.0).left size got.0.1 y got.2 in
      omega (arith, one, two);
}

refused_shrinks : {A : Type 0} (d : StepOf A) (bad : A → Bool) (fault : A → ℕ → Fault) → Shrinks d → Shrinks (refused d bad fault)
unfolding refused
refused_shrinks {A = A} d bad fault h = record {
  left = λ size rest y e.
      let got = bind_ok (d size rest) (λ x. unless (bad x.0) (fault x.0 (size - length rest)) (Ok x)) y e in
      let same : got.0 ≡ y = passes (bad got.0.0) (fault got.0.0 (size - length rest)) got.0 y got.2 in
      let one = h.left size rest got.0 got.1 in
      omega (arith, one, ap (λ (z : A × List ℕ). length z.1) same);
}

field_shrinks : (n : ℕ) → Shrinks (field n)
field_shrinks n = record {
  left = λ size rest y e.
      let same : ◌≡◌ {A = List ℕ × List ℕ} (take n rest, drop n rest) y = passes (nat_lt (length rest) n) (Malformed 6 size) _ _ e in
      omega (arith, ap (λ (z : List ℕ × List ℕ). length z.1) same, length-drop n rest);
}

number_shrinks : (n : ℕ) → Shrinks (number n)
number_shrinks n = record {
  left = λ size rest y e.
      let same : ◌≡◌ {A = ℕ × List ℕ} (little_number n rest, drop n rest) y = passes (nat_lt (length rest) n) (Malformed 6 size) _ _ e in
      omega (arith, ap (λ (z : ℕ × List ℕ). length z.1) same, length-drop n rest);
}

unit_shrinks : (tick held : ℕ) → Shrinks (unit tick held)
unit_shrinks tick held = then_shrinks _ _ (refused_shrinks _ _ _ (refused_shrinks _ _ _ (number_shrinks 4))) (λ n. field_shrinks n)

delta_shrinks : (tick after held : ℕ) → Shrinks (delta tick after held)
delta_shrinks tick after held =
    then_shrinks _ _ (refused_shrinks _ _ _ (number_shrinks 4)) (λ n. then_shrinks _ _ (unit_shrinks tick held) (λ u. gives_shrinks _))

deltas_shrink : (n tick after held : ℕ) → Shrinks (deltas n tick after held)
unfolding deltas
deltas_shrink zero tick after held = gives_shrinks []
deltas_shrink (suc n) tick after held =
    then_shrinks _ _ (delta_shrinks tick after held)
    (λ d. then_shrinks _ _ (deltas_shrink n tick d.named (held + length d.unit)) (λ ds. gives_shrinks _))

sounds_shrink : (n each : ℕ) → Shrinks (sounds n each)
unfolding sounds
sounds_shrink zero each = gives_shrinks []
sounds_shrink (suc n) each = then_shrinks _ _ (field_shrinks each) (λ u. then_shrinks _ _ (sounds_shrink n each) (λ us. gives_shrinks _))

tick_shrinks : (audio : ℕ) (before : Before) → Shrinks (tick audio before)
unfolding tick
tick_shrinks audio before =
    then_shrinks _ _ (refused_shrinks _ _ _ (number_shrinks 4)) (λ t.
    then_shrinks _ _ (refused_shrinks _ _ _ (refused_shrinks _ _ _ (number_shrinks 1))) (λ heard.
    then_shrinks _ _ (refused_shrinks _ _ _ (number_shrinks 1)) (λ count.
    then_shrinks _ _ (unit_shrinks _ _) (λ idr.
    then_shrinks _ _ (deltas_shrink _ _ _ _) (λ ds.
    then_shrinks _ _ (sounds_shrink _ _) (λ us. gives_shrinks _))))))

pub step_left : (size audio : ℕ) (before : Before) (rest left : List ℕ) (t : Tick) → tick audio before size rest ≡ Ok (t, left)
    → length left ≤ length rest
step_left size audio before rest left t e = (tick_shrinks audio before).left size rest (t, left) e

-- a tick leaves no more than it was given
tick_left : (size audio : ℕ) (before : Before) (rest : List ℕ) (x : Tick × (ℕ × List ℕ)) → tick_at size audio before rest ≡ Ok x
    → length x.1.1 ≤ length rest
tick_left size audio before rest x e =
    let got = bind_ok (tick audio before size rest) (with_held before.held) x (tick_same size audio before rest ∙ e) in
    let one = (tick_shrinks audio before).left size rest got.0 got.1 in
    let same : ◌≡◌ {A = Tick × (ℕ × List ℕ)} (got.0.0, (before.held + unit_bytes got.0.0, got.0.1)) x = (let h = got.2 in cc) in
    omega (arith, one, ap (λ (z : Tick × (ℕ × List ℕ)). length z.1.1) same)

with_same : (r : Result (Tick × (ℕ × List ℕ)) Fault) (f g : Tick → ℕ → List ℕ → ReadTape)
    → ((x : Tick × (ℕ × List ℕ)) → r ≡ Ok x → f x.0 x.1.0 x.1.1 ≡ g x.0 x.1.0 x.1.1) → with_tick r f ≡ with_tick r g
with_same (Ok x) f g h = ap (λ (r : ReadTape). and_then x.0 r) (h x refl)
with_same (Err e) f g h = refl

-- what is read doesn't hang on the number of steps, where they are enough
pub enough_steps : (steps steps' size audio : ℕ) (before : Before) (rest : List ℕ) → length rest ≤ steps → length rest ≤ steps'
    → ticks_at steps size audio before rest ≡ ticks_at steps' size audio before rest
unfolding ticks_at
enough_steps zero zero size audio before rest few few' = refl
enough_steps zero (suc s') size audio before [] few few' = refl
enough_steps zero (suc s') size audio before (tag ∷ rest) few few' = absurd (omega arith)
enough_steps (suc s) zero size audio before [] few few' = refl
enough_steps (suc s) zero size audio before (tag ∷ rest) few few' = absurd (omega arith)
enough_steps (suc s) (suc s') size audio before [] few few' = refl
enough_steps (suc s) (suc s') size audio before (tag ∷ rest) few few' =
    let after : Tick → ℕ → Before = λ t held. record { number = before.number + 1; time = t.time; held = held } in
    ap (λ (next : ReadTape). elim (tag == 0x45) [
      | true ↦ elim (length rest == 0) [ true ↦ ends_with None | false ↦ ends_with (Some (Malformed 7 (size - length rest))) ]
      | false ↦ elim (tag == 0x54) [
        | true ↦ elim (nat_lt most_ticks before.number) [ true ↦ ends_with (Some (Full before.number)) | false ↦ next ]
        | false ↦ ends_with (Some (Malformed 2 (size - suc (length rest))))
      ]
    ])
    (with_same (tick_at size audio before rest) (λ t held left. ticks_at s size audio (after t held) left)
    (λ t held left. ticks_at s' size audio (after t held) left)
    (λ x is. let short = tick_left size audio before rest x is in
    enough_steps s s' size audio (after x.0 x.1.0) x.1.1 (omega arith) (omega arith)))
