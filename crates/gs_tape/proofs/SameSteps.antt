-- The steps of a program read what the definitions read.
use Rattle.std.proofs.Common.{◌≡◌, ◌+◌, ◌-◌, ◌*◌, ◌≤◌, ◌∷◌, ℕ, zero, suc, Bool, true, false, not, ◌&&◌, ◌||◌, Result, Ok, Err, List, [], length, take, drop}
use Rattle.std.proofs.Common.{refl, sym, ap, subst, ◌∙◌, arith}
use Rattle.std.specs.Prelude.{nat_lt, ◌==◌}
use Rattle.gs_tape.specs.Limits.{most_bytes, most_count}
use Rattle.std.specs.List.{AllByRecursion, sum_by}
use Rattle.std.proofs.lemmas.Bool.{ltb-false}
use Rattle.std.proofs.lemmas.List.{length-take-le}
use Rattle.std.proofs.lemmas.List.Sums.{sum_by-cons}
use Rattle.gs_tape.specs.Tick.{Tick, Delta, unit_bytes}
use Rattle.gs_tape.specs.Reading.{Fault, Full, Malformed, ◌>>=◌, unless, bytes_at, number_at, unit_at, deltas_at, audio_at, Before, tick_at}
use Rattle.gs_tape.proofs.Ticks.{audio_bytes}
use Rattle.gs_tape.specs.Steps.{StepOf, gives, then_read, refused, field, number, unit, delta, deltas, sounds, tick}

pub bind_assoc : {A B C : Type 0} (r : Result A Fault) (f : A → Result B Fault) (g : B → Result C Fault)
    → ((r >>= f) >>= g) ≡ (r >>= (λ x. f x >>= g))
bind_assoc (Ok x) f g = refl
bind_assoc (Err e) f g = refl

pub bind_same : {A B : Type 0} (r : Result A Fault) (f g : A → Result B Fault) → ((x : A) → r ≡ Ok x → f x ≡ g x) → (r >>= f) ≡ (r >>= g)
bind_same (Ok x) f g h = h x refl
bind_same (Err e) f g h = refl

pub bind_each : {A B : Type 0} (r : Result A Fault) (f g : A → Result B Fault) → ((x : A) → f x ≡ g x) → (r >>= f) ≡ (r >>= g)
bind_each (Ok x) f g h = h x
bind_each (Err e) f g h = refl

pub bind_of : {A B : Type 0} (r s : Result A Fault) (f : A → Result B Fault) → r ≡ s → (r >>= f) ≡ (s >>= f)
bind_of r s f e = ap (λ x. x >>= f) e

-- what follows a step and then another
pub then_bind : {A B C : Type 0} (d : StepOf A) (f : A → StepOf B) (m : B × List ℕ → Result C Fault) (size : ℕ) (rest : List ℕ)
    → (then_read d f size rest >>= m) ≡ (d size rest >>= (λ y. f y.0 size y.1 >>= m))
unfolding then_read
then_bind d f m size rest = bind_assoc (d size rest) (λ y. f y.0 size y.1) m

tested : {A B : Type 0} (bad : Bool) (fault : Fault) (x : A) (left : List ℕ) (m : A × List ℕ → Result B Fault)
    → (unless bad fault (Ok (x, left)) >>= m) ≡ (unless bad fault (Ok left) >>= (λ l. m (x, l)))
tested true fault x left m = refl
tested false fault x left m = refl

-- what follows a step that may be refused
pub refused_bind : {A B : Type 0} (d : StepOf A) (bad : A → Bool) (fault : A → ℕ → Fault) (m : A × List ℕ → Result B Fault) (size : ℕ) (rest : List ℕ)
    → (refused d bad fault size rest >>= m)
    ≡ (d size rest >>= (λ y. unless (bad y.0) (fault y.0 (size - length rest)) (Ok y.1) >>= (λ left. m (y.0, left))))
unfolding refused
refused_bind d bad fault m size rest =
    bind_assoc (d size rest) (λ y. unless (bad y.0) (fault y.0 (size - length rest)) (Ok y)) m
    ∙ bind_same (d size rest) (λ y. unless (bad y.0) (fault y.0 (size - length rest)) (Ok y) >>= m)
    (λ y. unless (bad y.0) (fault y.0 (size - length rest)) (Ok y.1) >>= (λ left. m (y.0, left)))
    (λ y is. tested (bad y.0) (fault y.0 (size - length rest)) y.0 y.1 m)

pub unit_same : (tick held size : ℕ) (rest : List ℕ) → unit tick held size rest ≡ unit_at size tick held rest
unfolding then_read unit_at
unit_same tick held size rest =
    refused_bind _ _ _ (λ y. field y.0 size y.1) size rest ∙ refused_bind (number 4) _ _ _ size rest

-- deltas, and the sum of all units with theirs
abbrev with_sum : ℕ → List Delta × List ℕ → Result (List Delta × (ℕ × List ℕ)) Fault
with_sum held y = Ok (y.0, (held + sum_by (λ d. length d.unit) y.0, y.1))

one_more : (n tick held size k : ℕ) (u behind : List ℕ)
    → ((deltas n tick k (held + length u) size behind >>= with_sum (held + length u))
    ≡ deltas_at n size (record { number = tick; named = k; held = held + length u }) behind)
    → (then_read (deltas n tick k (held + length u)) (λ ds. gives (record { named = k; unit = u } ∷ ds)) size behind >>= with_sum held)
    ≡ (deltas_at n size (record { number = tick; named = k; held = held + length u }) behind >>= (λ o. Ok (record { named = k; unit = u } ∷ o.0, o.1)))
unfolding gives
one_more n tick held size k u behind before =
    let d : Delta = record { named = k; unit = u } in
    let r : Result (List Delta × List ℕ) Fault = deltas n tick k (held + length u) size behind in
    let add : List Delta × (ℕ × List ℕ) → Result (List Delta × (ℕ × List ℕ)) Fault = λ o. Ok (d ∷ o.0, o.1) in
    let sums : (xs : List Delta) → held + sum_by (λ x. length x.unit) (d ∷ xs) ≡ held + length u + sum_by (λ x. length x.unit) xs =
    λ xs. omega (arith, sum_by-cons (λ (x : Delta). length x.unit) d xs) in
    then_bind (deltas n tick k (held + length u)) (λ ds. gives (d ∷ ds)) (with_sum held) size behind
    ∙ bind_same r (λ ds. with_sum held (d ∷ ds.0, ds.1)) (λ ds. with_sum (held + length u) ds >>= add)
    (λ ds got. let Made : ℕ → Result (List Delta × (ℕ × List ℕ)) Fault = λ s. Ok (d ∷ ds.0, (s, ds.1)) in ap Made (sums ds.0))
    ∙ sym (bind_assoc r (with_sum (held + length u)) add)
    ∙ ap (λ (x : Result (List Delta × (ℕ × List ℕ)) Fault). x >>= add) before

pub deltas_same : (n tick after held size : ℕ) (rest : List ℕ)
    → (deltas n tick after held size rest >>= with_sum held) ≡ deltas_at n size (record { number = tick; named = after; held = held }) rest
unfolding deltas deltas_at gives
deltas_same zero tick after held size rest =
    let none : held + 0 ≡ held = omega arith in
    let Made : ℕ → Result (List Delta × (ℕ × List ℕ)) Fault = λ k. Ok ([], (k, rest)) in
    ap Made none
deltas_same (suc n) tick after held size rest =
    then_bind _ _ (with_sum held) size rest
    ∙ then_bind _ _ _ size rest
    ∙ refused_bind (number 4) _ _ _ size rest
    ∙ bind_same (number_at size 4 rest) _ _ (λ m found. bind_same _ _ _ (λ left fits.
    then_bind _ _ _ size left
    ∙ bind_of _ _ _ (unit_same tick held size left)
    ∙ bind_same (unit_at size tick held left) _ _ (λ u got. one_more n tick held size m.0 u.0 u.1 (deltas_same n tick m.0 (held + length u.0) size u.1))))

pub sounds_same : (n each size : ℕ) (rest : List ℕ) → sounds n each size rest ≡ audio_at n size each rest
unfolding sounds audio_at gives then_read
sounds_same zero each size rest = refl
sounds_same (suc n) each size rest =
    bind_same (bytes_at size each rest) _ _ (λ u found.
    ap (λ (r : Result (List (List ℕ) × List ℕ) Fault). r >>= (λ o. Ok (u.0 ∷ o.0, o.1))) (sounds_same n each size u.1))

-- the first reading gave a value where the second did
pub bind_ok : {A B : Type 0} (r : Result A Fault) (f : A → Result B Fault) (y : B) → (r >>= f) ≡ Ok y → (x : A) × (r ≡ Ok x) × (f x ≡ Ok y)
bind_ok (Ok x) f y e = (x, refl, e)
bind_ok (Err e) f y is = cc

field_long : (n size : ℕ) (rest : List ℕ) (x : List ℕ × List ℕ) → bytes_at size n rest ≡ Ok x → length x.0 ≡ n
field_long n size rest x e = by_test (nat_lt (length rest) n) refl e
  where
    by_test : (b : Bool) → nat_lt (length rest) n ≡ b → unless {A = List ℕ × List ℕ} b (Malformed 6 size) (Ok (take n rest, drop n rest)) ≡ Ok x
        → length x.0 ≡ n
    by_test true t e = cc
    by_test false t e =
        let same : ◌≡◌ {A = List ℕ × List ℕ} (take n rest, drop n rest) x = cc in
        ap (λ (y : List ℕ × List ℕ). length y.0) (sym same) ∙ length-take-le n rest (ltb-false (length rest) n t)

-- so many units of one length
pub sounds_long : (n each size : ℕ) (rest : List ℕ) (x : List (List ℕ) × List ℕ) → sounds n each size rest ≡ Ok x
    → (length x.0 ≡ n) × AllByRecursion (λ u. length u ≡ each) x.0
unfolding sounds gives then_read
sounds_long zero each size rest x e =
    let same : ◌≡◌ {A = List (List ℕ) × List ℕ} ([], rest) x = cc in
    let Long : List (List ℕ) × List ℕ → Type 0 = λ y. (length y.0 ≡ 0) × AllByRecursion (λ u. length u ≡ each) y.0 in
    subst Long same (refl, tt)
sounds_long (suc n) each size rest x e =
    let first = bind_ok (bytes_at size each rest) _ x e in
    let u = first.0 in
    let second = bind_ok (sounds n each size u.1) (λ us. Ok (u.0 ∷ us.0, us.1)) x first.2 in
    let more = sounds_long n each size u.1 second.0 second.1 in
    let same : ◌≡◌ {A = List (List ℕ) × List ℕ} (u.0 ∷ second.0.0, second.0.1) x = (let h = second.2 in cc) in
    let Long : List (List ℕ) × List ℕ → Type 0 = λ y. (length y.0 ≡ suc n) × AllByRecursion (λ v. length v ≡ each) y.0 in
    subst Long same (ap suc more.0, (field_long each size rest u first.1, more.1))

-- a tick, and the sum of all units with its own
abbrev pub with_held : ℕ → Tick × List ℕ → Result (Tick × (ℕ × List ℕ)) Fault
with_held held y = Ok (y.0, (held + unit_bytes y.0, y.1))

-- the sum of a tick's units, by the order in which they are read
units_sum : (held heard each : ℕ) (idr : List ℕ) (ds : List Delta) (us : List (List ℕ))
    → length us ≡ heard → AllByRecursion (λ u. length u ≡ each) us
    → held + (length idr + sum_by (λ d. length d.unit) ds + sum_by (λ u. length u) us)
    ≡ held + heard * each + length idr + sum_by (λ d. length d.unit) ds
units_sum held heard each idr ds us many whole =
    let sum : sum_by (λ (u : List ℕ). length u) us ≡ length us * each = audio_bytes each us whole in
    let all : length us * each ≡ heard * each = ap (λ (n : ℕ). n * each) many in
    omega (arith, sum, all)

-- the audio units of a tick, behind its deltas
last_part : (size audio heard : ℕ) (before : Before) (t : ℕ) (idr : List ℕ) (ds : List Delta) (rest : List ℕ)
    →
    (then_read (sounds heard audio)
    (λ us. gives (record { number = before.number; time = t; idr = idr; deltas = ds; audio = us })) size rest >>= with_held before.held)
    ≡ (audio_at heard size audio rest
    >>= (λ us. Ok (
      record { number = before.number; time = t; idr = idr; deltas = ds; audio = us.0 },
      (before.held + heard * audio + length idr + sum_by (λ d. length d.unit) ds, us.1),
    )))
unfolding gives
last_part size audio heard before t idr ds rest =
    let made : List (List ℕ) → Tick = λ us. record { number = before.number; time = t; idr = idr; deltas = ds; audio = us } in
    let held : ℕ = before.held + heard * audio + length idr + sum_by (λ d. length d.unit) ds in
    let all : List (List ℕ) × List ℕ → Result (Tick × (ℕ × List ℕ)) Fault = λ us. Ok (made us.0, (held, us.1)) in
    then_bind (sounds heard audio) (λ us. gives (made us)) (with_held before.held) size rest
    ∙ bind_same (sounds heard audio size rest) (λ us. with_held before.held (made us.0, us.1)) all
    (λ us got. let long = sounds_long heard audio size rest us got in
    let Made : ℕ → Result (Tick × (ℕ × List ℕ)) Fault = λ s. Ok (made us.0, (s, us.1)) in
    ap Made (units_sum before.held heard audio idr ds us.0 long.0 long.1))
    ∙ ap (λ (r : Result (List (List ℕ) × List ℕ) Fault). r >>= all) (sounds_same heard audio size rest)

-- the deltas and the audio units of a tick, behind its IDR unit
behind : (size audio : ℕ) (before : Before) (t heard count : ℕ) (idr rest : List ℕ)
    → (then_read (deltas count before.number 0 (before.held + heard * audio + length idr)) (λ ds.
    then_read (sounds heard audio) (λ us. gives (record { number = before.number; time = t; idr = idr; deltas = ds; audio = us }))) size rest
    >>= with_held before.held)
    ≡ (deltas_at count size (record { number = before.number; named = 0; held = before.held + heard * audio + length idr }) rest >>= (λ ds.
    audio_at heard size audio ds.1.1 >>= (λ us.
    Ok (record { number = before.number; time = t; idr = idr; deltas = ds.0; audio = us.0 }, (ds.1.0, us.1)))))
behind size audio before t heard count idr rest =
    let held = before.held + heard * audio + length idr in
    let r : Result (List Delta × List ℕ) Fault = deltas count before.number 0 held size rest in
    let next : List Delta × (ℕ × List ℕ) → Result (Tick × (ℕ × List ℕ)) Fault = λ ds.
    audio_at heard size audio ds.1.1 >>= (λ us.
    Ok (record { number = before.number; time = t; idr = idr; deltas = ds.0; audio = us.0 }, (ds.1.0, us.1))) in
    then_bind (deltas count before.number 0 held) _ (with_held before.held) size rest
    ∙ bind_same r _ (λ ds. with_sum held ds >>= next) (λ ds got. last_part size audio heard before t idr ds.0 ds.1)
    ∙ sym (bind_assoc r (with_sum held) next)
    ∙ ap (λ (x : Result (List Delta × (ℕ × List ℕ)) Fault). x >>= next) (deltas_same count before.number 0 held size rest)

pub tick_same : (size audio : ℕ) (before : Before) (rest : List ℕ)
    → (tick audio before size rest >>= with_held before.held) ≡ tick_at size audio before rest
unfolding tick tick_at
tick_same size audio before rest =
    let m = with_held before.held in
    then_bind _ _ m size rest ∙ refused_bind (number 4) _ _ _ size rest
    ∙ bind_each (number_at size 4 rest) _ _ (λ t.
    bind_each (unless (nat_lt t.0 before.time) (Malformed 3 (size - length rest)) (Ok t.1)) _ _ (λ timed.
    then_bind _ _ m size timed ∙ refused_bind _ _ _ _ size timed ∙ refused_bind (number 1) _ _ _ size timed
    ∙ bind_each (number_at size 1 timed) _ _ (λ heard.
    bind_each (unless (nat_lt most_count heard.0 || (not (heard.0 == 0) && audio == 0)) (Malformed 4 (size - length timed)) (Ok heard.1)) _ _ (λ few.
    bind_each (unless (nat_lt most_bytes (before.held + heard.0 * audio)) (Full before.number) (Ok few)) _ _ (λ room.
    then_bind _ _ m size room ∙ refused_bind (number 1) _ _ _ size room
    ∙ bind_each (number_at size 1 room) _ _ (λ count.
    bind_each (unless (nat_lt most_count count.0) (Malformed 4 (size - length room)) (Ok count.1)) _ _ (λ counted.
    then_bind _ _ m size counted
    ∙ bind_of _ _ _ (unit_same before.number (before.held + heard.0 * audio) size counted)
    ∙ bind_each (unit_at size before.number (before.held + heard.0 * audio) counted) _ _ (λ idr.
    behind size audio before t.0 heard.0 count.0 idr.0 idr.1))))))))
