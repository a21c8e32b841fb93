-- What the readings of a capture file's fields give of fields that were written.
use Rattle.std.proofs.Common.{◌≡◌, ◌<◌, ◌≤◌, ◌+◌, ◌-◌, ◌^◌, ℕ, suc, Bool, false, ◌||◌, List, [], ◌∷◌, ◌++◌, length, take, drop, Result, Ok, refl, ap, ◌∙◌}
use Rattle.std.proofs.Common.{arith, append_assoc, length-append}
use Rattle.std.specs.Prelude.{nat_lt, nat_le}
use Rattle.std.specs.List.{AllByRecursion, flat_map, concat}
use Rattle.std.proofs.lemmas.Bool.{le-ltb, lt-leb, or_from}
use Rattle.std.proofs.lemmas.List.{take_at, drop_at}
use Rattle.std.proofs.lemmas.List.Sums.{sum_by-cons}
use Rattle.byteorder.specs.Endian.{little_bytes, little_number}
use Rattle.byteorder.specs.Numbers.{little_number-reads_back, length-bytes_low_first}
use Rattle.gs_tape.specs.Tick.{Delta}
use Rattle.gs_tape.specs.Capture.{unit, delta}
use Rattle.gs_tape.specs.Reading.{Fault, Malformed, Full, UnitTooLarge, ◌>>=◌, unless, bytes_at, number_at, most_unit, most_bytes, most_ticks, unit_at}
use Rattle.gs_tape.specs.Reading.{deltas_at, audio_at}
use Rattle.gs_tape.specs.Limits.{AreDeltasBetween}
use Rattle.gs_tape.proofs.Readings.{delta_bytes}

pub then_ok : {A B : Type 0} (r : Result A Fault) (x : A) (f : A → Result B Fault) (y : Result B Fault) → r ≡ Ok x → f x ≡ y → (r >>= f) ≡ y
then_ok r x f y e k = ap (λ s. s >>= f) e ∙ k

pub unless_ok : {A : Type 0} (test : Bool) (fault : Fault) (r : Result A Fault) → test ≡ false → unless test fault r ≡ r
unless_ok test fault r e = ap (λ (b : Bool). unless b fault r) e

pub number_read : (size n x : ℕ) (rest : List ℕ) → x < 256 ^ n → number_at size n (little_bytes n x ++ rest) ≡ Ok (x, rest)
number_read size n x rest fits =
    let bytes = little_bytes n x in
    let long : length bytes ≡ n = length-bytes_low_first 0 n x in
    let enough : nat_lt (length (bytes ++ rest)) n ≡ false = le-ltb (length (bytes ++ rest)) n (omega (arith, length-append bytes rest, long)) in
    unless_ok (nat_lt (length (bytes ++ rest)) n) (Malformed 6 size) (Ok (little_number n (bytes ++ rest), drop n (bytes ++ rest))) enough
    ∙ ap (λ (k : ℕ). Ok (k, drop n (bytes ++ rest))) (little_number-reads_back n x rest fits)
    ∙ ap (λ (l : List ℕ). Ok (x, l)) (drop_at bytes rest n long)

pub bytes_read : (size n : ℕ) (bytes rest : List ℕ) → length bytes ≡ n → bytes_at size n (bytes ++ rest) ≡ Ok (bytes, rest)
bytes_read size n bytes rest long =
    let enough : nat_lt (length (bytes ++ rest)) n ≡ false = le-ltb (length (bytes ++ rest)) n (omega (arith, length-append bytes rest, long)) in
    unless_ok (nat_lt (length (bytes ++ rest)) n) (Malformed 6 size) (Ok (take n (bytes ++ rest), drop n (bytes ++ rest))) enough
    ∙ ap (λ (l : List ℕ). Ok (l, drop n (bytes ++ rest))) (take_at bytes rest n long)
    ∙ ap (λ (l : List ℕ). Ok (bytes, l)) (drop_at bytes rest n long)

pub unit_read : (size number held : ℕ) (bytes rest : List ℕ) → length bytes ≤ most_unit → held + length bytes ≤ most_bytes
    → unit_at size number held (unit bytes ++ rest) ≡ Ok (bytes, rest)
unfolding unit_at
unit_read size number held bytes rest most room =
    then_ok (number_at size 4 (unit bytes ++ rest)) (length bytes, bytes ++ rest) _ _
    (number_read size 4 (length bytes) (bytes ++ rest) (omega arith))
    (then_ok (unless (nat_lt most_unit (length bytes)) (UnitTooLarge number) (Ok (bytes ++ rest))) (bytes ++ rest) _ _
    (unless_ok (nat_lt most_unit (length bytes)) (UnitTooLarge number) (Ok (bytes ++ rest)) (le-ltb most_unit (length bytes) most))
    (then_ok (unless (nat_lt most_bytes (held + length bytes)) (Full number) (Ok (bytes ++ rest))) (bytes ++ rest) _ _
    (unless_ok (nat_lt most_bytes (held + length bytes)) (Full number) (Ok (bytes ++ rest)) (le-ltb most_bytes (held + length bytes) room))
    (bytes_read size (length bytes) bytes rest refl)))

pub deltas_read : (size number above held : ℕ) (ds : List Delta) (rest : List ℕ) → number ≤ most_ticks → AreDeltasBetween above number ds
    → held + delta_bytes ds ≤ most_bytes
    → deltas_at (length ds) size (record { number = number; named = above; held = held }) (flat_map delta ds ++ rest) ≡ Ok (ds, (held + delta_bytes ds, rest))
unfolding deltas_at
deltas_read size number above held [] rest most between room =
    let none : held ≡ held + delta_bytes [] = omega arith in ap (λ (n : ℕ). Ok ([], (n, rest))) none
deltas_read size number above held (d ∷ ds) rest most between room =
    let rises : above < d.named = between.0 in
    let below : d.named < number = between.1 in
    let behind : List ℕ = flat_map delta ds ++ rest in
    let parts : flat_map delta (d ∷ ds) ++ rest ≡ little_bytes 4 d.named ++ (unit d.unit ++ behind) = simp append_assoc in
    let sums : held + length d.unit + delta_bytes ds ≡ held + delta_bytes (d ∷ ds) = omega (arith, sum_by-cons (λ (e : Delta). length e.unit) d ds) in
    ap (deltas_at (suc (length ds)) size (record { number = number; named = above; held = held })) parts
    ∙ then_ok (number_at size 4 (little_bytes 4 d.named ++ (unit d.unit ++ behind))) (d.named, unit d.unit ++ behind) _ _
    (number_read size 4 d.named (unit d.unit ++ behind) (omega arith))
    (then_ok
    (unless (nat_le d.named above || nat_le number d.named) (Malformed 5 (size - length (little_bytes 4 d.named ++ (unit d.unit ++ behind))))
    (Ok (unit d.unit ++ behind))) (unit d.unit ++ behind) _ _
    (unless_ok (nat_le d.named above || nat_le number d.named) (Malformed 5 (size - length (little_bytes 4 d.named ++ (unit d.unit ++ behind))))
    (Ok (unit d.unit ++ behind))
    (or_from (nat_le d.named above) (nat_le number d.named) (lt-leb d.named above rises) (lt-leb number d.named below)))
    (then_ok (unit_at size number held (unit d.unit ++ behind)) (d.unit, behind) _ _
    (unit_read size number held d.unit behind between.2 (omega (arith, sums)))
    (then_ok (deltas_at (length ds) size (record { number = number; named = d.named; held = held + length d.unit }) behind)
    (ds, (held + length d.unit + delta_bytes ds, rest)) _ _
    (deltas_read size number d.named (held + length d.unit) ds rest most between.3 (omega (arith, sums)))
    (ap (λ (n : ℕ). Ok (d ∷ ds, (n, rest))) sums))))

pub sounds_read : (size each : ℕ) (us : List (List ℕ)) (rest : List ℕ) → AllByRecursion (λ u. length u ≡ each) us
    → audio_at (length us) size each (concat us ++ rest) ≡ Ok (us, rest)
unfolding audio_at
sounds_read size each [] rest all = refl
sounds_read size each (u ∷ us) rest all =
    ap (audio_at (suc (length us)) size each) (append_assoc u (concat us) rest)
    ∙ then_ok (bytes_at size each (u ++ (concat us ++ rest))) (u, concat us ++ rest) _ _ (bytes_read size each u (concat us ++ rest) all.0)
    (then_ok (audio_at (length us) size each (concat us ++ rest)) (us, rest) _ _ (sounds_read size each us rest all.1) refl)
