-- What the readings of a capture file's fields give: values in their limits, and the bytes that spell them.
use Rattle.std.proofs.Common.{◌≡◌, ◌<◌, ◌≤◌, ◌+◌, ◌-◌, ◌*◌, ◌/◌, ◌%◌, ◌^◌, ℕ, zero, suc, ◌||◌, List, [], ◌∷◌, ◌++◌, length, take, drop, Ok, refl, sym, ap}
use Rattle.std.proofs.Common.{subst, ◌∙◌, arith, append_assoc, take-append-drop}
use Rattle.std.specs.Prelude.{slice_index, nat_lt, nat_le}
use Rattle.std.specs.Int.{byte_at, bytes_low_first}
use Rattle.std.specs.List.{All, flat_map, concat, sum_by}
use Rattle.std.proofs.Math.Nat.{div-div-eq-div-mul, pow-succ'}
use Rattle.std.proofs.lemmas.Bool.{ltb-false, leb-false, or_parts}
use Rattle.std.proofs.lemmas.List.{get_or-drop, length-take-le}
use Rattle.std.proofs.lemmas.List.Elements.{All-nil, All-cons, All-take, All-from_get_or}
use Rattle.std.proofs.lemmas.List.Sums.{sum_by-cons}
use Rattle.byteorder.specs.Endian.{little_number, little_bytes}
use Rattle.byteorder.specs.Numbers.{little_from-lt, little_from-cons}
use Rattle.gs_tape.specs.Tick.{Delta}
use Rattle.gs_tape.specs.Limits.{most_unit, most_bytes, AreDeltasBetween}
use Rattle.gs_tape.specs.Capture.{unit, delta}
use Rattle.gs_tape.specs.Reading.{Malformed, Full, UnitTooLarge, unless, bytes_at, number_at, unit_at, deltas_at, audio_at}
use Rattle.gs_tape.proofs.Results.{Gives, gives_then, gives_unless, gives_weaker}

-- each member is a byte, 0 past the end
abbrev pub AreBytes : List ℕ → Type 0
AreBytes xs = (i : ℕ) → slice_index xs i < 256

pub AreBytes-drop : (n : ℕ) (xs : List ℕ) → AreBytes xs → AreBytes (drop n xs)
AreBytes-drop n xs h i = let Below : ℕ → Type 0 = λ x. x < 256 in subst Below (sym (get_or-drop n xs i 0)) (h (n + i))

-- each member is a byte, as the law says it
abbrev pub HoldBytes : List ℕ → Type 0
HoldBytes xs = All (λ b. b < 2 ^ 8) xs

-- members at the front are bytes where all are
pub HoldBytes-take : (n : ℕ) (xs : List ℕ) → AreBytes xs → HoldBytes (take n xs)
HoldBytes-take n xs h = All-take (λ b. b < 2 ^ 8) n xs (All-from_get_or (λ b. b < 2 ^ 8) xs 0 (λ i lt. h i))

-- ---- a number spells the bytes that it was read of

byte_at-shift : (k a y : ℕ) → a < 256 → byte_at (suc k) (a + 256 * y) ≡ byte_at k y
byte_at-shift zero a y small = let high : (a + 256 * y) / 256 ≡ y = omega arith in ap (λ (n : ℕ). n % 256) high
byte_at-shift (suc k) a y small =
    let high : (a + 256 * y) / 256 ≡ y = omega arith in
    ap (λ (n : ℕ). (a + 256 * y) / n % 256) (pow-succ' 256 (suc k))
    ∙ ap (λ (n : ℕ). n % 256) (sym (div-div-eq-div-mul (a + 256 * y) 256 (256 ^ suc k)))
    ∙ ap (λ (n : ℕ). n / 256 ^ suc k % 256) high

bytes-shift : (i n a y : ℕ) → a < 256 → bytes_low_first (suc i) n (a + 256 * y) ≡ bytes_low_first i n y
bytes-shift i zero a y small = refl
bytes-shift i (suc n) a y small =
    ap (λ (b : ℕ). b ∷ bytes_low_first (suc (suc i)) n (a + 256 * y)) (byte_at-shift i a y small)
    ∙ ap (λ (bs : List ℕ). byte_at i y ∷ bs) (bytes-shift (suc i) n a y small)

pub number_spells : (n : ℕ) (xs : List ℕ) → AreBytes xs → n ≤ length xs → little_bytes n (little_number n xs) ≡ take n xs
number_spells zero xs are long = refl
number_spells (suc n) [] are long = absurd (omega arith)
number_spells (suc n) (b ∷ bs) are long =
    let small : b < 256 = are 0 in
    let y = little_number n bs in
    let low : (b + 256 * y) % 256 ≡ b = omega arith in
    ap (λ (m : ℕ). bytes_low_first 0 (suc n) (b + 256 * m)) (little_from-cons 0 n b bs)
    ∙ ap (λ (m : ℕ). m ∷ bytes_low_first 1 n (b + 256 * y)) low
    ∙ ap (λ (ys : List ℕ). b ∷ ys) (bytes-shift 0 n b y small ∙ number_spells n bs (λ i. are (suc i)) (omega arith))

-- ---- one field

pub record IsNumber (n : ℕ) (rest : List ℕ) (x : ℕ × List ℕ) : Type 0 where
  pub fits : x.0 < 256 ^ n
  pub spelled : rest ≡ little_bytes n x.0 ++ x.1
  pub bytes : AreBytes x.1

pub number_gives : (size n : ℕ) (rest : List ℕ) → AreBytes rest → Gives (IsNumber n rest) (number_at size n rest)
number_gives size n rest are =
    gives_unless (IsNumber n rest) (nat_lt (length rest) n) (Malformed 6 size) (Ok (little_number n rest, drop n rest))
    (λ e. record {
      fits = little_from-lt 0 n rest are;
      spelled = sym (ap (λ (l : List ℕ). l ++ drop n rest) (number_spells n rest are (ltb-false (length rest) n e)) ∙ take-append-drop n rest);
      bytes = AreBytes-drop n rest are;
    })

pub record IsPart (n : ℕ) (rest : List ℕ) (x : List ℕ × List ℕ) : Type 0 where
  pub long : length x.0 ≡ n
  pub holds : HoldBytes x.0
  pub spelled : rest ≡ x.0 ++ x.1
  pub bytes : AreBytes x.1

pub bytes_give : (size n : ℕ) (rest : List ℕ) → AreBytes rest → Gives (IsPart n rest) (bytes_at size n rest)
bytes_give size n rest are =
    gives_unless (IsPart n rest) (nat_lt (length rest) n) (Malformed 6 size) (Ok (take n rest, drop n rest))
    (λ e. record {
      long = length-take-le n rest (ltb-false (length rest) n e);
      holds = HoldBytes-take n rest are;
      spelled = sym (take-append-drop n rest);
      bytes = AreBytes-drop n rest are;
    })

-- a unit behind its length, where all units before it have so many bytes
pub record IsUnit (held : ℕ) (rest : List ℕ) (x : List ℕ × List ℕ) : Type 0 where
  pub most : length x.0 ≤ most_unit
  pub room : held + length x.0 ≤ most_bytes
  pub holds : HoldBytes x.0
  pub spelled : rest ≡ unit x.0 ++ x.1
  pub bytes : AreBytes x.1

pub unit_gives : (size number held : ℕ) (rest : List ℕ) → AreBytes rest → Gives (IsUnit held rest) (unit_at size number held rest)
unfolding unit_at
unit_gives size number held rest are =
    let U : List ℕ × List ℕ → Type 0 = IsUnit held rest in
    gives_then (IsNumber 4 rest) U (number_at size 4 rest) _ (number_gives size 4 rest are) (λ n read.
    gives_then (λ fits. (n.0 ≤ most_unit) × (fits ≡ n.1)) U (unless (nat_lt most_unit n.0) (UnitTooLarge number) (Ok n.1)) _
    (gives_unless (λ fits. (n.0 ≤ most_unit) × (fits ≡ n.1)) (nat_lt most_unit n.0) (UnitTooLarge number) (Ok n.1) (λ e. (ltb-false most_unit n.0 e, refl)))
    (λ fits is.
    gives_then (λ room. (held + n.0 ≤ most_bytes) × (room ≡ n.1)) U (unless (nat_lt most_bytes (held + n.0)) (Full number) (Ok fits)) _
    (gives_unless (λ room. (held + n.0 ≤ most_bytes) × (room ≡ n.1)) (nat_lt most_bytes (held + n.0)) (Full number) (Ok fits)
    (λ e. (ltb-false most_bytes (held + n.0) e, is.1))) (λ room has.
    gives_weaker (IsPart n.0 room) U (bytes_at size n.0 room) (bytes_give size n.0 room (subst AreBytes (sym has.1) read.bytes)) (λ x part. record {
      most = omega (arith, part.long, is.0);
      room = omega (arith, part.long, has.0);
      holds = part.holds;
      spelled = read.spelled ∙ ap (λ (l : List ℕ). little_bytes 4 n.0 ++ l) (sym has.1 ∙ part.spelled)
          ∙ ap (λ (k : ℕ). little_bytes 4 k ++ (x.0 ++ x.1)) (sym part.long)
          ∙ sym (append_assoc (little_bytes 4 (length x.0)) x.0 x.1);
      bytes = part.bytes;
    }))))

-- ---- many

abbrev pub delta_bytes : List Delta → ℕ
delta_bytes ds = sum_by (λ d. length d.unit) ds

-- so many deltas, with named ticks from above one number to below another
pub record AreDeltas (n above below held : ℕ) (rest : List ℕ) (x : List Delta × (ℕ × List ℕ)) : Type 0 where
  pub count : length x.0 ≡ n
  pub between : AreDeltasBetween above below x.0
  pub hold : All (λ d. HoldBytes d.unit) x.0
  pub held_is : x.1.0 ≡ held + delta_bytes x.0
  pub room : x.1.0 ≤ most_bytes
  pub spelled : rest ≡ flat_map delta x.0 ++ x.1.1
  pub bytes : AreBytes x.1.1

pub deltas_give : (n size number before held : ℕ) (rest : List ℕ) → held ≤ most_bytes → AreBytes rest
    → Gives (AreDeltas n before number held rest) (deltas_at n size (record { number = number; named = before; held = held }) rest)
unfolding deltas_at
deltas_give zero size number before held rest few are = record {
  count = refl;
  between = tt;
  hold = All-nil (λ d. HoldBytes d.unit);
  held_is = omega arith;
  room = few;
  spelled = refl;
  bytes = are;
}
deltas_give (suc n) size number before held rest few are =
    let D : List Delta × (ℕ × List ℕ) → Type 0 = AreDeltas (suc n) before number held rest in
    gives_then (IsNumber 4 rest) D (number_at size 4 rest) _ (number_gives size 4 rest are) (λ named read.
    gives_then (λ left. (before < named.0) × (named.0 < number) × (left ≡ named.1)) D
    (unless (nat_le named.0 before || nat_le number named.0) (Malformed 5 (size - length rest)) (Ok named.1)) _
    (gives_unless (λ left. (before < named.0) × (named.0 < number) × (left ≡ named.1)) (nat_le named.0 before || nat_le number named.0)
    (Malformed 5 (size - length rest)) (Ok named.1)
    (λ e. let parts = or_parts (nat_le named.0 before) (nat_le number named.0) e in (leb-false named.0 before parts.0, leb-false number named.0 parts.1, refl)))
    (λ left is.
    gives_then (IsUnit held left) D (unit_at size number held left) _ (unit_gives size number held left (subst AreBytes (sym is.2) read.bytes)) (λ u whole.
    gives_then (AreDeltas n named.0 number (held + length u.0) u.1) D
    (deltas_at n size (record { number = number; named = named.0; held = held + length u.0 }) u.1) _
    (deltas_give n size number named.0 (held + length u.0) u.1 whole.room whole.bytes) (λ others more.
    let d : Delta = record { named = named.0; unit = u.0 } in
    record {
      count = ap suc more.count;
      between = (is.0, is.1, whole.most, more.between);
      hold = All-cons (λ e. HoldBytes e.unit) d others.0 whole.holds more.hold;
      held_is = omega (arith, more.held_is, sum_by-cons (λ (e : Delta). length e.unit) d others.0);
      room = more.room;
      spelled = read.spelled ∙ ap (λ (l : List ℕ). little_bytes 4 named.0 ++ l) (sym is.2 ∙ whole.spelled ∙ ap (λ (l : List ℕ). unit u.0 ++ l) more.spelled)
          ∙ delta_parts named.0 (unit u.0) (flat_map delta others.0) others.1.1;
      bytes = more.bytes;
    }))))
  where
    delta_parts : (k : ℕ) (u ds behind : List ℕ) → little_bytes 4 k ++ (u ++ (ds ++ behind)) ≡ ((little_bytes 4 k ++ u) ++ ds) ++ behind
    delta_parts k u ds behind = simp append_assoc

-- so many audio units of one length
pub record AreSounds (n each : ℕ) (rest : List ℕ) (x : List (List ℕ) × List ℕ) : Type 0 where
  pub count : length x.0 ≡ n
  pub whole : All (λ u. length u ≡ each) x.0
  pub hold : All HoldBytes x.0
  pub spelled : rest ≡ concat x.0 ++ x.1
  pub bytes : AreBytes x.1

pub sounds_give : (n size each : ℕ) (rest : List ℕ) → AreBytes rest → Gives (AreSounds n each rest) (audio_at n size each rest)
unfolding audio_at
sounds_give zero size each rest are = record {
  count = refl;
  whole = All-nil (λ u. length u ≡ each);
  hold = All-nil HoldBytes;
  spelled = refl;
  bytes = are;
}
sounds_give (suc n) size each rest are =
    gives_then (IsPart each rest) (AreSounds (suc n) each rest) (bytes_at size each rest) _ (bytes_give size each rest are) (λ u part.
    gives_then (AreSounds n each u.1) (AreSounds (suc n) each rest) (audio_at n size each u.1) _ (sounds_give n size each u.1 part.bytes)
    (λ others more. record {
      count = ap suc more.count;
      whole = All-cons (λ v. length v ≡ each) u.0 others.0 part.long more.whole;
      hold = All-cons HoldBytes u.0 others.0 part.holds more.hold;
      spelled = part.spelled ∙ ap (λ (l : List ℕ). u.0 ++ l) more.spelled ∙ sym (append_assoc u.0 (concat others.0) others.1);
      bytes = more.bytes;
    }))
