-- Reading byte by byte, as the loops do.
use Rattle.std.proofs.Common.{◌≡◌, ℕ, zero, suc, ◌+◌, ◌<◌, ◌≤◌, List, [], ◌∷◌, ◌++◌, length, drop, get_or, Result, Ok, Err, refl, drop-cons, add-one}
use Rattle.std.proofs.lemmas.List.{drop_all}
use Rattle.gs_rtsp_text.specs.declared.stop.Stop.{Stop}
use Rattle.gs_rtsp_text.specs.declared.stop.Stop.TheVariants.{More}
use Rattle.gs_rtsp_text.specs.Reading.{◌>>=◌, literal_at, digits_at, decimal_at}

-- the rest from a place is the byte there, and the rest behind it
pub rest_at : (s : List ℕ) (i : ℕ) → i < length s → drop i s ≡ get_or s i 0 ∷ drop (i + 1) s
rest_at s i lt = rw (add-one) (drop-cons s i 0 lt)

pub rest_none : (s : List ℕ) (i : ℕ) → length s ≤ i → drop i s ≡ []
rest_none s i le = drop_all i s le

-- ---- literals

pub literal_out : (text bytes : List ℕ) (i : ℕ) → i < length text → length bytes ≤ i → literal_at (drop i text) (drop i bytes) ≡ Err More
literal_out text bytes i lt le = rw (rest_at text i lt, rest_none bytes i le) refl

-- ---- tokens

-- what was read before, and what is still read
abbrev pub with_front : List ℕ → Result (List ℕ × List ℕ) Stop → Result (List ℕ × List ℕ) Stop
with_front front read = read >>= λ x. Ok (front ++ x.0, x.1)

-- ---- numbers

-- what is still read behind i digits that stand for a value
abbrev pub number_behind : ℕ → ℕ → List ℕ → Result (List ℕ × List ℕ) Stop
number_behind zero value s = decimal_at s
number_behind (suc i) value s = digits_at value s
