-- Each shard of a code stands at a point of its own.
use Rattle.std.proofs.Common.{◌≡◌, ◌≢◌, ℕ, ◌+◌, ◌-◌, ◌<◌, ◌≤◌, List, true, ltb, length, get_or, map, take, sym, ◌∙◌, refl, zero-add, arith, inl, inr, lit<}
use Rattle.std.specs.List.{range_with_len}
use Rattle.std.proofs.lemmas.Bool.{ltb-true, cases_lt, lt-ltb, le-ltb}
use Rattle.std.proofs.lemmas.List.{get_or-map, get_or-take, length-map, length-take-le, ext_get_or}
use Rattle.std.proofs.lemmas.List.FromFn.{length-range_with_len, get_or-range_with_len, length-map-range_with_len, get_or-map-range_with_len}
use Rattle.std.proofs.lemmas.List.Elements.{All-map}
use Rattle.gs_gf256.specs.Field.{IsByte}
use Rattle.gs_gf256.proofs.AllBelow.{all_below, at_below}
use Rattle.gs_poly.specs.Polynomial.{ArePoints}
use Rattle.gs_rs.specs.declared.shape.Form.{Form}
use Rattle.gs_rs.specs.declared.shape.Form.TheVariants.{Video, Audio}
use Rattle.gs_rs.specs.declared.shape.CodeShape.{CodeShape}
use Rattle.gs_rs.specs.Shape.{IsCode, shard_count, point, video_point, audio_points, data_points, denominator}
use Rattle.gs_rs.specs.Laws.{AreEnough}
use Rattle.gs_rs.proofs.Differences.{IsByte-differences, differences-ne-zero}

abbrev pub shape_of : ℕ → ℕ → Form → CodeShape
shape_of d p form = record { «data» = d; parity = p; form = form }

pub video_below : (d p shard : ℕ) → shard < d → video_point d p shard ≡ p + shard
video_below d p shard h = rw (lt-ltb shard d h) refl

pub video_above : (d p shard : ℕ) → d ≤ shard → video_point d p shard ≡ shard - d
video_above d p shard h = rw (le-ltb shard d h) refl

video_in_range : (d p shard : ℕ) → d + p ≤ 255 → shard < d + p → video_point d p shard < 255
video_in_range d p shard fits within = elim (cases_lt shard d) [
  | inl low ↦ omega (arith, video_below d p shard low)
  | inr high ↦ omega (arith, video_above d p shard high)
]

video_apart : (d p a b : ℕ) → a < b → b < d + p → video_point d p a ≢ video_point d p b
video_apart d p a b less within e = elim (cases_lt a d) [
  | inl low_a ↦ elim (cases_lt b d) [
    | inl low_b ↦ omega (arith, video_below d p a low_a, video_below d p b low_b)
    | inr high_b ↦ omega (arith, video_below d p a low_a, video_above d p b high_b)
  ]
  | inr high_a ↦ omega (arith, video_above d p a high_a, video_above d p b (omega arith))
]

audio_in_range_test : all_below 6 (λ a. ltb (get_or audio_points a 0) 256) ≡ true
unfolding all_below
audio_in_range_test = refl

audio_in_range : (shard : ℕ) → shard < 6 → get_or audio_points shard 0 < 256
audio_in_range shard within = ltb-true (get_or audio_points shard 0) 256 (at_below 6 _ audio_in_range_test shard within)

audio_rises_test : all_below 6 (λ b. all_below b (λ a. ltb (get_or audio_points a 0) (get_or audio_points b 0))) ≡ true
unfolding all_below
audio_rises_test = refl

-- the audio points, in order, rise
audio_rises : (a b : ℕ) → a < b → b < 6 → get_or audio_points a 0 < get_or audio_points b 0
audio_rises a b less within =
    ltb-true (get_or audio_points a 0) (get_or audio_points b 0) (at_below b _ (at_below 6 _ audio_rises_test b within) a less)

in_range_of : (d p : ℕ) (form : Form) → IsCode (shape_of d p form) → (shard : ℕ) → shard < d + p → IsByte (point (shape_of d p form) shard)
in_range_of d p Video code shard within = let h = video_in_range d p shard code.points_fit within in omega arith
in_range_of d p Audio code shard within = let h = code.audio_counts refl in audio_in_range shard (omega arith)

pub IsByte-point : (code : CodeShape) → IsCode code → (shard : ℕ) → shard < shard_count code → IsByte (point code shard)
IsByte-point code is shard within = in_range_of code.data code.parity code.form is shard within

apart_of : (d p : ℕ) (form : Form) → IsCode (shape_of d p form) → (a b : ℕ) → a < b → b < d + p
    → point (shape_of d p form) a ≢ point (shape_of d p form) b
apart_of d p Video code a b less within e = video_apart d p a b less within e
apart_of d p Audio code a b less within e =
    let h = code.audio_counts refl in let rises = audio_rises a b less (omega arith) in omega arith

-- two shards stand at two points
pub point-apart : (code : CodeShape) → IsCode code → (a b : ℕ) → a < shard_count code → b < shard_count code → a ≢ b
    → point code a ≢ point code b
point-apart code is a b in_a in_b other e = elim (cases_lt a b) [
  | inl less ↦ apart_of code.data code.parity code.form is a b less in_b e
  | inr more ↦ apart_of code.data code.parity code.form is b a (omega arith) in_a (sym e)
]

pub ArePoints-map : (code : CodeShape) (numbers : List ℕ) → IsCode code → AreEnough code numbers → ArePoints (map (point code) numbers)
ArePoints-map code numbers is enough =
    let size = length-map numbers (point code) in
    record {
      bytes = All-map IsByte (point code) numbers (λ k d h. IsByte-point code is (get_or numbers k d) (enough.in_range k d h));
      distinct = λ i j d less within.
          let in_j : j < length numbers = omega arith in
          let in_i : i < length numbers = omega arith in
          let apart = point-apart code is (get_or numbers i 0) (get_or numbers j 0)
          (enough.in_range i 0 in_i) (enough.in_range j 0 in_j) (enough.distinct i j 0 less in_j) in
          λ e. apart (sym (get_or-map (point code) numbers i 0 d in_i) ∙ e ∙ get_or-map (point code) numbers j 0 d in_j);
    }

pub range_at : (n i d : ℕ) → i < n → get_or (range_with_len 0 n) i d ≡ i
range_at n i d h = get_or-range_with_len 0 n i d h ∙ zero-add i

-- an array that begins with the data points
pub points_from : (code : CodeShape) (points : List ℕ) → code.data ≤ length points → ((i : ℕ) → i < code.data → get_or points i 0 ≡ point code i)
    → take code.data points ≡ data_points code
points_from code points room at =
    let d = code.data in
    let size : length (take d points) ≡ d = length-take-le d points room in
    let count : length (data_points code) ≡ d = length-map-range_with_len (point code) 0 d in
    ext_get_or 0 (take d points) (data_points code) (size ∙ sym count) (λ i h.
    let below : i < d = omega arith in
    get_or-take d points i 0 below ∙ at i below ∙ sym (get_or-map-range_with_len (point code) 0 d i i 0 below (omega arith)))

-- the data shards are enough
pub data_enough : (code : CodeShape) → AreEnough code (range_with_len 0 code.data)
data_enough code =
    let n = code.data in
    let size = length-range_with_len 0 n in
    record {
      count = size;
      in_range = λ k d h. let e = get_or-range_with_len 0 n k d (omega arith) in omega arith;
      distinct = λ i j d less within.
          let ei = get_or-range_with_len 0 n i d (omega arith) in
          let ej = get_or-range_with_len 0 n j d (omega arith) in
          λ e. omega arith;
    }

pub data_points_are : (code : CodeShape) → IsCode code → ArePoints (data_points code)
data_points_are code is = ArePoints-map code (range_with_len 0 code.data) is (data_enough code)

denominator_byte_of : (d p : ℕ) (form : Form) → IsCode (shape_of d p form) → (x : ℕ) → IsByte x → IsByte (denominator (shape_of d p form) x)
denominator_byte_of d p Video is x hx = IsByte-differences (data_points (shape_of d p Video)) x (data_points_are (shape_of d p Video) is).bytes hx
denominator_byte_of d p Audio is x hx = lit< tt

pub IsByte-denominator : (code : CodeShape) → IsCode code → (x : ℕ) → IsByte x → IsByte (denominator code x)
IsByte-denominator code is x hx = denominator_byte_of code.data code.parity code.form is x hx

denominator_not_zero_of : (d p : ℕ) (form : Form) → IsCode (shape_of d p form) → (x : ℕ) → IsByte x → denominator (shape_of d p form) x ≢ 0
denominator_not_zero_of d p Video is x hx = differences-ne-zero (data_points (shape_of d p Video)) x (data_points_are (shape_of d p Video) is).bytes hx
denominator_not_zero_of d p Audio is x hx = λ h. omega arith

pub denominator-ne-zero : (code : CodeShape) → IsCode code → (x : ℕ) → IsByte x → denominator code x ≢ 0
denominator-ne-zero code is x hx = denominator_not_zero_of code.data code.parity code.form is x hx

-- an array that begins with the points of shards
pub points_of_numbers : (code : CodeShape) (numbers points : List ℕ) → length numbers ≡ code.data → code.data ≤ length points
    → ((i : ℕ) → i < length numbers → get_or points i 0 ≡ point code (get_or numbers i 0)) → take code.data points ≡ map (point code) numbers
points_of_numbers code numbers points count room at =
    let d = code.data in
    let size : length (take d points) ≡ d = length-take-le d points room in
    ext_get_or 0 (take d points) (map (point code) numbers) (size ∙ sym (length-map numbers (point code) ∙ count)) (λ i h.
    let below : i < length numbers = omega arith in
    get_or-take d points i 0 (omega arith) ∙ at i below ∙ sym (get_or-map (point code) numbers i 0 0 below))

video≢audio : Video ≡ Audio → ⊥
video≢audio e = cc

pub IsCode-video : (d p : ℕ) → 0 < d → d + p ≤ 255 → IsCode (shape_of d p Video)
IsCode-video d p some fits = record { some_data = some; points_fit = fits; audio_counts = λ e. absurd (video≢audio e) }
