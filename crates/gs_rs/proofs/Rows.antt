-- The parity rows give the bytes of a codeword: the point form and the row form are one.
use Rattle.std.proofs.Common.{◌≡◌, ◌≢◌, ℕ, ◌+◌, ◌-◌, ◌<◌, ◌≤◌, List, true, eqb, ltb, length, get_or, map, sym, ap, ◌∙◌, subst, refl, bit_xor, arith, inl, inr}
use Rattle.std.proofs.Common.{lit<, lit≤}
use Rattle.std.specs.List.{All, range_with_len}
use Rattle.std.specs.Int.Bits.{xor_comm}
use Rattle.std.proofs.lemmas.Bool.{eqb-true, ltb-true, cases_lt}
use Rattle.std.proofs.lemmas.List.{get_or-map, get_or_past, length-map, ext_get_or}
use Rattle.std.proofs.lemmas.List.Elements.{All-map}
use Rattle.std.proofs.lemmas.List.FromFn.{length-range_with_len}
use Rattle.gs_gf256.specs.Field.{IsByte, product, inverse, polynomial_product, remainder, field_sum}
use Rattle.gs_gf256.proofs.FieldLemmas.{IsByte-product, IsByte-xor, xor-ne-zero, product_comm, product_assoc, product-one_l, product-one_r}
use Rattle.gs_gf256.proofs.FieldSums.{field_sum-same}
use Rattle.gs_gf256.proofs.Inverses.{IsByte-inverse, product-inverse}
use Rattle.gs_gf256.proofs.AllBelow.{all_below, at_below}
use Rattle.gs_poly.specs.Polynomial.{weight}
use Rattle.gs_rs.specs.declared.shape.Form.{Form}
use Rattle.gs_rs.specs.declared.shape.Form.TheVariants.{Video, Audio}
use Rattle.gs_rs.specs.declared.shape.CodeShape.{CodeShape}
use Rattle.gs_rs.specs.Shape.{IsCode, shard_count, point, data_points, audio_row, audio_code, coefficient, differences}
use Rattle.gs_rs.specs.Codeword.{IsCodeword, HasParityRows}
use Rattle.gs_rs.specs.Laws.{AreEnough, PointFormIsRowForm}
use Rattle.gs_poly.proofs.Differences.{IsByte-weight}
use Rattle.gs_rs.proofs.Algebra.{product_cancel_r}
use Rattle.gs_rs.proofs.Differences.{weight_is, IsByte-differences, differences-ne-zero}
use Rattle.gs_rs.proofs.Points.{shape_of, video_above, video_below, IsByte-point, point-apart, range_at, data_enough, data_points_are}
use Rattle.gs_rs.proofs.Codewords.{IsWeight, weighted, word_through}

-- the point of another shard is none of theirs
pub not_among : (code : CodeShape) (numbers : List ℕ) (shard : ℕ) → IsCode code → AreEnough code numbers → shard < shard_count code
    → All (λ n. n ≢ shard) numbers → All (λ q. q ≢ point code shard) (map (point code) numbers)
not_among code numbers shard is enough within other =
    All-map (λ q. q ≢ point code shard) (point code) numbers (λ k d h.
    point-apart code is (get_or numbers k d) shard (enough.in_range k d h) within (other k d h))

data_point : (code : CodeShape) (i : ℕ) → i < code.data → get_or (data_points code) i 0 ≡ point code i
data_point code i h =
    let here : i < length (range_with_len 0 code.data) = omega (arith, length-range_with_len 0 code.data) in
    get_or-map (point code) (range_with_len 0 code.data) i 0 0 here ∙ ap (point code) (range_at code.data i 0 h)

data_points_length : (code : CodeShape) → length (data_points code) ≡ code.data
data_points_length code = length-map (range_with_len 0 code.data) (point code) ∙ length-range_with_len 0 code.data

parity_not_data : (code : CodeShape) (shard : ℕ) → IsCode code → code.data ≤ shard → shard < shard_count code
    → All (λ q. q ≢ point code shard) (data_points code)
parity_not_data code shard is above within =
    not_among code (range_with_len 0 code.data) shard is (data_enough code) within (λ k d h.
    let e = range_at code.data k d (omega (arith, length-range_with_len 0 code.data)) in
    let below : k < code.data = omega (arith, length-range_with_len 0 code.data) in
    λ same. omega arith)

-- the weight of a data point at a parity shard's point
weight_at_parity : (code : CodeShape) (shard i : ℕ) → IsCode code → code.data ≤ shard → shard < shard_count code → i < code.data
    → product (product (weight (data_points code) i (point code shard)) (differences (data_points code) (point code i)))
    (bit_xor (point code shard) (point code i)) ≡ differences (data_points code) (point code shard)
weight_at_parity code shard i is above within h =
    let points = data_points code in
    let x = point code shard in
    let p = get_or points i 0 in
    let e : p ≡ point code i = data_point code i h in
    subst (λ q. product (product (weight points i x) (differences points q)) (bit_xor x q) ≡ differences points x) e
    (weight_is points i x (data_points_are code is) (IsByte-point code is shard within)
    (parity_not_data code shard is above within) (omega (arith, data_points_length code)))

video_coefficient : (d p row i : ℕ) → IsCode (shape_of d p Video) → row < p → i < d
    → IsWeight (shape_of d p Video) (data_points (shape_of d p Video)) i (point (shape_of d p Video) (d + row)) (coefficient (shape_of d p Video) row i)
video_coefficient d p row i is row_in i_in =
    let code = shape_of d p Video in
    let points = data_points code in
    let shard = d + row in
    let within : shard < shard_count code = omega arith in
    let x = point code shard in
    let at_x : x ≡ row = video_above d p shard (omega arith) ∙ omega arith in
    let q = p + i in
    let at_q : get_or points i 0 ≡ q = data_point code i i_in ∙ video_below d p i i_in in
    let hx : IsByte x = IsByte-point code is shard within in
    let in_points : i < length points = omega (arith, data_points_length code) in
    let points_are = data_points_are code is in
    let hp : IsByte (get_or points i 0) = points_are.bytes i 0 in_points in
    let t = weight points i x in
    let ht : IsByte t = IsByte-weight points i points_are in_points x hx in
    let b = differences points (get_or points i 0) in
    let hb : IsByte b = IsByte-differences points (get_or points i 0) points_are.bytes hp in
    let e = bit_xor x (get_or points i 0) in
    let he : IsByte e = IsByte-xor x (get_or points i 0) hx hp in
    let c = inverse e in
    let hc : IsByte c = IsByte-inverse e in
    let not_x = parity_not_data code shard is (omega arith) within in
    let e0 : e ≢ 0 = xor-ne-zero x (get_or points i 0) (λ same. not_x i 0 in_points (sym same)) in
    let htb : IsByte (product t b) = IsByte-product t b ht hb in
    let coefficient_is : coefficient code row i ≡ c =
    ap inverse (ap (λ v. bit_xor v row) (sym at_q) ∙ ap (bit_xor (get_or points i 0)) (sym at_x) ∙ xor_comm (get_or points i 0) x) in
    record {
      byte = IsByte-inverse (bit_xor q row);
      scaled =
          ap (λ v. product v (differences points x)) coefficient_is
          ∙ ap (product c) (sym (weight_is points i x points_are hx not_x in_points))
          ∙ product_comm c (product (product t b) e) hc (IsByte-product (product t b) e htb he)
          ∙ product_assoc (product t b) e c htb he hc
          ∙ ap (product (product t b)) (product-inverse e he e0)
          ∙ product-one_r (product t b) htb
          ∙ product_comm t b ht hb;
    }

audio_test : all_below 2 (λ row. all_below 4 (λ i.
    eqb (product (product (get_or (audio_row row) i 0) (differences (data_points audio_code) (point audio_code i)))
    (bit_xor (point audio_code (4 + row)) (point audio_code i)))
    (differences (data_points audio_code) (point audio_code (4 + row))))) ≡ true
unfolding all_below differences product polynomial_product remainder
audio_test = refl

audio_bytes_test : all_below 2 (λ row. all_below 4 (λ i. ltb (get_or (audio_row row) i 0) 256)) ≡ true
unfolding all_below
audio_bytes_test = refl

pub IsCode-audio : IsCode audio_code
IsCode-audio = record { some_data = lit< tt; points_fit = lit≤ tt; audio_counts = λ e. (refl, refl) }

audio_coefficient : (row i : ℕ) → row < 2 → i < 4
    → IsWeight audio_code (data_points audio_code) i (point audio_code (4 + row)) (coefficient audio_code row i)
audio_coefficient row i row_in i_in =
    let points = data_points audio_code in
    let shard = 4 + row in
    let within : shard < 6 = omega arith in
    let x = point audio_code shard in
    let q = point audio_code i in
    let c = coefficient audio_code row i in
    let t = weight points i x in
    let points_are = data_points_are audio_code IsCode-audio in
    let hx : IsByte x = IsByte-point audio_code IsCode-audio shard within in
    let hq : IsByte q = IsByte-point audio_code IsCode-audio i (omega arith) in
    let hc : IsByte c = ltb-true (get_or (audio_row row) i 0) 256 (at_below 4 _ (at_below 2 _ audio_bytes_test row row_in) i i_in) in
    let ht : IsByte t = IsByte-weight points i points_are (omega (arith, data_points_length audio_code)) x hx in
    let b = differences points q in
    let hb : IsByte b = IsByte-differences points q points_are.bytes hq in
    let b0 : b ≢ 0 = differences-ne-zero points q points_are.bytes hq in
    let e = bit_xor x q in
    let he : IsByte e = IsByte-xor x q hx hq in
    let e0 : e ≢ 0 = xor-ne-zero x q (point-apart audio_code IsCode-audio shard i within (omega arith) (λ same. omega arith)) in
    let by_row : product (product c b) e ≡ differences points x = eqb-true _ _ (at_below 4 _ (at_below 2 _ audio_test row row_in) i i_in) in
    let by_weight = weight_at_parity audio_code shard i IsCode-audio (omega arith) within i_in in
    let same : c ≡ t =
    product_cancel_r c t b hc ht hb b0
    (product_cancel_r (product c b) (product t b) e (IsByte-product c b hc hb) (IsByte-product t b ht hb) he e0 (by_row ∙ sym by_weight)) in
    record {
      byte = hc;
      scaled = product-one_r c hc ∙ same ∙ sym (product-one_l t ht);
    }

coefficient_of : (d p : ℕ) (form : Form) (row i : ℕ) → IsCode (shape_of d p form) → row < p → i < d
    → IsWeight (shape_of d p form) (data_points (shape_of d p form)) i (point (shape_of d p form) (d + row)) (coefficient (shape_of d p form) row i)
coefficient_of d p Video row i is row_in i_in = video_coefficient d p row i is row_in i_in
coefficient_of d p Audio row i is row_in i_in =
    let counts = is.audio_counts refl in
    let same : audio_code ≡ shape_of d p Audio = ap (λ n. shape_of n 2 Audio) (sym counts.0) ∙ ap (λ n. shape_of d n Audio) (sym counts.1) in
    subst (λ c. IsWeight c (data_points c) i (point c (c.data + row)) (coefficient c row i)) same
    (audio_coefficient row i (omega arith) (omega arith))

-- a coefficient is the weight of a data shard in a parity shard
coefficient_is_weight : (code : CodeShape) (row i : ℕ) → IsCode code → row < code.parity → i < code.data
    → IsWeight code (data_points code) i (point code (code.data + row)) (coefficient code row i)
coefficient_is_weight code row i is row_in i_in = coefficient_of code.data code.parity code.form row i is row_in i_in

rows_from_word : (code : CodeShape) (bytes : List ℕ) → IsCode code → IsCodeword code bytes → (row : ℕ) → row < code.parity
    → get_or bytes (code.data + row) 0 ≡ field_sum (λ i. product (coefficient code row i) (get_or bytes i 0)) code.data
rows_from_word code bytes is word row row_in =
    let d = code.data in
    weighted code (range_with_len 0 d) bytes (coefficient code row) (d + row) is (data_enough code) word (omega arith)
    (λ i h. coefficient_is_weight code row i is row_in h)
    ∙ field_sum-same _ _ d (λ i h. ap (λ n. product (coefficient code row i) (get_or bytes n 0)) (range_at d i 0 h))

pub byte_or_zero : (bytes : List ℕ) → All IsByte bytes → (n : ℕ) → IsByte (get_or bytes n 0)
byte_or_zero bytes all n = elim (cases_lt n (length bytes)) [
  | inl low ↦ all n 0 low
  | inr high ↦ let e = get_or_past bytes n 0 high in omega arith
]

word_from_rows : (code : CodeShape) (bytes : List ℕ) → IsCode code → HasParityRows code bytes → IsCodeword code bytes
word_from_rows code bytes is rows =
    let d = code.data in
    let numbers = range_with_len 0 d in
    let found = word_through code numbers (λ n. get_or bytes n 0) is (data_enough code) (byte_or_zero bytes rows.are_bytes) in
    let word = found.0 in
    let word_is = found.1.word_is in
    let on_data : (i : ℕ) → i < d → get_or word i 0 ≡ get_or bytes i 0 = λ i h.
    let e = range_at d i 0 h in
    let here : i < length numbers = omega (arith, length-range_with_len 0 d) in
    subst (λ n. get_or word n 0 ≡ get_or bytes n 0) e (found.1.agrees i 0 here) in
    let same : word ≡ bytes =
    ext_get_or 0 word bytes (word_is.counted ∙ sym rows.counted) (λ n h.
    elim (cases_lt n d) [
      | inl low ↦ on_data n low
      | inr high ↦
          let row = n - d in
          let row_in : row < code.parity = omega (arith, word_is.counted) in
          let at : d + row ≡ n = omega arith in
          subst (λ m. get_or word m 0 ≡ get_or bytes m 0) at
          (rows_from_word code word is word_is row row_in
          ∙ field_sum-same _ _ d (λ i i_in. ap (product (coefficient code row i)) (on_data i i_in))
          ∙ sym (rows.rows row row_in))
    ]) in
    subst (IsCodeword code) same word_is

pub point_form_is_row_form : PointFormIsRowForm
point_form_is_row_form code bytes is = (
  λ word. record { counted = word.counted; are_bytes = word.are_bytes; rows = rows_from_word code bytes is word },
  word_from_rows code bytes is,
)
