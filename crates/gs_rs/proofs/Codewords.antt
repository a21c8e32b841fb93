-- A codeword by any of its bytes, as many as there are data shards.
use Rattle.std.proofs.Common.{◌≡◌, ◌≢◌, ℕ, ◌<◌, List, length, get_or, map, sym, ap, ◌∙◌, subst, arith}
use Rattle.std.specs.List.{All, range_with_len}
use Rattle.std.proofs.lemmas.List.{get_or-map, length-map, get_or_default, ext_get_or}
use Rattle.std.proofs.lemmas.List.Elements.{All-map}
use Rattle.std.proofs.lemmas.List.FromFn.{length-map-range_with_len, get_or-map-range_with_len}
use Rattle.gs_gf256.specs.Field.{IsByte, product, quotient, field_sum}
use Rattle.gs_gf256.proofs.FieldLemmas.{IsByte-product, product_comm, product_assoc}
use Rattle.gs_gf256.proofs.FieldSums.{field_sum-same, field_sum-product, IsByte-field_sum}
use Rattle.gs_gf256.proofs.Inverses.{quotient-product}
use Rattle.gs_poly.specs.Polynomial.{value, weight, ArePoints, IsPolynomialBelow, PassesThrough}
use Rattle.gs_rs.specs.declared.shape.CodeShape.{CodeShape}
use Rattle.gs_rs.specs.Shape.{IsCode, shard_count, point, denominator}
use Rattle.gs_rs.specs.Codeword.{IsCodeword}
use Rattle.gs_rs.specs.Laws.{AreEnough}
use Rattle.gs_poly.proofs.PolynomialLemmas.{IsByte-value}
use Rattle.gs_poly.proofs.Interpolation.{interpolation_exists, interpolation_is_unique, interpolation_is_weighted_sum}
use Rattle.gs_poly.proofs.Differences.{IsByte-weight}
use Rattle.gs_rs.proofs.Algebra.{product_cancel_r, IsByte-quotient}
use Rattle.gs_rs.proofs.Points.{IsByte-point, ArePoints-map, IsByte-denominator, denominator-ne-zero}

-- the value that a polynomial has at a shard's point, where the shard's byte is this
abbrev value_under : CodeShape → (ℕ → ℕ) → ℕ → ℕ
value_under code bytes number = product (bytes number) (denominator code (point code number))

IsByte-denominator_of : (code : CodeShape) → IsCode code → (number : ℕ) → number < shard_count code → IsByte (denominator code (point code number))
IsByte-denominator_of code is number within = IsByte-denominator code is (point code number) (IsByte-point code is number within)

denominator_of-ne-zero : (code : CodeShape) → IsCode code → (number : ℕ) → number < shard_count code → denominator code (point code number) ≢ 0
denominator_of-ne-zero code is number within = denominator-ne-zero code is (point code number) (IsByte-point code is number within)

-- the byte of a shard by the value at its point
byte_from_value : (code : CodeShape) → IsCode code → (a b : ℕ → ℕ) (number : ℕ) → number < shard_count code → IsByte (a number) → IsByte (b number)
    → value_under code a number ≡ value_under code b number → a number ≡ b number
byte_from_value code is a b number within ha hb e =
    product_cancel_r (a number) (b number) (denominator code (point code number)) ha hb
    (IsByte-denominator_of code is number within) (denominator_of-ne-zero code is number within) e

pub word_byte : (code : CodeShape) (bytes : List ℕ) → IsCodeword code bytes → (number : ℕ) → number < shard_count code → IsByte (get_or bytes number 0)
word_byte code bytes word number within = word.are_bytes number 0 (omega (arith, word.counted))

passes_through : (code : CodeShape) (numbers bytes : List ℕ) → AreEnough code numbers → (word : IsCodeword code bytes)
    → PassesThrough (map (point code) numbers) (map (value_under code (λ n. get_or bytes n 0)) numbers) word.polynomial
passes_through code numbers bytes enough word =
    let points = map (point code) numbers in
    let size : length points ≡ length numbers = length-map numbers (point code) in
    record {
      polynomial = record {
        degree_below = word.degree.degree_below ∙ sym enough.count ∙ sym size;
        bytes = word.degree.bytes;
      };
      at_points = λ i within.
          let in_i : i < length numbers = omega arith in
          let n = get_or numbers i 0 in
          ap (value word.polynomial) (get_or-map (point code) numbers i 0 0 in_i)
          ∙ sym (word.values n (enough.in_range i 0 in_i))
          ∙ sym (get_or-map (value_under code (λ n. get_or bytes n 0)) numbers i 0 0 in_i);
    }

-- the factor that the byte of point i has in the byte of the shard at x
pub record IsWeight (code : CodeShape) (points : List ℕ) (i x w : ℕ) : Type 0 where
  pub byte : IsByte w
  pub scaled : product w (denominator code x) ≡ product (denominator code (get_or points i 0)) (weight points i x)

-- a byte of a codeword is a weighted sum of as many others as there are data shards
pub weighted : (code : CodeShape) (numbers bytes : List ℕ) (weights : ℕ → ℕ) (shard : ℕ) → IsCode code → AreEnough code numbers
    → IsCodeword code bytes → shard < shard_count code
    → ((i : ℕ) → i < code.data → IsWeight code (map (point code) numbers) i (point code shard) (weights i))
    → get_or bytes shard 0 ≡ field_sum (λ i. product (weights i) (get_or bytes (get_or numbers i 0) 0)) code.data
weighted code numbers bytes weights shard is enough word within are_weights =
    let points = map (point code) numbers in
    let values = map (value_under code (λ n. get_or bytes n 0)) numbers in
    let x = point code shard in
    let w = denominator code x in
    let hx : IsByte x = IsByte-point code is shard within in
    let hw : IsByte w = IsByte-denominator code is x hx in
    let points_are : ArePoints points = ArePoints-map code numbers is enough in
    let size : length points ≡ code.data = length-map numbers (point code) ∙ enough.count in
    let sum = field_sum (λ i. product (weights i) (get_or bytes (get_or numbers i 0) 0)) code.data in
    let in_range : (i : ℕ) → i < code.data → get_or numbers i 0 < shard_count code = λ i h. enough.in_range i 0 (omega (arith, enough.count)) in
    let byte : (i : ℕ) → i < code.data → IsByte (get_or bytes (get_or numbers i 0) 0) =
    λ i h. word_byte code bytes word (get_or numbers i 0) (in_range i h) in
    let sum_byte : IsByte sum = IsByte-field_sum _ code.data (λ i h.
    IsByte-product (weights i) (get_or bytes (get_or numbers i 0) 0) (are_weights i h).byte (byte i h)) in
    let term : (i : ℕ) → i < code.data
    → product (get_or values i 0) (weight points i x) ≡ product (product (weights i) (get_or bytes (get_or numbers i 0) 0)) w =
    λ i h.
    let in_i : i < length numbers = omega (arith, enough.count) in
    let n = get_or numbers i 0 in
    let s = get_or bytes n 0 in
    let k = denominator code (point code n) in
    let t = weight points i x in
    let hs : IsByte s = byte i h in
    let hk : IsByte k = IsByte-denominator_of code is n (in_range i h) in
    let ht : IsByte t = IsByte-weight points i points_are (omega arith) x hx in
    let hwi = (are_weights i h).byte in
    let scaled : product (weights i) w ≡ product k t =
    (are_weights i h).scaled ∙ ap (λ q. product (denominator code q) t) (get_or-map (point code) numbers i 0 0 in_i) in
    ap (λ v. product v t) (get_or-map (value_under code (λ n. get_or bytes n 0)) numbers i 0 0 in_i)
    ∙ product_assoc s k t hs hk ht
    ∙ ap (product s) (sym scaled)
    ∙ sym (product_assoc s (weights i) w hs hwi hw)
    ∙ ap (λ v. product v w) (product_comm s (weights i) hs hwi) in
    product_cancel_r (get_or bytes shard 0) sum w (word_byte code bytes word shard within) sum_byte hw (denominator-ne-zero code is x hx)
    (word.values shard within
    ∙ interpolation_is_weighted_sum points values word.polynomial points_are (passes_through code numbers bytes enough word) x hx
    ∙ ap (field_sum (λ i. product (get_or values i 0) (weight points i x))) size
    ∙ field_sum-same _ _ code.data term
    ∙ sym (field_sum-product (λ i. product (weights i) (get_or bytes (get_or numbers i 0) 0)) code.data w))

-- two codewords that agree there are the same
pub same_words : (code : CodeShape) (numbers a b : List ℕ) → IsCode code → AreEnough code numbers → IsCodeword code a → IsCodeword code b
    → All (λ n. get_or a n 0 ≡ get_or b n 0) numbers → a ≡ b
same_words code numbers a b is enough word_a word_b agree =
    let points = map (point code) numbers in
    let under = λ (bytes : List ℕ). map (value_under code (λ n. get_or bytes n 0)) numbers in
    let same_values : under b ≡ under a =
    ext_get_or 0 (under b) (under a)
    (length-map numbers (value_under code (λ n. get_or b n 0)) ∙ sym (length-map numbers (value_under code (λ n. get_or a n 0))))
    (λ i h.
    let in_i : i < length numbers = omega (arith, length-map numbers (value_under code (λ n. get_or b n 0))) in
    get_or-map (value_under code (λ n. get_or b n 0)) numbers i 0 0 in_i
    ∙ ap (λ v. product v (denominator code (point code (get_or numbers i 0)))) (sym (agree i 0 in_i))
    ∙ sym (get_or-map (value_under code (λ n. get_or a n 0)) numbers i 0 0 in_i)) in
    let same : word_a.polynomial ≡ word_b.polynomial =
    interpolation_is_unique points (under a) word_a.polynomial word_b.polynomial (ArePoints-map code numbers is enough)
    (passes_through code numbers a enough word_a)
    (subst (λ vs. PassesThrough points vs word_b.polynomial) same_values (passes_through code numbers b enough word_b)) in
    ext_get_or 0 a b (word_a.counted ∙ sym word_b.counted) (λ n h.
    let within : n < shard_count code = omega (arith, word_a.counted) in
    byte_from_value code is (λ n. get_or a n 0) (λ n. get_or b n 0) n within (word_byte code a word_a n within) (word_byte code b word_b n within)
    (word_a.values n within ∙ ap (λ cs. value cs (point code n)) same ∙ sym (word_b.values n within)))

-- the codeword that has given bytes there
pub record IsWordThrough (code : CodeShape) (numbers : List ℕ) (given : ℕ → ℕ) (bytes : List ℕ) : Type 0 where
  pub word_is : IsCodeword code bytes
  pub agrees : All (λ n. get_or bytes n 0 ≡ given n) numbers

pub word_through : (code : CodeShape) (numbers : List ℕ) (given : ℕ → ℕ) → IsCode code → AreEnough code numbers → ((n : ℕ) → IsByte (given n))
    → (bytes : List ℕ) × IsWordThrough code numbers given bytes
word_through code numbers given is enough given_bytes =
    let points = map (point code) numbers in
    let values = map (value_under code given) numbers in
    let size : length points ≡ length numbers = length-map numbers (point code) in
    let found = interpolation_exists points values (ArePoints-map code numbers is enough)
    (length-map numbers (value_under code given) ∙ sym size)
    (All-map IsByte (value_under code given) numbers (λ k d h.
    IsByte-product (given (get_or numbers k d)) (denominator code (point code (get_or numbers k d))) (given_bytes (get_or numbers k d))
    (IsByte-denominator_of code is (get_or numbers k d) (enough.in_range k d h)))) in
    let cs = found.0 in
    let below : IsPolynomialBelow code.data cs = record {
      degree_below = found.1.polynomial.degree_below ∙ size ∙ enough.count;
      bytes = found.1.polynomial.bytes;
    } in
    let n = shard_count code in
    let byte_at = λ (shard : ℕ). quotient (value cs (point code shard)) (denominator code (point code shard)) in
    let bytes = map byte_at (range_with_len 0 n) in
    let counted : length bytes ≡ n = length-map-range_with_len byte_at 0 n in
    let at : (shard : ℕ) → shard < n → get_or bytes shard 0 ≡ byte_at shard = λ shard h. get_or-map-range_with_len byte_at 0 n shard shard 0 h (omega arith) in
    let value_byte : (shard : ℕ) → shard < n → IsByte (value cs (point code shard)) = λ shard h.
    IsByte-value cs (point code shard) below.bytes (IsByte-point code is shard h) in
    let are_bytes : All IsByte bytes = λ k d h.
    let within : k < n = omega arith in
    let e : get_or bytes k d ≡ byte_at k = get_or-map-range_with_len byte_at 0 n k k d within (omega arith) in
    subst IsByte (sym e) (IsByte-quotient (value cs (point code k)) (denominator code (point code k)) (value_byte k within)) in
    let values_are : (shard : ℕ) → shard < n → product (get_or bytes shard 0) (denominator code (point code shard)) ≡ value cs (point code shard) = λ shard h.
    ap (λ v. product v (denominator code (point code shard))) (at shard h)
    ∙ quotient-product (value cs (point code shard)) (denominator code (point code shard)) (value_byte shard h)
    (IsByte-denominator_of code is shard h) (denominator_of-ne-zero code is shard h) in
    let word : IsCodeword code bytes = record { counted = counted; are_bytes = are_bytes; polynomial = cs; degree = below; values = values_are } in (
      bytes,
      record {
        word_is = word;
        agrees = λ k d h.
            let number = get_or numbers k d in
            let within = enough.in_range k d h in
            let here : get_or numbers k 0 ≡ number = get_or_default numbers k 0 d h in
            byte_from_value code is (λ n. get_or bytes n 0) given number within (word_byte code bytes word number within) (given_bytes number)
            (values_are number within
            ∙ ap (value cs) (ap (point code) (sym here) ∙ sym (get_or-map (point code) numbers k 0 0 h))
            ∙ found.1.at_points k (omega arith)
            ∙ get_or-map (value_under code given) numbers k 0 0 h
            ∙ ap (value_under code given) here);
      },
    )
