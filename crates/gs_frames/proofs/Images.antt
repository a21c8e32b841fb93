-- The image of a frame, and what a reader of it finds.
use Rattle.std.proofs.Common.{◌≡◌, ◌<◌, ◌≤◌, ◌+◌, ◌-◌, ◌*◌, ◌/◌, ◌%◌, ◌^◌, ℕ, Bool, true, ◌&&◌, ◌||◌, not, List, ◌∷◌, ◌++◌, length, take, drop, replicate, Some}
use Rattle.std.proofs.Common.{None, refl, sym, ap, subst, ◌∙◌, arith, inl, inr, length-append}
use Rattle.std.specs.Prelude.{slice_index, nat_le, ◌==◌, if◌then◌else◌}
use Rattle.std.proofs.lemmas.Bool.{cond-true, cond-false, cases_lt, cases_eq, eq-eqb, ne_eqb, le-leb}
use Rattle.std.proofs.lemmas.List.{length-replicate, take_at}
use Rattle.std.proofs.lemmas.Nat.{div-mul-add, mod-mul-add}
use Rattle.byteorder.specs.Numbers.{little_number-reads_back}
use Rattle.gs_frames.specs.Image.{ceil_div, header_length, packets, last_length, frame_image, Frame, is_kind, kind_of, last_read, most_packets, holds_frame}
use Rattle.gs_frames.specs.Image.{unit_length, frame_of}
use Rattle.gs_frames.specs.ImageLaws.{IsWrittenKind}

-- a number above 0, as whole parts of d and a last part that isn't empty
pub record IsParted (t d : ℕ) : Type 0 where
  pub whole : ℕ
  pub last : ℕ
  pub last_least : 1 ≤ last
  pub last_greatest : last ≤ d
  pub sum : t ≡ whole * d + last

pub parted : (t d : ℕ) → 1 ≤ t → 1 ≤ d → IsParted t d
parted t d some part = record {
  whole = (t - 1) / d;
  last = (t - 1) % d + 1;
  last_least = omega arith;
  last_greatest = omega arith;
  sum = omega arith;
}

-- the parts are whole ones and one more
pub ceil_div-parted : (t d : ℕ) → (p : IsParted t d) → ceil_div t d ≡ p.whole + 1
ceil_div-parted t d p =
    let least : 1 ≤ p.last = p.last_least in
    let greatest : p.last ≤ d = p.last_greatest in
    let turned : t + (d - 1) ≡ (p.whole + 1) * d + (p.last - 1) = omega (arith, p.sum) in
    ap (λ (n : ℕ). n / d) turned ∙ div-mul-add (p.whole + 1) d (p.last - 1) (omega arith)

abbrev last_of : ℕ → ℕ → ℕ
last_of d m = if m == 0 then d else m

last_of-parted : (t d : ℕ) → (p : IsParted t d) → last_of d (t % d) ≡ p.last
last_of-parted t d p =
    let least : 1 ≤ p.last = p.last_least in
    let greatest : p.last ≤ d = p.last_greatest in
    elim (cases_lt p.last d) [
      | inl below ↦
          let rest : t % d ≡ p.last = ap (λ (n : ℕ). n % d) p.sum ∙ mod-mul-add p.whole d p.last below in
          ap (last_of d) rest ∙ cond-false (p.last == 0) d p.last (ne_eqb p.last 0 (λ e. absurd (omega (arith, e))))
      | inr full ↦
          let whole : t ≡ (p.whole + 1) * d + 0 = omega (arith, p.sum) in
          let rest : t % d ≡ 0 = ap (λ (n : ℕ). n % d) whole ∙ mod-mul-add (p.whole + 1) d 0 (omega arith) in
          let same : d ≡ p.last = omega arith in
          ap (last_of d) rest ∙ same
    ]

-- ---- the image of a unit

pub parted_image : (unit payload : ℕ) → 1 ≤ payload → IsParted (header_length + unit) payload
parted_image unit payload part = parted (header_length + unit) payload (omega arith) part

pub last_length-is : (unit payload : ℕ) → (p : IsParted (header_length + unit) payload) → last_length unit payload ≡ p.last
last_length-is unit payload p = last_of-parted (header_length + unit) payload p

pub packets-is : (unit payload : ℕ) → (p : IsParted (header_length + unit) payload) → packets unit payload ≡ p.whole + 1
packets-is unit payload p = ceil_div-parted (header_length + unit) payload p

pub length-frame_image : (kind : ℕ) (unit : List ℕ) (payload : ℕ) → 1 ≤ payload
    → length (frame_image kind unit payload) ≡ packets (length unit) payload * payload
unfolding frame_image
length-frame_image kind unit payload part =
    let p = parted_image (length unit) payload part in
    let greatest : p.last ≤ payload = p.last_greatest in
    let n : packets (length unit) payload ≡ p.whole + 1 = packets-is (length unit) payload p in
    let room : header_length + length unit ≤ packets (length unit) payload * payload =
    let Fits : ℕ → Type 0 = λ k. header_length + length unit ≤ k * payload in subst Fits (sym n) (omega (arith, p.sum)) in
    let zeros = packets (length unit) payload * payload - (header_length + length unit) in
    let rest : length (unit ++ replicate zeros 0) ≡ length unit + zeros =
    length-append unit (replicate zeros 0) ∙ ap (λ (k : ℕ). length unit + k) (length-replicate zeros 0) in
    omega (arith, rest, room)

-- ---- what a reader finds

pub kind_known : (kind : ℕ) → IsWrittenKind kind → (is_kind kind ≡ true) × (kind_of kind ≡ kind)
kind_known kind h =
    let Known : ℕ → Type 0 = λ k. (is_kind k ≡ true) × (kind_of k ≡ k) in
    elim h [
      | inl one ↦ subst Known (sym one) (refl, refl)
      | inr others ↦ elim others [ inl two ↦ subst Known (sym two) (refl, refl) | inr five ↦ subst Known (sym five) (refl, refl) ]
    ]

nine_pass : (a b c d e f g h i : Bool) → a ≡ true → b ≡ true → c ≡ true → d ≡ true → e ≡ true → f ≡ true → g ≡ true → h ≡ true → i ≡ true
    → (a && b && c && d && e && f && g && h && i) ≡ true
nine_pass a b c d e f g h i p q r s t u v w x = rw (p, q, r, s, t, u, v, w, x) refl

-- bytes of n payloads with a header in order
pub record IsOrdered (payload : ℕ) (image : List ℕ) (kind n last : ℕ) (unit rest : List ℕ) : Type 0 where
  pub payload_least : header_length ≤ payload
  pub whole : length image ≡ n * payload
  pub some : 1 ≤ n
  pub few : n ≤ most_packets
  pub mark : slice_index image 0 ≡ 1
  pub kind_is : slice_index image 3 ≡ kind
  pub known : IsWrittenKind kind
  pub last_is : last_read image ≡ last
  pub last_least : 1 ≤ last
  pub last_greatest : last ≤ payload
  pub room : n ≡ 1 → header_length ≤ last
  pub sum : (n - 1) * payload + last ≡ header_length + length unit
  pub unit_is : drop header_length image ≡ unit ++ rest

first_fits : (n last : ℕ) → (n ≡ 1 → header_length ≤ last) → (not (n == 1) || nat_le header_length last) ≡ true
first_fits n last h = elim (cases_eq n 1) [
  | inl one ↦ rw (eq-eqb n 1 one, le-leb header_length last (h one)) refl
  | inr other ↦ rw (ne_eqb n 1 other) refl
]

IsOrdered-tests : {payload : ℕ} {image : List ℕ} {kind n last : ℕ} {unit rest : List ℕ} → IsOrdered payload image kind n last unit rest
    → holds_frame payload image ≡ true
IsOrdered-tests {payload} {image} {kind} {n} {last} {unit} {rest} o =
    let least : 8 ≤ payload = o.payload_least in
    let whole : length image ≡ n * payload + 0 = omega (arith, o.whole) in
    let parts : length image / payload ≡ n = ap (λ (k : ℕ). k / payload) whole ∙ div-mul-add n payload 0 (omega arith) in
    let none : length image % payload ≡ 0 = ap (λ (k : ℕ). k % payload) whole ∙ mod-mul-add n payload 0 (omega arith) in
    let some : 1 ≤ n = o.some in
    let few : n ≤ most_packets = o.few in
    nine_pass (nat_le header_length payload) (length image % payload == 0) (nat_le 1 (length image / payload)) (nat_le (length image / payload) most_packets)
    (slice_index image 0 == 1) (is_kind (slice_index image 3)) (nat_le 1 (last_read image)) (nat_le (last_read image) payload)
    (not (length image / payload == 1) || nat_le header_length (last_read image))
    (le-leb header_length payload o.payload_least) (eq-eqb (length image % payload) 0 none)
    (le-leb 1 (length image / payload) (omega (arith, parts))) (le-leb (length image / payload) most_packets (omega (arith, parts)))
    (eq-eqb (slice_index image 0) 1 o.mark) (ap is_kind o.kind_is ∙ (kind_known kind o.known).0)
    (le-leb 1 (last_read image) (omega (arith, o.last_is, o.last_least))) (le-leb (last_read image) payload (omega (arith, o.last_is, o.last_greatest)))
    (ap (λ (k : ℕ). not (k == 1) || nat_le header_length (last_read image)) parts
    ∙ ap (λ (l : ℕ). not (n == 1) || nat_le header_length l) o.last_is ∙ first_fits n last o.room)

abbrev frame_with : ℕ → List ℕ → Frame
frame_with kind unit = record { kind = kind; unit = unit }

pub IsOrdered-reads : {payload : ℕ} {image : List ℕ} {kind n last : ℕ} {unit rest : List ℕ} → IsOrdered payload image kind n last unit rest
    → frame_of payload image ≡ Some (record { kind = kind; unit = unit })
unfolding frame_of
IsOrdered-reads {payload} {image} {kind} {n} {last} {unit} {rest} o =
    let least : 8 ≤ payload = o.payload_least in
    let whole : length image ≡ n * payload + 0 = omega (arith, o.whole) in
    let parts : length image / payload ≡ n = ap (λ (k : ℕ). k / payload) whole ∙ div-mul-add n payload 0 (omega arith) in
    let long : unit_length payload image ≡ length unit =
    ap (λ (k : ℕ). (k - 1) * payload + last_read image - header_length) parts
    ∙ ap (λ (l : ℕ). (n - 1) * payload + l - header_length) o.last_is
    ∙ ap (λ (l : ℕ). l - header_length) o.sum ∙ omega arith in
    let unit_is : take (unit_length payload image) (drop header_length image) ≡ unit =
    ap (λ (k : ℕ). take k (drop header_length image)) long ∙ ap (take (length unit)) o.unit_is ∙ take_at unit rest (length unit) refl in
    let kind_is : kind_of (slice_index image 3) ≡ kind = ap kind_of o.kind_is ∙ (kind_known kind o.known).1 in
    cond-true (holds_frame payload image)
    (Some (frame_with (kind_of (slice_index image 3)) (take (unit_length payload image) (drop header_length image)))) None (IsOrdered-tests o)
    ∙ ap (λ (k : ℕ). Some (frame_with k (take (unit_length payload image) (drop header_length image)))) kind_is
    ∙ ap (λ (u : List ℕ). Some (frame_with kind u)) unit_is

abbrev zeros_of : List ℕ → ℕ → List ℕ
zeros_of unit payload = replicate (packets (length unit) payload * payload - (header_length + length unit)) 0

frame_image-ordered : (kind : ℕ) (unit : List ℕ) (payload : ℕ) → IsWrittenKind kind → header_length ≤ payload → payload < 2 ^ 16
    → packets (length unit) payload ≤ most_packets → (p : IsParted (header_length + length unit) payload)
    → IsOrdered payload (frame_image kind unit payload) kind (packets (length unit) payload) (last_length (length unit) payload) unit (zeros_of unit payload)
unfolding frame_image
frame_image-ordered kind unit payload known least greatest few p =
    let n : packets (length unit) payload ≡ p.whole + 1 = packets-is (length unit) payload p in
    let last : last_length (length unit) payload ≡ p.last = last_length-is (length unit) payload p in
    let last_least : 1 ≤ p.last = p.last_least in
    let last_greatest : p.last ≤ payload = p.last_greatest in
    record {
      payload_least = least;
      whole = length-frame_image kind unit payload (omega arith);
      some = omega (arith, n);
      few = few;
      mark = refl;
      kind_is = refl;
      known = known;
      last_is = little_number-reads_back 2 (last_length (length unit) payload) (0 ∷ 0 ∷ unit ++ zeros_of unit payload) (omega (arith, last));
      last_least = omega (arith, last);
      last_greatest = omega (arith, last);
      room = λ e. let none : p.whole ≡ 0 = omega (arith, n, e) in
          let only : header_length + length unit ≡ 0 * payload + p.last = p.sum ∙ ap (λ (k : ℕ). k * payload + p.last) none in
          omega (arith, last, only);
      sum = let same : p.whole + 1 - 1 ≡ p.whole = omega arith in
          ap (λ (k : ℕ). (k - 1) * payload + last_length (length unit) payload) n
          ∙ ap (λ (l : ℕ). (p.whole + 1 - 1) * payload + l) last ∙ ap (λ (k : ℕ). k * payload + p.last) same ∙ sym p.sum;
      unit_is = refl;
    }

pub image_is_read : (kind : ℕ) (unit : List ℕ) (payload : ℕ) → IsWrittenKind kind → header_length ≤ payload → payload < 2 ^ 16
    → packets (length unit) payload ≤ most_packets → frame_of payload (frame_image kind unit payload) ≡ Some (record { kind = kind; unit = unit })
image_is_read kind unit payload known least greatest few =
    IsOrdered-reads (frame_image-ordered kind unit payload known least greatest few (parted_image (length unit) payload (omega arith)))
