-- The head of an image.
use Rattle.std.proofs.Common.{◌≡◌, ◌≤◌, ◌+◌, ◌-◌, ◌*◌, ◌/◌, ◌%◌, ℕ, Bool, true, false, ◌&&◌, ◌||◌, not, List, length, take, drop, Some, None, refl, sym, ap}
use Rattle.std.proofs.Common.{subst, ◌∙◌, arith, inl, inr}
use Rattle.std.specs.Prelude.{slice_index, nat_le, ◌==◌}
use Rattle.std.proofs.lemmas.Bool.{cond-true, cond-false, and_parts, eqb-true, leb-true}
use Rattle.std.proofs.Math.Nat.{div-add-mod}
use Rattle.gs_frames.specs.Image.{header_length, Frame, is_kind as is_known, kind_of, last_read, most_packets, holds_frame, unit_length, frame_of}
use Rattle.gs_depack.specs.ImageHead.{IsHeadOf}

pub frame_of-none : (payload : ℕ) (image : List ℕ) → holds_frame payload image ≡ false → frame_of payload image ≡ None
unfolding frame_of
frame_of-none payload image fails =
    cond-false (holds_frame payload image)
    (Some (record { kind = kind_of (slice_index image 3); unit = take (unit_length payload image) (drop header_length image) })) None fails

pub frame_of-some : (payload : ℕ) (image : List ℕ) → holds_frame payload image ≡ true
    → frame_of payload image ≡ Some (record { kind = kind_of (slice_index image 3); unit = take (unit_length payload image) (drop header_length image) })
unfolding frame_of
frame_of-some payload image passes =
    cond-true (holds_frame payload image)
    (Some (record { kind = kind_of (slice_index image 3); unit = take (unit_length payload image) (drop header_length image) })) None passes

-- what the tests say of the lengths
pub record AreLengths (payload all count last : ℕ) : Type 0 where
  pub payload_least : 8 ≤ payload
  pub count_least : 1 ≤ count
  pub count_most : count ≤ 4092
  pub last_least : 1 ≤ last
  pub last_most : last ≤ payload
  pub whole : all ≡ (count - 1) * payload + payload
  pub first : (count ≡ 1 → 8 ≤ last)

tests-lengths : (payload all count last : ℕ) (mark kind : Bool)
    → (nat_le 8 payload && all % payload == 0 && nat_le 1 count && nat_le count 4092 && mark && kind && nat_le 1 last && nat_le last payload
    && (not (count == 1) || nat_le 8 last)) ≡ true
    → count ≡ all / payload → AreLengths payload all count last
tests-lengths payload all count last mark kind e is_count =
    let t8 = and_parts (nat_le 8 payload && all % payload == 0 && nat_le 1 count && nat_le count 4092 && mark && kind && nat_le 1 last && nat_le last payload)
    (not (count == 1) || nat_le 8 last) e in
    let t7 = and_parts (nat_le 8 payload && all % payload == 0 && nat_le 1 count && nat_le count 4092 && mark && kind
    && nat_le 1 last) (nat_le last payload) t8.0 in
    let t6 = and_parts (nat_le 8 payload && all % payload == 0 && nat_le 1 count && nat_le count 4092 && mark && kind) (nat_le 1 last) t7.0 in
    let t5 = and_parts (nat_le 8 payload && all % payload == 0 && nat_le 1 count && nat_le count 4092 && mark) kind t6.0 in
    let t4 = and_parts (nat_le 8 payload && all % payload == 0 && nat_le 1 count && nat_le count 4092) mark t5.0 in
    let t3 = and_parts (nat_le 8 payload && all % payload == 0 && nat_le 1 count) (nat_le count 4092) t4.0 in
    let t2 = and_parts (nat_le 8 payload && all % payload == 0) (nat_le 1 count) t3.0 in
    let t1 = and_parts (nat_le 8 payload) (all % payload == 0) t2.0 in
    let rest : all % payload ≡ 0 = eqb-true (all % payload) 0 t1.1 in
    let some : 1 ≤ count = leb-true 1 count t2.1 in
    let whole : payload * (all / payload) + all % payload ≡ all = div-add-mod all payload in
    let split : payload * (all / payload) ≡ payload * ((count - 1) + 1) = ap (λ (n : ℕ). payload * n) (sym is_count ∙ one_more count some) in
    record {
      payload_least = leb-true 8 payload t1.0;
      count_least = some;
      count_most = leb-true count 4092 t3.1;
      last_least = leb-true 1 last t6.1;
      last_most = leb-true last payload t7.1;
      whole = omega arith;
      first = λ one. first_says count last one t8.1;
    }
  where
    one_more : (n : ℕ) → 1 ≤ n → n ≡ (n - 1) + 1
    one_more n some = omega arith

    first_says : (n l : ℕ) → n ≡ 1 → (not (n == 1) || nat_le 8 l) ≡ true → 8 ≤ l
    first_says n l one e = grind arith

head-at : (p : ℕ) (image : List ℕ) (kind last : ℕ) → holds_frame p image ≡ true → kind ≡ kind_of (slice_index image 3) → last ≡ last_read image
    → IsHeadOf p image (record { kind = kind; length = (length image / p - 1) * p + last - 8 })
head-at p image kind last passes is_kind is_last =
    let n = length image / p in
    let unit : ℕ → List ℕ = λ l. take ((n - 1) * p + l - 8) (drop header_length image) in
    let are = tests-lengths p (length image) n (last_read image) (slice_index image 0 == 1) (is_known (slice_index image 3)) passes refl in
    record {
      is_image =
          frame_of-some p image passes
          ∙ ap (λ (k : ℕ). Some (record { kind = k; unit = unit (last_read image) })) (sym is_kind)
          ∙ ap (λ (l : ℕ). Some (record { kind = kind; unit = unit l })) (sym is_last);
      room = room_for ((n - 1) * p) p last (length image) (omega (arith, is_last, are.last_most)) are.payload_least are.whole;
    }
  where
    room_for : (full p last all : ℕ) → last ≤ p → 8 ≤ p → all ≡ full + p → 8 + (full + last - 8) ≤ all
    room_for full p last all within least e = omega arith

pub head-is : (payload : ℕ) (image : List ℕ) (p kind last : ℕ) → p ≡ payload → holds_frame p image ≡ true → kind ≡ kind_of (slice_index image 3)
    → last ≡ last_read image → IsHeadOf payload image (record { kind = kind; length = (length image / p - 1) * p + last - 8 })
head-is payload image p kind last same passes is_kind is_last =
    subst (λ (x : ℕ). IsHeadOf x image (record { kind = kind; length = (length image / p - 1) * p + last - 8 })) same
    (head-at p image kind last passes is_kind is_last)
