-- A slice that is written from its start, field after field.
use Rattle.std.proofs.Common.{◌≡◌, ◌≤◌, ◌<◌, ◌+◌, ◌-◌, ℕ, List, [], ◌∷◌, ◌++◌, length, take, drop, set, sym, ap, ◌∙◌, arith, append_assoc, length-append}
use Rattle.std.proofs.Common.{add-one, drop-cons, slice_index}
use Rattle.std.proofs.lemmas.List.{append-nil, drop_all, drop_at, drop-drop, length-drop, take_all, take_at}
use Rattle.std.proofs.Math.Seq.{set-append_seam}
use Rattle.std.specs.List.{between}
use borrow.Rule.Slice.PartMut.{put_mid}

-- `now` is `was` with its first `place` bytes written over
pub record IsWritten (place : ℕ) (was bytes now : List ℕ) : Type 0 where
  pub place_is : length bytes ≡ place
  pub room : place ≤ length was
  pub now_is : now ≡ bytes ++ drop place was

-- a byte more
pub IsWritten-set : (place : ℕ) (was bytes now : List ℕ) (x : ℕ) → place < length was → IsWritten place was bytes now
    → IsWritten (place + 1) was (bytes ++ x ∷ []) (set now place x)
IsWritten-set place was bytes now x room h =
    let byte : drop place was ≡ slice_index was place ∷ drop (place + 1) was = rw add-one (drop-cons was place 0 room) in
    let at_end : set (bytes ++ drop place was) place x ≡ set (bytes ++ slice_index was place ∷ drop (place + 1) was) (length bytes) x =
    ap (λ (l : List ℕ). set (bytes ++ l) place x) byte ∙ ap (λ (i : ℕ). set (bytes ++ slice_index was place ∷ drop (place + 1) was) i x) (sym h.place_is) in
    let shown : set (bytes ++ drop place was) place x ≡ (bytes ++ x ∷ []) ++ drop (place + 1) was =
    at_end ∙ set-append_seam bytes (slice_index was place) (drop (place + 1) was) x ∙ sym (append_assoc bytes (x ∷ []) (drop (place + 1) was)) in
    record {
      place_is = omega (arith, length-append bytes (x ∷ []), h.place_is);
      room = omega arith;
      now_is = ap (λ (l : List ℕ). set l place x) h.now_is ∙ shown;
    }

-- a field of n bytes more, written through `&mut now[place..]`
pub IsWritten-field : (place n : ℕ) (was bytes now field part : List ℕ) → place + n ≤ length was → length field ≡ n → IsWritten place was bytes now
    → part ≡ field ++ drop n (between place (length now) now)
    → IsWritten (place + n) was (bytes ++ field) (put_mid place (length now - place) now part)
IsWritten-field place n was bytes now field part room len h wrote =
    let whole : length now ≡ length was = omega (arith, ap length h.now_is, length-append bytes (drop place was), length-drop place was, h.place_is, h.room) in
    let front : take place now ≡ bytes = ap (take place) h.now_is ∙ take_at bytes (drop place was) place h.place_is in
    let back : drop place now ≡ drop place was = ap (drop place) h.now_is ∙ drop_at bytes (drop place was) place h.place_is in
    let rest : between place (length now) now ≡ drop place was = take_all (length now - place) (drop place now) (omega (arith, length-drop place now)) ∙ back in
    let after : part ≡ field ++ drop (place + n) was = wrote ∙ ap (λ (l : List ℕ). field ++ drop n l) rest
    ∙ ap (λ (l : List ℕ). field ++ l) (drop-drop n place was) in
    let none : drop (length now - place) (drop place now) ≡ [] = drop_all (length now - place) (drop place now) (omega (arith, length-drop place now)) in
    record {
      place_is = omega (arith, length-append bytes field, h.place_is);
      room = room;
      now_is = ap (λ (l : List ℕ). take place now ++ (part ++ l)) none ∙ ap (λ (l : List ℕ). take place now ++ l) (append-nil part ∙ after)
          ∙ ap (λ (l : List ℕ). l ++ (field ++ drop (place + n) was)) front ∙ sym (append_assoc bytes field (drop (place + n) was));
    }
