-- Fields at a place of a slice, and what is read back of them.
use Rattle.std.proofs.Common.{◌≡◌, ℕ, ◌+◌, ◌-◌, ◌^◌, ◌<◌, ◌≤◌, List, [], ◌∷◌, ◌++◌, length, take, drop, length-drop, refl, append_assoc, sym, ap, ◌∙◌, arith}
use Rattle.std.proofs.lemmas.List.{append-nil, drop-drop, take_all}
use Rattle.std.proofs.Math.ListN.{drop_of_length-le}
use borrow.Rule.Slice.PartMut.{put_mid}
use Rattle.byteorder.specs.Numbers.{big_from-cons, big_number-reads_back, little_from-cons, little_number-reads_back}
use Rattle.gs_bytes.specs.Field.{big_bytes, big_from, little_bytes, little_from, ReadsBack}

-- the first bytes behind a place become the field, and the others stay
pub put_mid_field : (place n : ℕ) (xs field new : List ℕ) → place + n ≤ length xs
    → new ≡ field ++ drop n (take (length xs - place) (drop place xs))
    → put_mid place (length xs - place) xs new ≡ take place xs ++ field ++ drop (place + n) xs
put_mid_field place n xs field new room is =
    let short : length (drop place xs) ≤ length xs - place = omega (arith, length-drop {A = ℕ} place xs) in
    let whole : take (length xs - place) (drop place xs) ≡ drop place xs = take_all _ _ short in
    let none : drop (length xs - place) (drop place xs) ≡ [] = drop_of_length-le _ short in
    let shape : new ≡ field ++ drop (place + n) xs = is ∙ ap (λ ys. field ++ drop n ys) whole ∙ ap (λ ys. field ++ ys) (drop-drop n place xs) in
    rw (none, append-nil, shape) (sym (append_assoc (take place xs) field (drop (place + n) xs)))

-- bytes in front move the place on
pub big_from-append : (n : ℕ) (front xs : List ℕ) → big_from (length front) n (front ++ xs) ≡ big_from 0 n xs
big_from-append n [] xs = refl
big_from-append n (a ∷ front) xs = big_from-cons (length front) n a (front ++ xs) ∙ big_from-append n front xs

-- bytes in front move the place on
pub little_from-append : (n : ℕ) (front xs : List ℕ) → little_from (length front) n (front ++ xs) ≡ little_from 0 n xs
little_from-append n [] xs = refl
little_from-append n (a ∷ front) xs = little_from-cons (length front) n a (front ++ xs) ∙ little_from-append n front xs

-- what stands in a field is read from its place
pub big_from-big_bytes : (n x : ℕ) (front rest : List ℕ) → x < 256 ^ n → big_from (length front) n (front ++ big_bytes n x ++ rest) ≡ x
big_from-big_bytes n x front rest h =
    ap (big_from (length front) n) (append_assoc front (big_bytes n x) rest)
    ∙ big_from-append n front (big_bytes n x ++ rest) ∙ big_number-reads_back n x rest h

-- what stands in a field is read from its place
pub little_from-little_bytes : (n x : ℕ) (front rest : List ℕ) → x < 256 ^ n → little_from (length front) n (front ++ little_bytes n x ++ rest) ≡ x
little_from-little_bytes n x front rest h =
    ap (little_from (length front) n) (append_assoc front (little_bytes n x) rest)
    ∙ little_from-append n front (little_bytes n x ++ rest) ∙ little_number-reads_back n x rest h

pub reads_back : ReadsBack
reads_back n x front rest h = (big_from-big_bytes n x front rest h, little_from-little_bytes n x front rest h)
