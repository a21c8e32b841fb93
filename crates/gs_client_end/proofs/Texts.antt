-- What is reported, one thing behind the other.
use Rattle.std.proofs.Common.{◌≡◌, ◌+◌, ℕ, suc, List, [], ◌∷◌, ◌++◌, length, get_or, map, Option, Some, None, refl, sym, ap, subst, ◌∙◌, arith}
use Rattle.std.specs.Borrow.{Bor}
use Rattle.std.proofs.lemmas.List.{append_assoc, append-nil, length-append, length-map}
use Rattle.gs_frames.specs.Asks.{as_list}
use Rattle.gs_audio.specs.Units.{units_from}
use Rattle.gs_client_core.specs.declared.given.Given.{Given}
use Rattle.gs_client_core.specs.Given.{handed_at, given_frames}
use Rattle.gs_run.specs.Report.{Report, hand_report, play_report}
use Rattle.gs_report.specs.Reporting.{Reporting}
use Rattle.gs_report.proofs.Reported.{then_more, with_none}
use Rattle.gs_client_end.specs.Steps.{Reported}

-- ---- counted

pub none_counted : {A : Type 0} (f : A → Report) (r : Reporting) → Reported (map f []) 0 r r
none_counted f r = record { count_is = refl; text = sym (with_none r) }

pub more_counted : (before mid now : Reporting) (xs ys : List Report) (m n sum : ℕ) → Reported xs m before mid → Reported ys n mid now
    → sum ≡ m + n → Reported (xs ++ ys) sum before now
more_counted before mid now xs ys m n sum first second is =
    let size = length-append xs ys in
    record {
      count_is = is ∙ omega (arith, first.count_is, second.count_is, size);
      text = then_more before mid now xs ys first.text second.text;
    }

-- as many as what they are reported of
pub counted_of : {A : Type 0} (f : A → Report) (xs : List A) (count : ℕ) (before now : Reporting) → Reported (map f xs) count before now
    → count ≡ length xs
counted_of f xs count before now r = r.count_is ∙ length-map xs f

-- ---- in places

of_four : {A : Type 0} (xs : List A) (d : A) → length xs ≡ 4
    → xs ≡ get_or xs 0 d ∷ get_or xs 1 d ∷ get_or xs 2 d ∷ get_or xs 3 d ∷ []
of_four [] d four = absurd (omega arith)
of_four (a ∷ []) d four = absurd (omega arith)
of_four (a ∷ b ∷ []) d four = absurd (omega arith)
of_four (a ∷ b ∷ e ∷ []) d four = absurd (omega arith)
of_four (a ∷ b ∷ e ∷ f ∷ []) d four = refl
of_four (a ∷ b ∷ e ∷ f ∷ g ∷ more) d four = absurd (omega arith)

-- four lists, one behind the other
four_counted : (xs ys zs vs : List Report) (i j k l : ℕ) (a b c d e : Reporting) → Reported xs i a b → Reported ys j b c → Reported zs k c d
    → Reported vs l d e → Reported (((xs ++ ys) ++ zs) ++ vs) (i + j + k + l) a e
four_counted xs ys zs vs i j k l a b c d e first second third fourth =
    more_counted a d e ((xs ++ ys) ++ zs) vs (i + j + k) l (i + j + k + l)
    (more_counted a c d (xs ++ ys) zs (i + j) k (i + j + k) (more_counted a b c xs ys i j (i + j) first second refl) third refl) fourth refl

one_place : (session : ℕ) (u : Option Given) (us : List (Option Given))
    → map (hand_report session) (given_frames (u ∷ us))
    ≡ map (hand_report session) (as_list (handed_at u)) ++ map (hand_report session) (given_frames us)
one_place session None us = refl
one_place session (Some g) us = refl

four_places : (session : ℕ) (a b c d : Option Given)
    → map (hand_report session) (given_frames (a ∷ b ∷ c ∷ d ∷ []))
    ≡ ((map (hand_report session) (as_list (handed_at a)) ++ map (hand_report session) (as_list (handed_at b)))
    ++ map (hand_report session) (as_list (handed_at c))) ++ map (hand_report session) (as_list (handed_at d))
four_places session a b c d =
    let f : Option Given → List Report = λ (u : Option Given). map (hand_report session) (as_list (handed_at u)) in
    one_place session a (b ∷ c ∷ d ∷ [])
    ∙ ap (λ (l : List Report). f a ++ l) (one_place session b (c ∷ d ∷ []))
    ∙ ap (λ (l : List Report). f a ++ (f b ++ l)) (one_place session c (d ∷ []))
    ∙ ap (λ (l : List Report). f a ++ (f b ++ (f c ++ l))) (one_place session d [] ∙ append-nil (f d))
    ∙ sym (append_assoc (f a) (f b) (f c ++ f d))
    ∙ sym (append_assoc (f a ++ f b) (f c) (f d))

-- of four places
pub frames_counted : (session : ℕ) (frames : List (Option Given)) (i j k l : ℕ) (a b c d e : Reporting) → length frames ≡ 4
    → Reported (map (hand_report session) (as_list (handed_at (get_or frames 0 None)))) i a b
    → Reported (map (hand_report session) (as_list (handed_at (get_or frames 1 None)))) j b c
    → Reported (map (hand_report session) (as_list (handed_at (get_or frames 2 None)))) k c d
    → Reported (map (hand_report session) (as_list (handed_at (get_or frames 3 None)))) l d e
    → Reported (map (hand_report session) (given_frames frames)) (i + j + k + l) a e
frames_counted session frames i j k l a b c d e four first second third fourth =
    let parts = ap (λ (us : List (Option Given)). map (hand_report session) (given_frames us)) (of_four frames None four)
    ∙ four_places session (get_or frames 0 None) (get_or frames 1 None) (get_or frames 2 None) (get_or frames 3 None) in
    subst (λ (rs : List Report). Reported rs (i + j + k + l) a e) (sym parts) (four_counted _ _ _ _ i j k l a b c d e first second third fourth)

one_unit : (session number : ℕ) (u : Option (Bor (List ℕ))) (us : List (Option (Bor (List ℕ))))
    → map (play_report session) (units_from number (u ∷ us))
    ≡ map (play_report session) (units_from number (u ∷ [])) ++ map (play_report session) (units_from (suc number) us)
one_unit session number None us = refl
one_unit session number (Some unit) us = refl

four_units : (session number : ℕ) (a b c d : Option (Bor (List ℕ)))
    → map (play_report session) (units_from number (a ∷ b ∷ c ∷ d ∷ []))
    ≡ ((map (play_report session) (units_from number (a ∷ []))
    ++ map (play_report session) (units_from (number + 1) (b ∷ [])))
    ++ map (play_report session) (units_from (number + 2) (c ∷ [])))
    ++ map (play_report session) (units_from (number + 3) (d ∷ []))
four_units session number a b c d =
    let f : ℕ → Option (Bor (List ℕ)) → List Report =
    λ (n : ℕ) (u : Option (Bor (List ℕ))). map (play_report session) (units_from n (u ∷ [])) in
    let one : suc number ≡ number + 1 = omega arith in
    let two : suc (suc number) ≡ number + 2 = omega arith in
    let three : suc (suc (suc number)) ≡ number + 3 = omega arith in
    one_unit session number a (b ∷ c ∷ d ∷ [])
    ∙ ap (λ (l : List Report). f number a ++ l) (one_unit session (suc number) b (c ∷ d ∷ []))
    ∙ ap (λ (l : List Report). f number a ++ (f (suc number) b ++ l)) (one_unit session (suc (suc number)) c (d ∷ []))
    ∙ ap (λ (n : ℕ). f number a ++ (f n b ++ (f (suc (suc number)) c ++ f (suc (suc (suc number))) d))) one
    ∙ ap (λ (n : ℕ). f number a ++ (f (number + 1) b ++ (f n c ++ f (suc (suc (suc number))) d))) two
    ∙ ap (λ (n : ℕ). f number a ++ (f (number + 1) b ++ (f (number + 2) c ++ f n d))) three
    ∙ sym (append_assoc (f number a) (f (number + 1) b) (f (number + 2) c ++ f (number + 3) d))
    ∙ sym (append_assoc (f number a ++ f (number + 1) b) (f (number + 2) c) (f (number + 3) d))

pub units_counted : (session number : ℕ) (units : List (Option (Bor (List ℕ)))) (i j k l : ℕ) (a b c d e : Reporting) → length units ≡ 4
    → Reported (map (play_report session) (units_from number (get_or units 0 None ∷ []))) i a b
    → Reported (map (play_report session) (units_from (number + 1) (get_or units 1 None ∷ []))) j b c
    → Reported (map (play_report session) (units_from (number + 2) (get_or units 2 None ∷ []))) k c d
    → Reported (map (play_report session) (units_from (number + 3) (get_or units 3 None ∷ []))) l d e
    → Reported (map (play_report session) (units_from number units)) (i + j + k + l) a e
units_counted session number units i j k l a b c d e four first second third fourth =
    let parts = ap (λ (us : List (Option (Bor (List ℕ)))). map (play_report session) (units_from number us)) (of_four units None four)
    ∙ four_units session number (get_or units 0 None) (get_or units 1 None) (get_or units 2 None) (get_or units 3 None) in
    subst (λ (rs : List Report). Reported rs (i + j + k + l) a e) (sym parts) (four_counted _ _ _ _ i j k l a b c d e first second third fourth)
