-- The frames that are handed one after the other, until none waits.
use Rattle.std.proofs.Common.{◌≡◌, ◌≤◌, ◌+◌, ◌-◌, ℕ, suc, List, [], ◌∷◌, ◌++◌, length, map, Option, Some, None, refl, sym, ap, ◌∙◌, arith, length-append}
use Rattle.std.specs.Prelude.{nat_lt, replicate, MatchOption}
use Rattle.std.specs.List.{filter}
use Rattle.std.proofs.lemmas.List.{append-nil, append_assoc, append_cancel_left}
use Rattle.gs_frames.specs.Client.{ClientSettings, HasWindow, Arrival, Datagram}
use Rattle.gs_frames.specs.Received.{taken}
use Rattle.gs_frames.specs.Settled.{settled}
use Rattle.gs_frames.specs.Handed.{Handed, settled_at_resets, handed_through, handed, newly_handed}
use Rattle.gs_frames.proofs.HandedThrough.{through-split}
use Rattle.gs_frames.proofs.HandedGrows.{handed-is, arrival_hands, arrival_hands_few}
use Rattle.gs_depack.specs.declared.depack.Depack.{Depack}
use Rattle.gs_depack.specs.Depack.{Handing, HandsNext, HandsNone}
use Rattle.gs_depack.proofs.Standing.{settled-is_so}
use Rattle.gs_depack.proofs.Arrivals.{since_is_new}
use Rattle.gs_client_core.specs.Given.{frames_of, in_some, in_places}
use Rattle.gs_client_core.specs.Steps.{HandsRest}

-- those handed so far are the first ones
given-few : (d : Depack) (c : ClientSettings) (came : List Arrival) (given : List Handed) → Handing d c came None given
    → length given ≤ length (handed c came)
given-few d c came given handing =
    let rs = taken c came in
    let resets = settled_at_resets c came in
    let all = handed_through c rs resets (settled c rs) in
    let more = filter (λ h. nat_lt d.passed h.frame) all in
    let so = settled-is_so d c came given handing in
    let split = through-split c rs resets d.passed (settled c rs) (omega (arith, so, handing.passed_settled)) in
    let parts : handed c came ≡ given ++ more =
    handed-is c came ∙ split ∙ ap (λ (l : List Handed). l ++ more) (sym handing.are_given) in
    let size = ap (λ (l : List Handed). length l) parts in
    omega (arith, length-append given more)

rest_none : (given rest : List Handed) → given ++ rest ≡ given → rest ≡ []
rest_none given rest e = append_cancel_left given rest [] (e ∙ sym (append-nil given))

-- ---- places

abbrev nothing : ℕ → List (Option ℕ)
nothing n = replicate n None

none_more : (places : List (Option ℕ)) (rest : List Handed) → places ≡ in_some (length places) (frames_of rest) → rest ≡ []
    → None ∷ places ≡ in_some (suc (length places)) (frames_of [])
none_more places rest e none =
    let n = length places in
    let same : n - 0 ≡ n = omega arith in
    let more : suc n - 0 ≡ suc n = omega arith in
    let is : places ≡ nothing n =
    e ∙ ap (λ (l : List Handed). in_some n (frames_of l)) none ∙ ap nothing same in
    ap (λ (l : List (Option ℕ)). None ∷ l) is ∙ sym (ap nothing more)

some_more : (places : List (Option ℕ)) (frame : ℕ) (one : Handed) (rest : List Handed) → one.frame ≡ frame
    → places ≡ in_some (length places) (frames_of rest)
    → Some frame ∷ places ≡ in_some (suc (length places)) (frames_of (one ∷ rest))
some_more places frame one rest is e =
    let n = length places in
    let m = length (frames_of rest) in
    let front = map (λ (x : ℕ). Some x) (frames_of rest) in
    let less : suc n - suc m ≡ n - m = omega arith in
    ap (λ (x : ℕ). Some x ∷ places) (sym is)
    ∙ ap (λ (l : List (Option ℕ)). Some one.frame ∷ l) (e ∙ ap (λ (k : ℕ). front ++ nothing k) (sym less))

-- ---- one after the other

-- no more wait: what is passed by then isn't handed
pub hands-last : (d : Depack) (c : ClientSettings) (came : List Arrival) (given : List Handed) (last : Option ℕ)
    → length (handed c came) ≤ length given
    → MatchOption last (HandsNone d c came None given) (λ frame. HandsNext d c came None given frame)
    → HandsRest d c came given []
hands-last d c came given None few is =
    let all = is.all refl in
    record {
      rest = [];
      all = append-nil given ∙ all.0;
      places_are = refl;
      stands = all.1;
    }
hands-last d c came given (Some frame) few is =
    let more = given-few d c came (given ++ is.one ∷ []) is.stands in
    absurd (omega (arith, length-append given (is.one ∷ [])))

-- the next one, and then the rest
pub hands-one : (d a : Depack) (c : ClientSettings) (came : List Arrival) (given : List Handed) (first : Option ℕ) (places : List (Option ℕ))
    → length (handed c came) ≤ length given + suc (length places)
    → MatchOption first (HandsNone d c came None given) (λ frame. HandsNext d c came None given frame)
    → ((more : List Handed) → length (handed c came) ≤ length more + length places → Handing d c came None more → HandsRest a c came more places)
    → HandsRest a c came given (first ∷ places)
hands-one d a c came given None places few is others =
    let all = is.all refl in
    let size = ap (λ (l : List Handed). length l) all.0 in
    let after = others given (omega arith) is.stands in
    record {
      rest = [];
      all = append-nil given ∙ all.0;
      places_are = none_more places after.rest after.places_are (rest_none given after.rest (after.all ∙ sym all.0));
      stands = after.stands;
    }
hands-one d a c came given (Some frame) places few is others =
    let one = is.one in
    let after = others (given ++ one ∷ []) (omega (arith, length-append given (one ∷ []))) is.stands in
    record {
      rest = one ∷ after.rest;
      all = sym (append_assoc given (one ∷ []) after.rest) ∙ after.all;
      places_are = some_more places frame one after.rest is.is_frame after.places_are;
      stands = after.stands;
    }

-- ---- with one more datagram

pub new-few : (c : ClientSettings) (came : List Arrival) (bytes : List ℕ) → HasWindow c
    → length (handed c (Datagram bytes ∷ came)) ≤ length (handed c came) + 4
new-few c came bytes has =
    let new = newly_handed c (Datagram bytes) came in
    let size = ap (λ (l : List Handed). length l) (arrival_hands c (Datagram bytes) came) in
    let greatest : c.window ≤ 4 = has.greatest in
    omega (arith, length-append (handed c came) new, arrival_hands_few c (Datagram bytes) came has)

pub new-places : (d : Depack) (c : ClientSettings) (came : List Arrival) (bytes : List ℕ) (places : List (Option ℕ)) → length places ≡ 4
    → HandsRest d c (Datagram bytes ∷ came) (handed c came) places
    → places ≡ in_places (frames_of (newly_handed c (Datagram bytes) came))
new-places d c came bytes places four hands =
    hands.places_are
    ∙ ap (λ (n : ℕ). in_some n (frames_of hands.rest)) four
    ∙ ap (λ (l : List Handed). in_places (frames_of l)) (since_is_new c (Datagram bytes) came hands.rest hands.all)
