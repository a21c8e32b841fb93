-- How much is left of the bytes behind a word and behind the rest of a head.
use Rattle.std.proofs.Common.{◌≡◌, ℕ, ◌≤◌, Bool, List, ◌∷◌, [], length, Result, Ok, Err, ap, subst, length-append, arith}
use Rattle.gs_rtsp_text.specs.declared.stop.Stop.{Stop}
use Rattle.gs_rtsp_text.specs.declared.stop.Stop.TheVariants.{More, Bad}
use Rattle.gs_rtsp_text.specs.Reading.{HeadFields, IsStopWithin, rest_of_head}
use Rattle.gs_rtsp_text.proofs.Parts.{StopsAt, Takes, Meets}
use Rattle.gs_rtsp_text.proofs.Rest.{IsRest, MeetsRest, RestStops, rest_meets}

-- reading a word leaves some of the bytes, or stops within them
pub rest_within : {A : Type 0} (L : List ℕ → A → Type 0) (s : List ℕ) (x : A × List ℕ) → (r : Result (A × List ℕ) Stop) → Meets L s r → r ≡ Ok x
    → length x.1 ≤ length s
rest_within {A} L s x r m e =
    let P : Result (A × List ℕ) Stop → Type 0 = Meets L s in
    let t : Takes L s x.0 x.1 = subst P e m in
    omega (arith, ap length t.parts, length-append t.taken x.1)

pub stop_within : {A : Type 0} (L : List ℕ → A → Type 0) (s : List ℕ) (stop : Stop) → (r : Result (A × List ℕ) Stop) → Meets L s r → r ≡ Err stop
    → IsStopWithin s stop
stop_within L s More r m e = tt
stop_within {A} L s (Bad left) r m e =
    let P : Result (A × List ℕ) Stop → Type 0 = Meets L s in
    let t : StopsAt L s left = subst P e m in
    omega (arith, t.left_is, ap length t.parts, length-append t.front (t.byte ∷ t.rest))

pub lines_within : (may_have : ℕ → Bool) (s : List ℕ) (x : HeadFields × List ℕ) → rest_of_head may_have [] s ≡ Ok x → length x.1 ≤ length s
lines_within may_have s x e =
    let P : Result (HeadFields × List ℕ) Stop → Type 0 = MeetsRest may_have [] s in
    let t : Takes (IsRest may_have []) s x.0 x.1 = subst P e (rest_meets may_have [] s) in
    omega (arith, ap length t.parts, length-append t.taken x.1)

pub lines_stop_within : (may_have : ℕ → Bool) (s : List ℕ) (stop : Stop) → rest_of_head may_have [] s ≡ Err stop → IsStopWithin s stop
lines_stop_within may_have s More e = tt
lines_stop_within may_have s (Bad left) e =
    let P : Result (HeadFields × List ℕ) Stop → Type 0 = MeetsRest may_have [] s in
    let t : RestStops may_have [] s left = subst P e (rest_meets may_have [] s) in
    omega (arith, t.left_is, ap length t.parts, length-append t.front (t.byte ∷ t.rest))
