-- The datagrams of a loaded frame, written one after another.
use Rattle.std.proofs.Common.{◌≡◌, ◌+◌, ◌-◌, ◌<◌, ℕ, List, [], ◌∷◌, ◌++◌, Some, length, take, sym, ap, subst, ◌∙◌, arith}
use Rattle.std.specs.List.{slice_get}
use Rattle.std.proofs.lemmas.List.{take_more}
use Rattle.std.proofs.lemmas.Option.{slice_get_within, get_or_from_slice_get}
use Rattle.std.proofs.Math.Seq.{take-length}
use Rattle.gs_frames.specs.Datagrams.{OutgoingFrame, frame_datagrams}
use Rattle.gs_split.specs.Splitting.{Splitting, IsLoaded}

-- the datagram of a number, in the words of a splitter
abbrev pub Writes : Splitting → List ℕ → ℕ → ℕ → List ℕ → Type 0
Writes s unit k long out =
    (sent : OutgoingFrame) → IsLoaded s sent → sent.unit ≡ unit → slice_get (frame_datagrams s.settings sent) k ≡ Some (take long out)

-- the datagram before the next number is the last one written
abbrev pub Wrote : Splitting → List ℕ → ℕ → List ℕ → Type 0
Wrote s unit k out =
    (sent : OutgoingFrame) → IsLoaded s sent → sent.unit ≡ unit → 0 < k
    → slice_get (frame_datagrams s.settings sent) (k - 1) ≡ Some (take (s.settings.packet + 16) out)

pub wrote_next : (s s' : Splitting) (unit : List ℕ) (k long : ℕ) (out : List ℕ) → s' ≡ s → long ≡ s.settings.packet + 16
    → Writes s unit k long out → Wrote s' unit (k + 1) out
wrote_next s s' unit k long out stays is writes =
    let At : Splitting → Type 0 = λ x. Wrote x unit (k + 1) out in
    subst At (sym stays) (λ sent loaded same some.
    let before : k + 1 - 1 ≡ k = omega arith in
    rw before (writes sent loaded same ∙ ap (λ (n : ℕ). Some (take n out)) is))

-- the datagrams before a number are these
abbrev pub AreFirst : Splitting → List ℕ → ℕ → List (List ℕ) → Type 0
AreFirst s unit k all = (sent : OutgoingFrame) → IsLoaded s sent → sent.unit ≡ unit → all ≡ take k (frame_datagrams s.settings sent)

take_one_more : {X : Type 0} (k : ℕ) (xs : List X) (x : X) → slice_get xs k ≡ Some x → take (k + 1) xs ≡ take k xs ++ x ∷ []
take_one_more {X = X} k xs x is =
    take_more xs k x (slice_get_within xs k x is) ∙ ap (λ (y : X). take k xs ++ y ∷ []) (get_or_from_slice_get xs k x x is)

pub first_next : (s s' : Splitting) (unit : List ℕ) (k long : ℕ) (out : List ℕ) (all all' : List (List ℕ)) → s' ≡ s
    → all' ≡ all ++ take long out ∷ [] → Writes s unit k long out → AreFirst s unit k all → AreFirst s' unit (k + 1) all'
first_next s s' unit k long out all all' stays more writes are =
    let At : Splitting → Type 0 = λ x. AreFirst x unit (k + 1) all' in
    subst At (sym stays) (λ sent loaded same.
    let ds : List (List ℕ) = frame_datagrams s.settings sent in
    more ∙ ap (λ (l : List (List ℕ)). l ++ take long out ∷ []) (are sent loaded same)
    ∙ sym (take_one_more k ds (take long out) (writes sent loaded same)))

-- all of them, where the number is the frame's
pub are_all : (s : Splitting) (unit : List ℕ) (k : ℕ) (all : List (List ℕ)) → s.datagrams ≡ k → AreFirst s unit k all
    → (sent : OutgoingFrame) → IsLoaded s sent → sent.unit ≡ unit → all ≡ frame_datagrams s.settings sent
are_all s unit k all many are sent loaded same =
    let ds : List (List ℕ) = frame_datagrams s.settings sent in
    let long : k ≡ length ds = sym many ∙ loaded.datagrams_are in
    are sent loaded same ∙ ap (λ (n : ℕ). take n ds) long ∙ take-length ds
