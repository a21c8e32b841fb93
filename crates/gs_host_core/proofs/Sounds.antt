-- The datagrams of audio units, list by list.
use Rattle.std.proofs.Common.{◌≡◌, ◌<◌, ◌≤◌, ◌+◌, ℕ, List, [], ◌∷◌, ◌++◌, length, take, drop, get_or, sym, ap, subst, ◌∙◌, arith}
use Rattle.std.specs.List.{All, flat_map}
use Rattle.std.proofs.lemmas.List.{append-nil, append_assoc, length-append}
use Rattle.std.proofs.lemmas.List.Concat.{flat_map-append}
use Rattle.gs_bytes.specs.declared.addr.Addr.{Addr}
use Rattle.gs_rtp.specs.Stream.{StreamSettings}
use Rattle.gs_rtp.specs.AudioDatagrams.{audio_datagrams}
use Rattle.gs_audio.specs.Sending.{Sending, HasPushed, last_datagrams}
use Rattle.gs_audio.proofs.Sent.{datagrams-grow}
use Rattle.gs_host_core.specs.Puts.{LinkTold, PutsAll, PutsFront}
use Rattle.gs_host_core.specs.Sounds.{sound_behind}
use Rattle.gs_host_core.proofs.Lists.{take_next, split_next}
use Rattle.gs_host_core.proofs.Puts.{puts-more, front-more, front-behind}

-- a unit behind others
front_of : (before : List (List ℕ)) (x : List ℕ) (xs : List (List ℕ)) → (before ++ x ∷ []) ++ xs ≡ before ++ x ∷ xs
front_of before x xs = append_assoc before (x ∷ []) xs

-- those of some units, and then of others
pub sound-more : (s : StreamSettings) (before xs ys : List (List ℕ))
    → sound_behind s before (xs ++ ys) ≡ sound_behind s before xs ++ sound_behind s (before ++ xs) ys
sound-more s before [] ys = ap (λ (l : List (List ℕ)). sound_behind s l ys) (sym (append-nil before))
sound-more s before (x ∷ xs) ys =
    let last = last_datagrams s (before ++ x ∷ []) in
    ap (λ (l : List (List ℕ)). last ++ l) (sound-more s (before ++ x ∷ []) xs ys)
    ∙ sym (append_assoc last (sound_behind s (before ++ x ∷ []) xs) (sound_behind s ((before ++ x ∷ []) ++ xs) ys))
    ∙ ap (λ (l : List (List ℕ)). (last ++ sound_behind s (before ++ x ∷ []) xs) ++ sound_behind s l ys) (front_of before x xs)

-- they are what the stream of all units gains
pub sound-stream : (s : StreamSettings) (before units : List (List ℕ))
    → audio_datagrams s (before ++ units) ≡ audio_datagrams s before ++ sound_behind s before units
sound-stream s before [] = ap (audio_datagrams s) (append-nil before) ∙ sym (append-nil (audio_datagrams s before))
sound-stream s before (x ∷ units) =
    ap (audio_datagrams s) (sym (front_of before x units))
    ∙ sound-stream s (before ++ x ∷ []) units
    ∙ ap (λ (l : List (List ℕ)). l ++ sound_behind s (before ++ x ∷ []) units) (datagrams-grow s before x)
    ∙ append_assoc (audio_datagrams s before) (last_datagrams s (before ++ x ∷ [])) (sound_behind s (before ++ x ∷ []) units)

-- ---- put on a link

-- those of some units were put, and then those of others
pub sound-put : (a b c : LinkTold) (to : Addr) (s : StreamSettings) (before xs ys : List (List ℕ))
    → PutsAll a b to (sound_behind s before xs) → PutsAll b c to (sound_behind s (before ++ xs) ys) → PutsAll a c to (sound_behind s before (xs ++ ys))
sound-put a b c to s before xs ys p q =
    subst (PutsAll a c to) (sym (sound-more s before xs ys)) (puts-more a b c to (sound_behind s before xs) (sound_behind s (before ++ xs) ys) p q)

pub sound-failed : (a b c : LinkTold) (to : Addr) (s : StreamSettings) (before xs ys : List (List ℕ))
    → PutsAll a b to (sound_behind s before xs) → PutsFront b c to (sound_behind s (before ++ xs) ys) → PutsFront a c to (sound_behind s before (xs ++ ys))
sound-failed a b c to s before xs ys p q =
    subst (PutsFront a c to) (sym (sound-more s before xs ys)) (front-more a b c to (sound_behind s before xs) (sound_behind s (before ++ xs) ys) p q)

-- a front of some is one of those and others
pub sound-behind : (a b : LinkTold) (to : Addr) (s : StreamSettings) (before xs ys : List (List ℕ))
    → PutsFront a b to (sound_behind s before xs) → PutsFront a b to (sound_behind s before (xs ++ ys))
sound-behind a b to s before xs ys p =
    subst (PutsFront a b to) (sym (sound-more s before xs ys)) (front-behind a b to (sound_behind s before xs) (sound_behind s (before ++ xs) ys) p)

-- ---- unit by unit

abbrev last_of : StreamSettings → List (List ℕ) → List ℕ → List (List ℕ)
last_of s before u = last_datagrams s (before ++ u ∷ [])

pub unit-put : (a b c : LinkTold) (to : Addr) (s : StreamSettings) (before units : List (List ℕ)) (i : ℕ) (u : List ℕ) → u ≡ get_or units i u → i < length units
    → PutsAll a b to (sound_behind s before (take i units)) → PutsAll b c to (last_datagrams s ((before ++ take i units) ++ u ∷ []))
    → PutsAll a c to (sound_behind s before (take (i + 1) units))
unit-put a b c to s before units i u e h p q =
    subst (λ (l : List (List ℕ)). PutsAll a c to (sound_behind s before l)) (sym (take_next units i u e h))
    (sound-put a b c to s before (take i units) (u ∷ []) p (subst (PutsAll b c to) (sym (append-nil (last_of s (before ++ take i units) u))) q))

pub unit-failed : (a b c : LinkTold) (to : Addr) (s : StreamSettings) (before units : List (List ℕ)) (i : ℕ) (u : List ℕ)
    → u ≡ get_or units i u → i < length units
    → PutsAll a b to (sound_behind s before (take i units)) → PutsFront b c to (last_datagrams s ((before ++ take i units) ++ u ∷ []))
    → PutsFront a c to (sound_behind s before units)
unit-failed a b c to s before units i u e h p q =
    let xs = take i units in
    let rest = drop (i + 1) units in
    subst (λ (l : List (List ℕ)). PutsFront a c to (sound_behind s before l)) (split_next units i u e h)
    (sound-failed a b c to s before xs (u ∷ rest) p
    (front-behind b c to (last_of s (before ++ xs) u) (sound_behind s ((before ++ xs) ++ u ∷ []) rest) q))

pub pushed-next : (sender : Sending) (before units : List (List ℕ)) (i : ℕ) (u : List ℕ) → u ≡ get_or units i u → i < length units
    → HasPushed sender ((before ++ take i units) ++ u ∷ []) → HasPushed sender (before ++ take (i + 1) units)
pushed-next sender before units i u e h p =
    subst (HasPushed sender) (append_assoc before (take i units) (u ∷ []) ∙ ap (λ (l : List (List ℕ)). before ++ l) (sym (take_next units i u e h))) p

-- what is said of the datagrams that are ready behind a push
pub step-last : (s : StreamSettings) (old new : Sending) (ready : ℕ) (l : List (List ℕ)) (u : List ℕ) (Q : List (List ℕ) → Type 0)
    → old.settings ≡ s → new.settings ≡ old.settings → HasPushed old l → ((m : List (List ℕ)) → HasPushed old m → HasPushed new (m ++ u ∷ []))
    → ((m : List (List ℕ)) → HasPushed old m → ready ≡ length (last_datagrams old.settings (m ++ u ∷ [])))
    → ((m : List (List ℕ)) → HasPushed new m → length (last_datagrams new.settings m) ≡ ready → Q (last_datagrams new.settings m))
    → Q (last_datagrams s (l ++ u ∷ []))
step-last s old new ready l u Q so sn p push number whole =
    let all = l ++ u ∷ [] in
    subst (λ (t : StreamSettings). Q (last_datagrams t all)) (sn ∙ so)
    (whole all (push l p) (ap (λ (t : StreamSettings). length (last_datagrams t all)) sn ∙ sym (number l p)))

-- ---- tick by tick

flat-next : {A : Type 0} (ts : List A) (f : A → List (List ℕ)) (i : ℕ) (t : A) (ys : List (List ℕ)) → t ≡ get_or ts i t → i < length ts → ys ≡ f t
    → flat_map f (take (i + 1) ts) ≡ flat_map f (take i ts) ++ ys
flat-next ts f i t ys e h same =
    ap (flat_map f) (take_next ts i t e h)
    ∙ flat_map-append f (take i ts) (t ∷ [])
    ∙ ap (λ (l : List (List ℕ)). flat_map f (take i ts) ++ l) (append-nil (f t) ∙ sym same)

flat-split : {A : Type 0} (ts : List A) (f : A → List (List ℕ)) (i : ℕ) (t : A) (ys : List (List ℕ)) → t ≡ get_or ts i t → i < length ts → ys ≡ f t
    → flat_map f (take i ts) ++ (ys ++ flat_map f (drop (i + 1) ts)) ≡ flat_map f ts
flat-split ts f i t ys e h same =
    ap (λ (l : List (List ℕ)). flat_map f (take i ts) ++ (l ++ flat_map f (drop (i + 1) ts))) same
    ∙ sym (flat_map-append f (take i ts) (t ∷ drop (i + 1) ts))
    ∙ ap (flat_map f) (split_next ts i t e h)

pub flat-length : {A : Type 0} (ts : List A) (f : A → List (List ℕ)) (i : ℕ) (t : A) (ys : List (List ℕ)) → t ≡ get_or ts i t → i < length ts → ys ≡ f t
    → length (flat_map f (take (i + 1) ts)) ≡ length (flat_map f (take i ts)) + length ys
flat-length ts f i t ys e h same = ap length (flat-next ts f i t ys e h same) ∙ length-append (flat_map f (take i ts)) ys

pub flat-few : {A : Type 0} (ts : List A) (f : A → List (List ℕ)) (i : ℕ) (t : A) (ys : List (List ℕ)) → t ≡ get_or ts i t → i < length ts → ys ≡ f t
    → length (flat_map f (take i ts)) + length ys ≤ length (flat_map f ts)
flat-few ts f i t ys e h same =
    let xs = flat_map f (take i ts) in
    let rest = flat_map f (drop (i + 1) ts) in
    omega (arith, ap length (flat-split ts f i t ys e h same), length-append xs (ys ++ rest), length-append ys rest)

pub sizes-at : {A : Type 0} (ts : List A) (f : A → List (List ℕ)) (i : ℕ) (t : A) (ys : List (List ℕ)) (m n : ℕ) → t ≡ get_or ts i t → i < length ts
    → ys ≡ f t → m ≡ n → All (λ x. All (λ unit. length unit ≡ n) (f x)) ts → All (λ unit. length unit ≡ m) ys
sizes-at {A} ts f i t ys m n e h same mn all =
    let here : All (λ unit. length unit ≡ n) (f t) = subst (λ (x : A). All (λ unit. length unit ≡ n) (f x)) (sym e) (all i t h) in
    subst (λ (l : List (List ℕ)). All (λ unit. length unit ≡ m) l) (sym same)
    (subst (λ (k : ℕ). All (λ unit. length unit ≡ k) (f t)) (sym mn) here)

pub ticks-put : {A : Type 0} (a b c : LinkTold) (to : Addr) (s r : StreamSettings) (before : List (List ℕ)) (ts : List A) (f : A → List (List ℕ)) (i : ℕ)
    (t : A) (ys : List (List ℕ)) → t ≡ get_or ts i t → i < length ts → ys ≡ f t → r ≡ s → PutsAll a b to (sound_behind s before (flat_map f (take i ts)))
    → PutsAll b c to (sound_behind r (before ++ flat_map f (take i ts)) ys) → PutsAll a c to (sound_behind s before (flat_map f (take (i + 1) ts)))
ticks-put a b c to s r before ts f i t ys e h same rs p q =
    subst (λ (l : List (List ℕ)). PutsAll a c to (sound_behind s before l)) (sym (flat-next ts f i t ys e h same))
    (sound-put a b c to s before (flat_map f (take i ts)) ys p
    (subst (λ (x : StreamSettings). PutsAll b c to (sound_behind x (before ++ flat_map f (take i ts)) ys)) rs q))

pub ticks-failed : {A : Type 0} (a b c : LinkTold) (to : Addr) (s r : StreamSettings) (before : List (List ℕ)) (ts : List A) (f : A → List (List ℕ)) (i : ℕ)
    (t : A) (ys : List (List ℕ)) → t ≡ get_or ts i t → i < length ts → ys ≡ f t → r ≡ s → PutsAll a b to (sound_behind s before (flat_map f (take i ts)))
    → PutsFront b c to (sound_behind r (before ++ flat_map f (take i ts)) ys) → PutsFront a c to (sound_behind s before (flat_map f ts))
ticks-failed a b c to s r before ts f i t ys e h same rs p q =
    let xs = flat_map f (take i ts) in
    let rest = flat_map f (drop (i + 1) ts) in
    subst (λ (l : List (List ℕ)). PutsFront a c to (sound_behind s before l)) (flat-split ts f i t ys e h same)
    (sound-failed a b c to s before xs (ys ++ rest) p
    (sound-behind b c to s (before ++ xs) ys rest (subst (λ (x : StreamSettings). PutsFront b c to (sound_behind x (before ++ xs) ys)) rs q)))

pub pushed-ticks : {A : Type 0} (sender : Sending) (before : List (List ℕ)) (ts : List A) (f : A → List (List ℕ)) (i : ℕ) (t : A) (ys : List (List ℕ))
    → t ≡ get_or ts i t → i < length ts → ys ≡ f t → HasPushed sender ((before ++ flat_map f (take i ts)) ++ ys)
    → HasPushed sender (before ++ flat_map f (take (i + 1) ts))
pushed-ticks sender before ts f i t ys e h same p =
    subst (HasPushed sender)
    (append_assoc before (flat_map f (take i ts)) ys ∙ ap (λ (l : List (List ℕ)). before ++ l) (sym (flat-next ts f i t ys e h same))) p
