-- A line has one keyword at most, and what the words behind it spell.
use Rattle.std.proofs.Common.{◌≡◌, inl, inr, ℕ, lit≤, ◌<◌, ◌≤◌, ◌^◌, Bool, true, false, cond, nat_eq, List, [], ◌∷◌, map, Option, Some, None, refl, sym, ap}
use Rattle.std.proofs.Common.{subst, ◌∙◌, arith}
use Rattle.std.specs.Prelude.{codes}
use Rattle.std.specs.Cmp.Lexicographic.{pointwise}
use Rattle.std.specs.List.{AllByRecursion}
use Rattle.std.specs.Bool.{then_some}
use Rattle.std.specs.Option.{IfNone}
use Rattle.std.specs.Fmt.{decimal}
use Rattle.std.proofs.lemmas.Fmt.{decimal_injective}
use Rattle.std.proofs.lemmas.Option.{same_Some}
use Rattle.gs_input.specs.declared.event.Event.{Event}
use Rattle.gs_input.specs.declared.event.Event.TheVariants as event
use Rattle.gs_input.specs.Line.{event_name}
use Rattle.gs_schedule.specs.declared.keyword.Keyword.{Keyword}
use Rattle.gs_schedule.specs.declared.keyword.Keyword.TheVariants as keyword
use Rattle.gs_schedule.specs.declared.step.Step.{Step}
use Rattle.gs_schedule.specs.declared.step.Step.TheVariants.{Blank, Session, Cap, Send, Video, Audio, Videos, Up, Down, Input, Idr, Time, Pump, Close, Reset}
use Rattle.gs_schedule.specs.Keyword.{keyword_text}
use Rattle.gs_schedule.specs.Step.{AreWords, SpellNumbers, IsWindow}

-- the keyword that a word is
keyword_in : List ℕ → Option Keyword
keyword_in word =
    cond (pointwise nat_eq word (codes "session")) (Some keyword.Session)
    (cond (pointwise nat_eq word (codes "cap")) (Some keyword.Cap)
    (cond (pointwise nat_eq word (codes "send")) (Some keyword.Send)
    (cond (pointwise nat_eq word (codes "video")) (Some keyword.Video)
    (cond (pointwise nat_eq word (codes "audio")) (Some keyword.Audio)
    (cond (pointwise nat_eq word (codes "videos")) (Some keyword.Videos)
    (cond (pointwise nat_eq word (codes "up")) (Some keyword.Up)
    (cond (pointwise nat_eq word (codes "down")) (Some keyword.Down)
    (cond (pointwise nat_eq word (codes "idr")) (Some keyword.Idr)
    (cond (pointwise nat_eq word (codes "time")) (Some keyword.Time)
    (cond (pointwise nat_eq word (codes "pump")) (Some keyword.Pump)
    (cond (pointwise nat_eq word (codes "close")) (Some keyword.Close)
    (cond (pointwise nat_eq word (codes "reset")) (Some keyword.Reset) None))))))))))))

keyword_in-text : (k : Keyword) → keyword_in (keyword_text k) ≡ Some k
unfolding keyword_in
keyword_in-text keyword.Session = refl
keyword_in-text keyword.Cap = refl
keyword_in-text keyword.Send = refl
keyword_in-text keyword.Video = refl
keyword_in-text keyword.Audio = refl
keyword_in-text keyword.Videos = refl
keyword_in-text keyword.Up = refl
keyword_in-text keyword.Down = refl
keyword_in-text keyword.Idr = refl
keyword_in-text keyword.Time = refl
keyword_in-text keyword.Pump = refl
keyword_in-text keyword.Close = refl
keyword_in-text keyword.Reset = refl

-- an event has none
keyword_in-event : (e : Event) → keyword_in (event_name e) ≡ None
unfolding keyword_in
keyword_in-event (event.KeyDown code modifiers) = refl
keyword_in-event (event.KeyUp code modifiers) = refl
keyword_in-event (event.Move dx dy) = refl
keyword_in-event (event.At x y width height) = refl
keyword_in-event (event.Press button) = refl
keyword_in-event (event.Release button) = refl
keyword_in-event (event.Scroll amount) = refl
keyword_in-event (event.Unknown magic) = refl

-- a word is one keyword's
pub same_keyword : (k m : Keyword) → keyword_text k ≡ keyword_text m → k ≡ m
same_keyword k m e = same_Some k m (sym (keyword_in-text k) ∙ ap keyword_in e ∙ keyword_in-text m)

pub not_event : (k : Keyword) (e : Event) → keyword_text k ≡ event_name e → ⊥
not_event k e h = let same : Some k ≡ None = sym (keyword_in-text k) ∙ ap keyword_in h ∙ keyword_in-event e in cc

-- what the words behind a keyword say
abbrev pub Says : Keyword → List (List ℕ) → Step → Type 0
Says keyword.Session words step =
    (p q m w : ℕ) × (rest : List (List ℕ)) × (step ≡ Session p q m w) × (p < 2 ^ 32) × (q < 2 ^ 32) × (m < 2 ^ 32)
    × (words ≡ decimal p ∷ decimal q ∷ decimal m ∷ rest) × IsWindow rest w
Says keyword.Cap words step = (step ≡ Cap) × (words ≡ [])
Says keyword.Send words step = (s : ℕ) × (step ≡ Send s) × SpellNumbers words (s ∷ [])
Says keyword.Video words step = (s k : ℕ) × (step ≡ Video s k) × SpellNumbers words (s ∷ k ∷ [])
Says keyword.Audio words step = (s k : ℕ) × (step ≡ Audio s k) × SpellNumbers words (s ∷ k ∷ [])
Says keyword.Videos words step = (s a b : ℕ) × (step ≡ Videos s a b) × SpellNumbers words (s ∷ a ∷ b ∷ []) × (a ≤ b)
Says keyword.Up words step = (s k : ℕ) × (step ≡ Up s k) × SpellNumbers words (s ∷ k ∷ [])
Says keyword.Down words step = (s k : ℕ) × (step ≡ Down s k) × SpellNumbers words (s ∷ k ∷ [])
Says keyword.Idr words step = (s : ℕ) × (step ≡ Idr s) × SpellNumbers words (s ∷ [])
Says keyword.Time words step = (n : ℕ) × (step ≡ Time n) × SpellNumbers words (n ∷ []) × (n ≤ 60000)
Says keyword.Pump words step = (s n : ℕ) × (step ≡ Pump s n) × SpellNumbers words (s ∷ n ∷ [])
Says keyword.Close words step = (s : ℕ) × (step ≡ Close s) × SpellNumbers words (s ∷ [])
Says keyword.Reset words step = (s : ℕ) × (step ≡ Reset s) × SpellNumbers words (s ∷ [])

pub head : (a b : List ℕ) (xs ys : List (List ℕ)) → a ∷ xs ≡ b ∷ ys → a ≡ b
head a b xs ys e = cc

pub tail : (a b : List ℕ) (xs ys : List (List ℕ)) → a ∷ xs ≡ b ∷ ys → xs ≡ ys
tail a b xs ys e = cc

-- the keyword of words that are a step's
told : (k m : Keyword) (words : List (List ℕ)) (numbers : List ℕ) (step : Step) → AllByRecursion (λ n. n < 2 ^ 32) numbers
    → keyword_text k ∷ words ≡ keyword_text m ∷ map decimal numbers → (SpellNumbers words numbers → Says m words step) → Says k words step
told k m words numbers step small e f =
    let is : m ≡ k = same_keyword m k (sym (head _ _ _ _ e)) in
    subst (λ (x : Keyword). Says x words step) is (f (small, tail _ _ _ _ e))

pub says : (k : Keyword) (words : List (List ℕ)) (step : Step) → AreWords (keyword_text k ∷ words) step → Says k words step
says k words Blank h = absurd h
says k words (Session p q m w) (inl h) =
    told k keyword.Session words (p ∷ q ∷ m ∷ w ∷ []) (Session p q m w) h.0 h.1
    (λ r. (p, q, m, w, decimal w ∷ [], refl, r.0.0, r.0.1.0, r.0.1.1.0, r.1, inl ((r.0.1.1.1.0, tt), refl)))
says k words (Session p q m w) (inr h) =
    told k keyword.Session words (p ∷ q ∷ m ∷ []) (Session p q m w) h.1.0 h.1.1
    (λ r. (p, q, m, w, [], refl, r.0.0, r.0.1.0, r.0.1.1.0, r.1, inr (h.0, refl)))
says k words Cap h = told k keyword.Cap words [] Cap h.0 h.1 (λ r. (refl, r.1))
says k words (Send s) h = told k keyword.Send words (s ∷ []) (Send s) h.0 h.1 (λ r. (s, refl, r))
says k words (Video s n) h = told k keyword.Video words (s ∷ n ∷ []) (Video s n) h.0 h.1 (λ r. (s, n, refl, r))
says k words (Audio s n) h = told k keyword.Audio words (s ∷ n ∷ []) (Audio s n) h.0 h.1 (λ r. (s, n, refl, r))
says k words (Videos s a b) h = told k keyword.Videos words (s ∷ a ∷ b ∷ []) (Videos s a b) h.0.0 h.0.1 (λ r. (s, a, b, refl, r, h.1))
says k words (Up s n) h = told k keyword.Up words (s ∷ n ∷ []) (Up s n) h.0 h.1 (λ r. (s, n, refl, r))
says k words (Down s n) h = told k keyword.Down words (s ∷ n ∷ []) (Down s n) h.0 h.1 (λ r. (s, n, refl, r))
says k words (Input s e) h = absurd (not_event k e (head _ _ _ _ h.2))
says k words (Idr s) h = told k keyword.Idr words (s ∷ []) (Idr s) h.0 h.1 (λ r. (s, refl, r))
says k words (Time n) h = told k keyword.Time words (n ∷ []) (Time n) h.0.0 h.0.1 (λ r. (n, refl, r, h.1))
says k words (Pump s n) h = told k keyword.Pump words (s ∷ n ∷ []) (Pump s n) h.0 h.1 (λ r. (s, n, refl, r))
says k words (Close s) h = told k keyword.Close words (s ∷ []) (Close s) h.0 h.1 (λ r. (s, refl, r))
says k words (Reset s) h = told k keyword.Reset words (s ∷ []) (Reset s) h.0 h.1 (λ r. (s, refl, r))

-- numbers are told by their words
pub same_list : (limit : ℕ) → limit ≤ 2 ^ 64 → (ms ns : List ℕ) → AllByRecursion (λ n. n < limit) ms → AllByRecursion (λ n. n < limit) ns
    → map decimal ms ≡ map decimal ns → ms ≡ ns
same_list limit wide [] [] hm hn e = refl
same_list limit wide [] (n ∷ ns) hm hn e = absurd cc
same_list limit wide (m ∷ ms) [] hm hn e = absurd cc
same_list limit wide (m ∷ ms) (n ∷ ns) hm hn e =
    let first : m ≡ n = decimal_injective m n (omega (arith, hm.0)) (omega (arith, hn.0)) (head _ _ _ _ e) in
    let others : ms ≡ ns = same_list limit wide ms ns hm.1 hn.1 (tail _ _ _ _ e) in
    cc

pub same_numbers : (words : List (List ℕ)) (ms ns : List ℕ) → SpellNumbers words ms → SpellNumbers words ns → ms ≡ ns
same_numbers words ms ns h k = same_list (2 ^ 32) (lit≤ tt) ms ns h.0 k.0 (sym h.1 ∙ k.1)

-- where a test keeps a value back, it fails
pub kept_back : {X : Type 0} (b : Bool) (x : X) (o : Option X) (P : Type 0) → o ≡ then_some b x → (b ≡ false → P) → IfNone o P
kept_back true x o P e f = rw e tt
kept_back false x o P e f = rw e (f refl)
