-- A line spells one step at most, which is what is read of it.
use Rattle.std.proofs.Common.{◌≡◌, ◌↔◌, ◌⊎◌, inl, inr, ℕ, ◌<◌, ◌≤◌, ◌^◌, lit≤, List, [], ◌∷◌, Option, Some, None, refl, sym, ap, subst, ◌∙◌, arith}
use Rattle.std.specs.Prelude.{IfSome, IfNone}
use Rattle.std.specs.List.{onto_first, slice_split}
use Rattle.std.specs.Fmt.{decimal}
use Rattle.gs_input.specs.declared.event.Event.{Event}
use Rattle.gs_input.specs.declared.event.Event.TheVariants as event
use Rattle.gs_input.specs.Line.{event_name, arguments_of, event_line}
use Rattle.gs_bytes.specs.Words.{is_space, words_of, line_of}
use Rattle.gs_bytes.proofs.Decimals.{decimal_once}
use Rattle.gs_input.proofs.Lines.{one_event}
use Rattle.gs_schedule.specs.declared.keyword.Keyword.{Keyword}
use Rattle.gs_schedule.specs.declared.keyword.Keyword.TheVariants as keyword
use Rattle.gs_schedule.specs.declared.step.Step.{Step}
use Rattle.gs_schedule.specs.declared.step.Step.TheVariants.{Blank, Session, Cap, Send, Video, Audio, Videos, Up, Down, Input, Idr, Time, Pump, Close, Reset}
use Rattle.gs_schedule.specs.Keyword.{keyword_text}
use Rattle.gs_schedule.specs.Step.{AreWords, IsBlank, IsWindow, Spells}
use Rattle.gs_schedule.proofs.Keywords.{Says, says, head, not_event, same_numbers}

-- the first byte of the first word
first_byte : List (List ℕ) → ℕ
first_byte [] = 0
first_byte ([] ∷ words) = 0
first_byte ((b ∷ word) ∷ words) = b

named_low : (e : Event) (words : List (List ℕ)) → 97 ≤ first_byte (event_name e ∷ words)
unfolding first_byte
named_low (event.KeyDown code modifiers) words = lit≤ tt
named_low (event.KeyUp code modifiers) words = lit≤ tt
named_low (event.Move dx dy) words = lit≤ tt
named_low (event.At x y width height) words = lit≤ tt
named_low (event.Press button) words = lit≤ tt
named_low (event.Release button) words = lit≤ tt
named_low (event.Scroll amount) words = lit≤ tt
named_low (event.Unknown magic) words = lit≤ tt

keyword_low : (k : Keyword) (words : List (List ℕ)) → 97 ≤ first_byte (keyword_text k ∷ words)
unfolding first_byte
keyword_low keyword.Session words = lit≤ tt
keyword_low keyword.Cap words = lit≤ tt
keyword_low keyword.Send words = lit≤ tt
keyword_low keyword.Video words = lit≤ tt
keyword_low keyword.Audio words = lit≤ tt
keyword_low keyword.Videos words = lit≤ tt
keyword_low keyword.Up words = lit≤ tt
keyword_low keyword.Down words = lit≤ tt
keyword_low keyword.Idr words = lit≤ tt
keyword_low keyword.Time words = lit≤ tt
keyword_low keyword.Pump words = lit≤ tt
keyword_low keyword.Close words = lit≤ tt
keyword_low keyword.Reset words = lit≤ tt

-- the words begin with a keyword or with an event's name
Begins : List (List ℕ) → Step → Type 0
Begins words step =
    ((k : Keyword) × (rest : List (List ℕ)) × (words ≡ keyword_text k ∷ rest))
    ⊎ ((session : ℕ) × (e : Event) × (step ≡ Input session e) × AreWords words (Input session e))

begins : (words : List (List ℕ)) (step : Step) → AreWords words step → Begins words step
unfolding Begins
begins words Blank h = absurd h
begins words (Session p q m w) (inl h) = inl (keyword.Session, _, h.1)
begins words (Session p q m w) (inr h) = inl (keyword.Session, _, h.1.1)
begins words Cap h = inl (keyword.Cap, _, h.1)
begins words (Send s) h = inl (keyword.Send, _, h.1)
begins words (Video s n) h = inl (keyword.Video, _, h.1)
begins words (Audio s n) h = inl (keyword.Audio, _, h.1)
begins words (Videos s a b) h = inl (keyword.Videos, _, h.0.1)
begins words (Up s n) h = inl (keyword.Up, _, h.1)
begins words (Down s n) h = inl (keyword.Down, _, h.1)
begins words (Input s e) h = inr (s, e, refl, h)
begins words (Idr s) h = inl (keyword.Idr, _, h.1)
begins words (Time n) h = inl (keyword.Time, _, h.0.1)
begins words (Pump s n) h = inl (keyword.Pump, _, h.1)
begins words (Close s) h = inl (keyword.Close, _, h.1)
begins words (Reset s) h = inl (keyword.Reset, _, h.1)

-- a blank line has no step's words
blank_low : (line : List ℕ) → IsBlank line → first_byte (words_of line) ≤ 35
unfolding first_byte
blank_low [] h = lit≤ tt
blank_low (b ∷ line) h = rw h (hash_low (slice_split is_space line))
  where
    hash_low : (ws : List (List ℕ)) → first_byte (onto_first 35 ws) ≤ 35
    hash_low [] = lit≤ tt
    hash_low (w ∷ ws) = lit≤ tt

not_blank : (line : List ℕ) (step : Step) → IsBlank line → AreWords (words_of line) step → ⊥
unfolding Begins
not_blank line step h words =
    let low = blank_low line h in
    elim (begins (words_of line) step words) [
      | inl found ↦ let high = keyword_low found.0 found.1 in absurd (omega (arith, low, high, ap first_byte found.2))
      | inr found ↦ let high = named_low found.1 (decimal found.0 ∷ arguments_of found.1) in absurd (omega (arith, low, high, ap first_byte found.3.2))
    ]

-- the words behind a session's numbers give one window
window_once : (words : List (List ℕ)) (v w : ℕ) → IsWindow words v → IsWindow words w → v ≡ w
window_once words v w (inl h) (inl k) = let same : v ∷ [] ≡ w ∷ [] = same_numbers words _ _ h k in cc
window_once words v w (inl h) (inr k) = absurd (let e = h.1 in let f = k.1 in cc)
window_once words v w (inr h) (inl k) = absurd (let e = h.1 in let f = k.1 in cc)
window_once words v w (inr h) (inr k) = h.0 ∙ sym k.0

-- the words behind a keyword say one step
said_once : (k : Keyword) (words : List (List ℕ)) (first second : Step) → Says k words first → Says k words second → first ≡ second
said_once keyword.Session words first second h g =
    let same = h.9 in
    let other = g.9 in
    let p : h.0 ≡ g.0 = decimal_once _ _ h.6 g.6 (cc) in
    let q : h.1 ≡ g.1 = decimal_once _ _ h.7 g.7 (cc) in
    let m : h.2 ≡ g.2 = decimal_once _ _ h.8 g.8 (cc) in
    let rest : h.4 ≡ g.4 = cc in
    let w : h.3 ≡ g.3 = window_once g.4 h.3 g.3 (rw (sym rest) h.10) g.10 in
    let e = h.5 in
    let f = g.5 in
    cc
said_once keyword.Cap words first second h g = h.0 ∙ sym g.0
said_once keyword.Send words first second h g = let same : h.0 ∷ [] ≡ g.0 ∷ [] = same_numbers words _ _ h.2 g.2 in let e = h.1 in let f = g.1 in cc
said_once keyword.Video words first second h g = let same : h.0 ∷ h.1 ∷ [] ≡ g.0 ∷ g.1 ∷ [] = same_numbers words _ _ h.3 g.3 in let e = h.2 in let f = g.2 in cc
said_once keyword.Audio words first second h g = let same : h.0 ∷ h.1 ∷ [] ≡ g.0 ∷ g.1 ∷ [] = same_numbers words _ _ h.3 g.3 in let e = h.2 in let f = g.2 in cc
said_once keyword.Videos words first second h g =
    let same : h.0 ∷ h.1 ∷ h.2 ∷ [] ≡ g.0 ∷ g.1 ∷ g.2 ∷ [] = same_numbers words _ _ h.4 g.4 in let e = h.3 in let f = g.3 in cc
said_once keyword.Up words first second h g = let same : h.0 ∷ h.1 ∷ [] ≡ g.0 ∷ g.1 ∷ [] = same_numbers words _ _ h.3 g.3 in let e = h.2 in let f = g.2 in cc
said_once keyword.Down words first second h g = let same : h.0 ∷ h.1 ∷ [] ≡ g.0 ∷ g.1 ∷ [] = same_numbers words _ _ h.3 g.3 in let e = h.2 in let f = g.2 in cc
said_once keyword.Idr words first second h g = let same : h.0 ∷ [] ≡ g.0 ∷ [] = same_numbers words _ _ h.2 g.2 in let e = h.1 in let f = g.1 in cc
said_once keyword.Time words first second h g = let same : h.0 ∷ [] ≡ g.0 ∷ [] = same_numbers words _ _ h.2 g.2 in let e = h.1 in let f = g.1 in cc
said_once keyword.Pump words first second h g = let same : h.0 ∷ h.1 ∷ [] ≡ g.0 ∷ g.1 ∷ [] = same_numbers words _ _ h.3 g.3 in let e = h.2 in let f = g.2 in cc
said_once keyword.Close words first second h g = let same : h.0 ∷ [] ≡ g.0 ∷ [] = same_numbers words _ _ h.2 g.2 in let e = h.1 in let f = g.1 in cc
said_once keyword.Reset words first second h g = let same : h.0 ∷ [] ≡ g.0 ∷ [] = same_numbers words _ _ h.2 g.2 in let e = h.1 in let f = g.1 in cc

-- an event is told by its words
event_once : (words : List (List ℕ)) (s r : ℕ) (e f : Event) → AreWords words (Input s e) → AreWords words (Input r f) → Input s e ≡ Input r f
event_once words s r e f h g =
    let same : event_name e ∷ decimal s ∷ arguments_of e ≡ event_name f ∷ decimal r ∷ arguments_of f = sym h.2 ∙ g.2 in
    let session : s ≡ r = decimal_once s r h.1 g.1 (cc) in
    let line : event_name e ∷ arguments_of e ≡ event_name f ∷ arguments_of f = cc in
    let event : e ≡ f = one_event (event_line e) e f (record { proper = h.0; text = refl }) (record { proper = g.0; text = ap line_of line }) in
    cc

words_once : (words : List (List ℕ)) (first second : Step) → AreWords words first → AreWords words second → first ≡ second
unfolding Begins
words_once words first second h g =
    elim (begins words first h) [
      | inl found ↦
          let at : (step : Step) → AreWords words step → Says found.0 found.1 step =
          λ step k. says found.0 found.1 step (subst (λ (ws : List (List ℕ)). AreWords ws step) found.2 k) in
          said_once found.0 found.1 first second (at first h) (at second g)
      | inr input ↦
          elim (begins words second g) [
            | inl found ↦ absurd (not_event found.0 input.1 (head _ _ _ _ (sym found.2 ∙ input.3.2)))
            | inr other ↦ input.2 ∙ event_once words input.0 other.0 input.1 other.1 input.3 other.3 ∙ sym other.2
          ]
    ]

-- a line that isn't blank spells what its words are
pub spelled : (line : List ℕ) (step : Step) → AreWords (words_of line) step → Spells line step
spelled line Blank h = absurd h
spelled line step h = h

unspelled : (line : List ℕ) (step : Step) → Spells line step → (IsBlank line × (step ≡ Blank)) ⊎ AreWords (words_of line) step
unspelled line Blank h = inl (h, refl)
unspelled line step h = inr h

pub one_step : (line : List ℕ) (first second : Step) → Spells line first → Spells line second → first ≡ second
one_step line first second h g =
    elim (unspelled line first h) [
      | inl blank ↦
          elim (unspelled line second g) [
            | inl other ↦ blank.1 ∙ sym other.1
            | inr words ↦ absurd (not_blank line second blank.0 words)
          ]
      | inr words ↦
          elim (unspelled line second g) [
            | inl other ↦ absurd (not_blank line first other.0 words)
            | inr others ↦ words_once (words_of line) first second words others
          ]
    ]

-- what is read of the words of a line that isn't blank is what it spells
pub reads_line : (line name : List ℕ) (rest : List (List ℕ)) (o : Option Step) → (IsBlank line → ⊥) → words_of line ≡ name ∷ rest
    → IfSome o (λ step. AreWords (name ∷ rest) step) → IfNone o ((step : Step) → AreWords (name ∷ rest) step → ⊥)
    → (step : Step) → (o ≡ Some step) ↔ Spells line step
reads_line line name rest (Some found) busy e some none step =
    let is : Spells line found = spelled line found (rw e some) in
    (λ same. let one : found ≡ step = cc in subst (Spells line) one is, λ h. ap (λ (x : Step). Some x) (one_step line found step is h))
reads_line line name rest None busy e some none step =
    (λ same. absurd cc, λ h. elim (unspelled line step h) [ inl blank ↦ absurd (busy blank.0) | inr words ↦ absurd (none step (rw (sym e) words)) ])

-- the words behind a name that is no keyword are an event's
pub input_only : (name : List ℕ) (rest : List (List ℕ)) → ((k : Keyword) → name ≡ keyword_text k → ⊥)
    → ((session : ℕ) (e : Event) → AreWords (name ∷ rest) (Input session e) → ⊥) → (step : Step) → AreWords (name ∷ rest) step → ⊥
unfolding Begins
input_only name rest other none step h =
    elim (begins (name ∷ rest) step h) [
      | inl found ↦ other found.0 (head _ _ _ _ found.2)
      | inr input ↦ none input.0 input.1 input.3
    ]

-- where nothing is read for one reason, nothing is for another
pub none_by : {X : Type 0} (o : Option X) (P Q : Type 0) → (P → Q) → IfNone o P → IfNone o Q
none_by None P Q f h = f h
none_by (Some x) P Q f h = tt
