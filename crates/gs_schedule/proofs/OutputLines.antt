-- Two values have different output lines.
use Rattle.std.proofs.Common.{◌≡◌, ◌⊎◌, inl, inr, ◌<◌, ℕ, lit≤, ◌+◌, ◌*◌, ◌^◌, nat_eq, true, false, subst, ℤ, pos, negsuc, suc, FitsSigned, rules, List, []}
use Rattle.std.proofs.Common.{◌∷◌, ◌++◌, map, refl, sym, ap, ◌∙◌, arith}
use Rattle.std.specs.Prelude.{codes}
use Rattle.std.specs.List.{AllByRecursion}
use Rattle.std.specs.Int.{w64}
use Rattle.std.specs.Fmt.{decimal, signed_decimal}
use Rattle.std.proofs.lemmas.List.Elements.{All-from_recursion}
use Rattle.std.proofs.lemmas.List.Splits.{slice_split_at}
use Rattle.std.proofs.lemmas.Bool.Decides.{nat_tests}
use Rattle.std.specs.Str.Parse.{AllDigits}
use Rattle.std.proofs.lemmas.Str.Parse.{digit_from_value}
use Rattle.std.proofs.lemmas.Bool.{eq-eqb}
use Rattle.std.proofs.lemmas.Fmt.{decimal_injective, decimal_is_IsNumeral, signed_decimal_injective}
use Rattle.gs_bytes.specs.Words.{is_space, words_of, line_of}
use Rattle.gs_input.specs.declared.event.Event.{Event}
use Rattle.gs_input.specs.declared.event.Event.TheVariants.{Unknown}
use Rattle.gs_input.specs.Event.{FitsTypes as EventFits, HasButton, IsEvent, IsKnown}
use Rattle.gs_input.specs.Line.{event_name, arguments_of, event_line}
use Rattle.gs_bytes.proofs.Decimals.{signed_decimal_once}
use Rattle.gs_bytes.proofs.WordLemmas.{HasNoSpace, HaveNoSpace, decimal-no_space, signed_decimal-no_space, words_of-front, words_of-line_of}
use Rattle.gs_input.proofs.Lines.{one_event, words_of-event_line}
use Rattle.gs_schedule.specs.declared.output.Output.{Output}
use Rattle.gs_schedule.specs.declared.output.Output.TheVariants.{Sent, Ask, Hand, Play, Invalid, Idr, Ended, Input, Full, Closed, Lost, Reset, Total, Done}
use Rattle.gs_schedule.specs.Output.{AreWide, FitsOutputTypes, name_and_numbers, output_line, output_words}
use Rattle.gs_schedule.proofs.Keywords.{head, same_list, tail}

numbers-no_space : (numbers : List ℕ) → AreWide numbers → HaveNoSpace (map decimal numbers)
numbers-no_space [] h = tt
numbers-no_space (n ∷ numbers) h = (decimal-no_space n h.0, numbers-no_space numbers h.1)

-- words of which none has a space are those of their line
abbrev IsLineOfWords : List (List ℕ) → Type 0
IsLineOfWords words = words_of (line_of words) ≡ words

of_counted : (name numbers : List ℕ) → HasNoSpace name → AreWide numbers → IsLineOfWords (name_and_numbers name numbers)
of_counted name numbers h hs = words_of-line_of name (map decimal numbers) h (numbers-no_space numbers hs)

words_are : (output : Output) → FitsOutputTypes output → IsLineOfWords (output_words output)
words_are (Sent session frame kind tick reference) h = of_counted (codes "sent") (session ∷ frame ∷ kind ∷ tick ∷ reference ∷ []) (search rules) h
words_are (Ask session first last) h = of_counted (codes "ask") (session ∷ first ∷ last ∷ []) (search rules) h
words_are (Hand session frame kind length) h = of_counted (codes "hand") (session ∷ frame ∷ kind ∷ length ∷ []) (search rules) h
words_are (Play session unit length) h = of_counted (codes "play") (session ∷ unit ∷ length ∷ []) (search rules) h
words_are (Invalid session first last) h = of_counted (codes "invalid") (session ∷ first ∷ last ∷ []) (search rules) h
words_are (Idr session) h = of_counted (codes "idr") (session ∷ []) (search rules) h
words_are (Ended session first last) h =
    words_of-line_of (codes "ended") (decimal session ∷ signed_decimal first ∷ signed_decimal last ∷ []) (search rules)
    (decimal-no_space session h.0, (signed_decimal-no_space first h.1, (signed_decimal-no_space last h.2, tt)))
words_are (Input session channel event) h =
    let behind = decimal channel ++ 32 ∷ event_line event in
    let inner = words_of-front (decimal channel) (event_line event) (decimal-no_space channel h.0.1.0)
    ∙ ap (λ (ws : List (List ℕ)). decimal channel ∷ ws) (words_of-event_line event h.1) in
    let middle = words_of-front (decimal session) behind (decimal-no_space session h.0.0) ∙ ap (λ (ws : List (List ℕ)). decimal session ∷ ws) inner in
    words_of-front (codes "input") (decimal session ++ 32 ∷ behind) (search rules) ∙ ap (λ (ws : List (List ℕ)). codes "input" ∷ ws) middle
words_are (Full session channel) h = of_counted (codes "full") (session ∷ channel ∷ []) (search rules) h
words_are (Closed session) h = of_counted (codes "closed") (session ∷ []) (search rules) h
words_are (Lost session) h = of_counted (codes "lost") (session ∷ []) (search rules) h
words_are (Reset session) h = of_counted (codes "reset") (session ∷ []) (search rules) h
words_are (Total session frames handed asks inputs units) h = of_counted (codes "total") (session ∷ frames ∷ handed ∷ asks ∷ inputs ∷ units ∷ [])
    (search rules) h
words_are Done h = of_counted (codes "ok") [] (search rules) h

-- numbers are told by their words
same_wide : (ms ns : List ℕ) → AreWide ms → AreWide ns → map decimal ms ≡ map decimal ns → ms ≡ ns
same_wide ms ns hm hn e = same_list (2 ^ 64) (lit≤ tt) ms ns hm hn e

-- the first word as a number
abbrev value : List ℕ → ℕ
value [] = 0
value (b ∷ bs) = b + 256 * value bs

abbrev name_value : List (List ℕ) → ℕ
name_value [] = 0
name_value (name ∷ words) = value name

apart : (m n : ℕ) → m ≡ n → nat_eq m n ≡ false → ⊥
apart m n e h = let yes : nat_eq n n ≡ true = eq-eqb n n refl in let no : nat_eq n n ≡ false = subst (λ (x : ℕ). nat_eq x n ≡ false) e h in absurd cc

known_or : (e : Event) → IsKnown e ⊎ ((magic : ℕ) × (e ≡ Unknown magic))
known_or (Unknown magic) = inr (magic, refl)
known_or e = inl tt

not_unknown : (e : Event) → IsKnown e → event_name e ≡ codes "unknown" → ⊥
not_unknown (Unknown magic) known e = known
not_unknown event known e = apart _ _ (ap value e) refl

proper : (e : Event) → IsKnown e → EventFits e × HasButton e → IsEvent e
proper e known h = record { known = known; types = h.0; button = h.1 }

unknown_once : (m n : ℕ) → EventFits (Unknown m) → EventFits (Unknown n) → arguments_of (Unknown m) ≡ arguments_of (Unknown n) → Unknown m ≡ Unknown n
unknown_once m n h k e = ap (λ (magic : ℕ). Unknown magic) (decimal_injective m n (omega (arith, h)) (omega (arith, k)) (head _ _ _ _ e))

-- an event is told by its words
same_event : (e f : Event) → EventFits e × HasButton e → EventFits f × HasButton f → event_name e ∷ arguments_of e ≡ event_name f ∷ arguments_of f → e ≡ f
same_event e f h k w =
    elim (known_or e) [
      | inl known ↦
          elim (known_or f) [
            | inl other ↦ one_event (event_line e) e f (record { proper = proper e known h; text = refl })
                (record { proper = proper f other k; text = ap line_of w })
            | inr other ↦ absurd (not_unknown e known (head _ _ _ _ w ∙ ap event_name other.1))
          ]
      | inr magic ↦
          elim (known_or f) [
            | inl other ↦ absurd (not_unknown f other (sym (head _ _ _ _ w) ∙ ap event_name magic.1))
            | inr other ↦
                let first = subst EventFits magic.1 h.0 in
                let second = subst EventFits other.1 k.0 in
                let arguments = ap arguments_of (sym magic.1) ∙ tail _ _ _ _ w ∙ ap arguments_of other.1 in
                magic.1 ∙ unknown_once magic.0 other.0 first second arguments ∙ sym other.1
          ]
    ]

same_output : (first second : Output) → FitsOutputTypes first → FitsOutputTypes second → output_words first ≡ output_words second → first ≡ second
same_output (Sent a b c d e) (Sent a' b' c' d' e') h k w = let same : a ∷ b ∷ c ∷ d ∷ e ∷ [] ≡ a' ∷ b' ∷ c' ∷ d' ∷ e' ∷ [] =
    same_wide _ _ h k (tail _ _ _ _ w) in cc
same_output (Sent a b c d e) second h k w = absurd (apart _ _ (ap name_value w) refl)
same_output (Ask a b c) (Ask a' b' c') h k w = let same : a ∷ b ∷ c ∷ [] ≡ a' ∷ b' ∷ c' ∷ [] = same_wide _ _ h k (tail _ _ _ _ w) in cc
same_output (Ask a b c) second h k w = absurd (apart _ _ (ap name_value w) refl)
same_output (Hand a b c d) (Hand a' b' c' d') h k w = let same : a ∷ b ∷ c ∷ d ∷ [] ≡ a' ∷ b' ∷ c' ∷ d' ∷ [] = same_wide _ _ h k (tail _ _ _ _ w) in cc
same_output (Hand a b c d) second h k w = absurd (apart _ _ (ap name_value w) refl)
same_output (Play a b c) (Play a' b' c') h k w = let same : a ∷ b ∷ c ∷ [] ≡ a' ∷ b' ∷ c' ∷ [] = same_wide _ _ h k (tail _ _ _ _ w) in cc
same_output (Play a b c) second h k w = absurd (apart _ _ (ap name_value w) refl)
same_output (Invalid a b c) (Invalid a' b' c') h k w = let same : a ∷ b ∷ c ∷ [] ≡ a' ∷ b' ∷ c' ∷ [] = same_wide _ _ h k (tail _ _ _ _ w) in cc
same_output (Invalid a b c) second h k w = absurd (apart _ _ (ap name_value w) refl)
same_output (Idr a) (Idr a') h k w = let same : a ∷ [] ≡ a' ∷ [] = same_wide _ _ h k (tail _ _ _ _ w) in cc
same_output (Idr a) second h k w = absurd (apart _ _ (ap name_value w) refl)
same_output (Ended a b c) (Ended a' b' c') h k w =
    let session : a ≡ a' = decimal_injective a a' h.0 k.0 (cc) in
    let first : b ≡ b' = signed_decimal_once b b' h.1 k.1 (cc) in
    let last : c ≡ c' = signed_decimal_once c c' h.2 k.2 (cc) in
    cc
same_output (Ended a b c) second h k w = absurd (apart _ _ (ap name_value w) refl)
same_output (Input a b e) (Input a' b' e') h k w =
    let session : a ≡ a' = decimal_injective a a' h.0.0 k.0.0 (cc) in
    let channel : b ≡ b' = decimal_injective b b' h.0.1.0 k.0.1.0 (cc) in
    let event : e ≡ e' = same_event e e' (h.1, h.2) (k.1, k.2) (tail _ _ _ _ (tail _ _ _ _ (tail _ _ _ _ w))) in
    cc
same_output (Input a b e) second h k w = absurd (apart _ _ (ap name_value w) refl)
same_output (Full a b) (Full a' b') h k w = let same : a ∷ b ∷ [] ≡ a' ∷ b' ∷ [] = same_wide _ _ h k (tail _ _ _ _ w) in cc
same_output (Full a b) second h k w = absurd (apart _ _ (ap name_value w) refl)
same_output (Closed a) (Closed a') h k w = let same : a ∷ [] ≡ a' ∷ [] = same_wide _ _ h k (tail _ _ _ _ w) in cc
same_output (Closed a) second h k w = absurd (apart _ _ (ap name_value w) refl)
same_output (Lost a) (Lost a') h k w = let same : a ∷ [] ≡ a' ∷ [] = same_wide _ _ h k (tail _ _ _ _ w) in cc
same_output (Lost a) second h k w = absurd (apart _ _ (ap name_value w) refl)
same_output (Reset a) (Reset a') h k w = let same : a ∷ [] ≡ a' ∷ [] = same_wide _ _ h k (tail _ _ _ _ w) in cc
same_output (Reset a) second h k w = absurd (apart _ _ (ap name_value w) refl)
same_output (Total a b c d e f) (Total a' b' c' d' e' f') h k w =
    let same : a ∷ b ∷ c ∷ d ∷ e ∷ f ∷ [] ≡ a' ∷ b' ∷ c' ∷ d' ∷ e' ∷ f' ∷ [] = same_wide _ _ h k (tail _ _ _ _ w) in cc
same_output (Total a b c d e f) second h k w = absurd (apart _ _ (ap name_value w) refl)
same_output Done Done h k w = refl
same_output Done second h k w = absurd (apart _ _ (ap name_value w) refl)

-- lines that end alike are alike
without_end : (xs ys : List ℕ) (b : ℕ) → xs ++ b ∷ [] ≡ ys ++ b ∷ [] → xs ≡ ys
without_end [] [] b e = refl
without_end [] (y ∷ []) b e = absurd cc
without_end [] (y ∷ z ∷ ys) b e = absurd cc
without_end (x ∷ []) [] b e = absurd cc
without_end (x ∷ z ∷ xs) [] b e = absurd cc
without_end (x ∷ xs) (y ∷ ys) b e =
    let first : x ≡ y = cc in
    let others : xs ++ b ∷ [] ≡ ys ++ b ∷ [] = cc in
    let same : xs ≡ ys = without_end xs ys b others in
    cc

pub one_output : (first second : Output) → FitsOutputTypes first → FitsOutputTypes second → output_line first ≡ output_line second → first ≡ second
one_output first second h k e =
    let lines : line_of (output_words first) ≡ line_of (output_words second) = without_end _ _ 10 e in
    same_output first second h k (sym (words_are first h) ∙ ap words_of lines ∙ words_are second k)
