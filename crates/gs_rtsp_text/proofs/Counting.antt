-- What header lines give, counted one after the other without a copy of them.
use Rattle.std.proofs.Common.{◌≡◌, ℕ, zero, suc, ◌+◌, Bool, true, false, cond, ltb, ◌||◌, min, List, [], ◌∷◌, ◌++◌, length, length-append, Option, Some, None}
use Rattle.std.proofs.Common.{Result, Ok, Err, refl, sym, ap, ◌∙◌, arith, zero-add}
use Rattle.std.proofs.lemmas.Bool.Decides.{nat_tests}
use Rattle.std.proofs.lemmas.List.{append-nil}
use Rattle.std.proofs.lemmas.List.Elements.{filter-append}
use Rattle.std.proofs.lemmas.List.Sums.{sum_by-append}
use Rattle.gs_bytes.specs.Numbers.{decimal_up_to}
use Rattle.gs_rtsp_text.specs.declared.head.Kind.{Kind}
use Rattle.gs_rtsp_text.specs.declared.head.Kind.TheVariants as kinds
use Rattle.gs_rtsp_text.specs.declared.header.Header.{Header}
use Rattle.gs_rtsp_text.specs.declared.stop.Stop.{Stop}
use Rattle.gs_rtsp_text.specs.Bytes.{crlf}
use Rattle.gs_rtsp_text.specs.Lines.{body_length, content_lengths, cseq_count, is_content_length, is_cseq, length_by, most_body}
use Rattle.gs_rtsp_text.specs.Message.{count_test}
use Rattle.gs_rtsp_text.specs.Reading.{HeadFields, head_fields}
use Rattle.gs_rtsp_text.specs.Reading.{◌>>=◌, HasRest, IsRestOf, begins_with_cr, empty_line_at, header_at, length_if_right, literal_at, rest_of_head}
use Rattle.gs_rtsp_text.proofs.Rest.{rest_at_empty_line, rest_at_header, rest_at_stop}

-- these numbers are those of some headers, behind which reading goes on
pub record Counted (kind : Kind) (sequences : ℕ) (given : Bool) (size : Option ℕ) (bytes rest : List ℕ) : Type 0 where
  pub headers : List Header
  pub sequences_are : sequences ≡ min (cseq_count headers) 2
  pub given_is : given ≡ ltb 0 (length (content_lengths headers))
  pub size_is : size ≡ body_length headers
  pub so_far : rest_of_head (count_test kind) headers rest ≡ rest_of_head (count_test kind) [] bytes

pub none_counted : (kind : Kind) (bytes : List ℕ) → Counted kind 0 false (Some 0) bytes bytes
none_counted kind bytes = record { headers = []; sequences_are = refl; given_is = refl; size_is = refl; so_far = refl }

-- ---- one header more

sequence_more : (b : Bool) (k n m : ℕ) → k ≡ min n 2 → m ≡ n + cond b 1 0 → cond b (min (k + 1) 2) k ≡ min m 2
sequence_more true k n m h e = omega arith
sequence_more false k n m h e = omega arith

given_more : (given b : Bool) (n m : ℕ) → given ≡ ltb 0 n → m ≡ n + cond b 1 0 → (given || b) ≡ ltb 0 m
given_more given true n m g e = grind (arith, nat_tests)
given_more given false n m g e = grind (arith, nat_tests)

length_one : (b : Bool) (h : Header) → length (cond b (h ∷ []) []) ≡ cond b 1 0
length_one true h = refl
length_one false h = refl

is_given : (l : Header) (ls : List Header) → ltb 0 (length (l ∷ ls)) ≡ true
is_given l ls = grind (arith, nat_tests)

size_more : (b given : Bool) (size : Option ℕ) (h : Header) (ls : List Header) → given ≡ ltb 0 (length ls) → size ≡ length_by ls
    → cond b (cond given None (decimal_up_to most_body h.value)) size ≡ length_by (ls ++ cond b (h ∷ []) [])
size_more true given size h [] g e = ap (λ (t : Bool). cond t None (decimal_up_to most_body h.value)) g
size_more true given size h (l ∷ []) g e = ap (λ (t : Bool). cond t None (decimal_up_to most_body h.value)) (g ∙ is_given l [])
size_more true given size h (l ∷ m ∷ ls) g e = ap (λ (t : Bool). cond t None (decimal_up_to most_body h.value)) (g ∙ is_given l (m ∷ ls))
size_more false given size h ls g e = e ∙ ap length_by (sym (append-nil ls))

pub one_more : (kind : Kind) (sequences : ℕ) (given : Bool) (size : Option ℕ) (bytes rest : List ℕ) (h : Header) (behind : List ℕ)
    (sequences' : ℕ) (given' : Bool) (size' : Option ℕ)
    → Counted kind sequences given size bytes rest → begins_with_cr rest ≡ false → header_at rest ≡ Ok (h, behind)
    → sequences' ≡ cond (is_cseq h.name) (min (sequences + 1) 2) sequences → given' ≡ (given || is_content_length h.name)
    → size' ≡ cond (is_content_length h.name) (cond given None (decimal_up_to most_body h.value)) size
    → Counted kind sequences' given' size' bytes behind
one_more kind sequences given size bytes rest h behind sequences' given' size' c line read s g z =
    let ls : content_lengths (c.headers ++ h ∷ []) ≡ content_lengths c.headers ++ cond (is_content_length h.name) (h ∷ []) [] =
    filter-append (λ (x : Header). is_content_length x.name) c.headers (h ∷ []) in
    let more : length (content_lengths (c.headers ++ h ∷ [])) ≡ length (content_lengths c.headers) + cond (is_content_length h.name) 1 0 =
    ap length ls ∙ length-append (content_lengths c.headers) (cond (is_content_length h.name) (h ∷ []) [])
    ∙ ap (λ (n : ℕ). length (content_lengths c.headers) + n) (length_one (is_content_length h.name) h) in
    let count : cseq_count (c.headers ++ h ∷ []) ≡ cseq_count c.headers + cond (is_cseq h.name) 1 0 =
    sum_by-append (λ (x : Header). cond (is_cseq x.name) 1 0) c.headers (h ∷ [])
    ∙ ap (λ (n : ℕ). cseq_count c.headers + n) (zero-add (cond (is_cseq h.name) 1 0)) in
    record {
      headers = c.headers ++ h ∷ [];
      sequences_are = s ∙ sequence_more (is_cseq h.name) sequences (cseq_count c.headers) (cseq_count (c.headers ++ h ∷ [])) c.sequences_are count;
      given_is =
          g ∙ given_more given (is_content_length h.name) (length (content_lengths c.headers)) (length (content_lengths (c.headers ++ h ∷ []))) c.given_is more;
      size_is = z ∙ size_more (is_content_length h.name) given size h (content_lengths c.headers) c.given_is c.size_is ∙ ap length_by (sym ls);
      so_far = sym (rest_at_header (count_test kind) c.headers rest h behind line read) ∙ c.so_far;
    }

-- ---- behind the last header

test_of_count : (kind : Kind) (k n : ℕ) → k ≡ min n 2 → count_test kind k ≡ count_test kind n
test_of_count kinds.Request k zero e = ap (count_test kinds.Request) e
test_of_count kinds.Request k (suc zero) e = ap (count_test kinds.Request) e
test_of_count kinds.Request k (suc (suc n)) e = grind (arith, nat_tests)
test_of_count kinds.Response k n e = grind (arith, nat_tests)

-- the length of the body is the one by the headers
pub counted_size : (kind : Kind) (sequences : ℕ) (given : Bool) (size : Option ℕ) (bytes rest : List ℕ) → (c : Counted kind sequences given size bytes rest)
    → cond (count_test kind sequences) size None ≡ length_if_right (count_test kind) c.headers
counted_size kind sequences given size bytes rest c =
    ap (λ (t : Bool). cond t size None) (test_of_count kind sequences (cseq_count c.headers) c.sequences_are)
    ∙ ap (λ (o : Option ℕ). cond (count_test kind (cseq_count c.headers)) o None) c.size_is

-- the head behind the empty line
abbrev pub behind_line : List Header → ℕ → Result (List ℕ) Stop → Result (HeadFields × List ℕ) Stop
behind_line hs n read = read >>= λ rest. Ok (head_fields hs n, rest)

-- what the rest of the head gives is what its empty line gives
pub counted_rest : (kind : Kind) (sequences : ℕ) (given : Bool) (size : Option ℕ) (bytes rest : List ℕ) (o : Option ℕ)
    → (c : Counted kind sequences given size bytes rest) → begins_with_cr rest ≡ true → o ≡ cond (count_test kind sequences) size None
    → rest_of_head (count_test kind) [] bytes ≡ empty_line_at c.headers o rest
counted_rest kind sequences given size bytes rest o c cr e =
    sym c.so_far ∙ rest_at_empty_line (count_test kind) c.headers rest cr
    ∙ ap (λ (x : Option ℕ). empty_line_at c.headers x rest) (sym (e ∙ counted_size kind sequences given size bytes rest c))

-- and where a header line stops, the rest of the head does
pub counted_stop : (kind : Kind) (sequences : ℕ) (given : Bool) (size : Option ℕ) (bytes rest : List ℕ) (stop : Stop)
    → Counted kind sequences given size bytes rest → begins_with_cr rest ≡ false → header_at rest ≡ Err stop
    → rest_of_head (count_test kind) [] bytes ≡ Err stop
counted_stop kind sequences given size bytes rest stop c line e = sym c.so_far ∙ rest_at_stop (count_test kind) c.headers rest stop line e

-- ---- copies

-- behind these headers reading goes on, whatever it gives
abbrev pub GoesOn : List Header → List ℕ → List ℕ → Type 0
GoesOn headers bytes rest = (may_have : ℕ → Bool) (x : HeadFields × List ℕ) → rest_of_head may_have [] bytes ≡ Ok x
    → rest_of_head may_have headers rest ≡ Ok x

pub goes_on : (headers : List Header) (bytes rest : List ℕ) (h : Header) (behind : List ℕ) → GoesOn headers bytes rest → begins_with_cr rest ≡ false
    → header_at rest ≡ Ok (h, behind) → GoesOn (headers ++ h ∷ []) bytes behind
goes_on headers bytes rest h behind g line e may_have x whole = sym (rest_at_header may_have headers rest h behind line e) ∙ g may_have x whole

-- no header line stops in a head that is whole
pub never_stops : (headers : List Header) (bytes rest : List ℕ) (stop : Stop) → GoesOn headers bytes rest → HasRest bytes → begins_with_cr rest ≡ false
    → header_at rest ≡ Err stop → ⊥
never_stops headers bytes rest stop g whole line e =
    let ok = g whole.0 whole.1 whole.2 in
    let err = rest_at_stop whole.0 headers rest stop line e in
    absurd cc

headers_of_line : (hs : List Header) (o : Option ℕ) (s : List ℕ) (x : HeadFields × List ℕ) → empty_line_at hs o s ≡ Ok x → hs ≡ x.0.headers
headers_of_line hs None s x e = absurd cc
headers_of_line hs (Some n) s x e = by_literal (literal_at crlf s) e
  where
    by_literal : (r : Result (List ℕ) Stop) → (r >>= λ rest. Ok (head_fields hs n, rest)) ≡ Ok x → hs ≡ x.0.headers
    by_literal (Ok rest) e = let same : (head_fields hs n, rest) ≡ x = cc in ap (λ (y : HeadFields × List ℕ). y.0.headers) same
    by_literal (Err stop) e = absurd cc

-- the headers in front of the empty line are those of the head
pub all_copied : (headers : List Header) (bytes rest : List ℕ) → GoesOn headers bytes rest → begins_with_cr rest ≡ true → IsRestOf bytes headers
all_copied headers bytes rest g cr may_have x whole =
    headers_of_line headers (length_if_right may_have headers) rest x (sym (rest_at_empty_line may_have headers rest cr) ∙ g may_have x whole)
