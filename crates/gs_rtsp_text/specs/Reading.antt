-- Cited by private contracts alone: reading, part by part. Each part answers what it read and the bytes behind it,
-- or where it stops.
use Rattle.std.specs.Prelude.{◌≡◌, ℕ, zero, suc, ◌≤◌, ◌+◌, ◌-◌, ◌*◌, ◌^◌, Bool, true, false, ◌&&◌, ◌||◌, ◌==◌, nat_le}
use Rattle.std.specs.Prelude.{List, [], ◌∷◌, ◌++◌, length, take, drop, codes, Option, Some, None, Result, Ok, Err}
use Rattle.std.specs.Prelude.{if◌then◌else◌}
use Rattle.gs_rtsp_text.specs.declared.header.Header.{Header}
use Rattle.gs_rtsp_text.specs.declared.message.Method.{Method}
use Rattle.gs_rtsp_text.specs.declared.message.Method.TheVariants.{Options, Describe, Setup, Announce, Play}
use Rattle.gs_rtsp_text.specs.declared.stop.Stop.{Stop}
use Rattle.gs_rtsp_text.specs.declared.stop.Stop.TheVariants.{More, Bad}
use Rattle.gs_rtsp_text.specs.Bytes.{crlf, is_name_byte, is_value_byte, is_target_byte}
use Rattle.gs_bytes.specs.Numbers.{is_digit}
use Rattle.gs_bytes.specs.Words.{is_space, without_first_spaces, trimmed}
use Rattle.gs_rtsp_text.specs.Lines.{method_name, is_cseq, cseq_count, body_length}
use Rattle.gs_rtsp_text.specs.Message.{TextAnswer, Whole, BadText, More as Unfinished, most_head}

infixl 10 ◌>>=◌
abbrev pub ◌>>=◌ : {A B : Type 0} → Result A Stop → (A → Result B Stop) → Result B Stop
(Ok x) >>= f = f x
(Err e) >>= f = Err e

-- What a function that takes no memory returned, seen by view, is what reading gives.
abbrev pub StopsAlike : {X Y : Type 0} → (X → Y) → Result X Stop → Result Y Stop → Type 0
StopsAlike view (Ok x) read = read ≡ Ok (view x)
StopsAlike view (Err e) read = read ≡ Err e

-- what a part gave, behind a byte that it begins with
abbrev pub with_first : ℕ → Result (List ℕ × List ℕ) Stop → Result (List ℕ × List ℕ) Stop
with_first b read = read >>= λ x. Ok (b ∷ x.0, x.1)

-- these very bytes
abbrev pub literal_at : List ℕ → List ℕ → Result (List ℕ) Stop
literal_at [] s = Ok s
literal_at (c ∷ cs) [] = Err More
literal_at (c ∷ cs) (b ∷ s) = if b == c then literal_at cs s else Err (Bad (length (b ∷ s)))

-- bytes that pass, up to a byte that ends them; it may stand at once where may_end is true
abbrev pub token_at : (ℕ → Bool) → ℕ → Bool → List ℕ → Result (List ℕ × List ℕ) Stop
token_at passes last may_end [] = Err More
token_at passes last may_end (b ∷ s) =
    if passes b then with_first b (token_at passes last true s)
    else (if may_end && b == last then Ok ([], s) else Err (Bad (length (b ∷ s))))

-- further digits of a number below 2 ^ 31, behind those that stand for n
abbrev pub digits_at : ℕ → List ℕ → Result (List ℕ × List ℕ) Stop
digits_at n [] = Err More
digits_at n (b ∷ s) =
    if is_digit b then (if n == 0 || nat_le (2 ^ 31) (10 * n + (b - 48)) then Err
    (Bad (length (b ∷ s))) else with_first b (digits_at (10 * n + (b - 48)) s)) else Ok ([], b ∷ s)

abbrev pub decimal_at : List ℕ → Result (List ℕ × List ℕ) Stop
decimal_at [] = Err More
decimal_at (b ∷ s) = if is_digit b then with_first b (digits_at (b - 48) s) else Err (Bad (length (b ∷ s)))

-- the value of a CSeq, to the end of its line
unfoldable pub sequence_at : List ℕ → Result (List ℕ × List ℕ) Stop
sequence_at s = do
  digits ← decimal_at (without_first_spaces s)
  after ← token_at is_space 13 true digits.1
  rest ← literal_at (10 ∷ []) after.1
  Ok (digits.0, rest)

-- the value of another header, to the end of its line
unfoldable pub value_at : List ℕ → Result (List ℕ × List ℕ) Stop
value_at s = do
  raw ← token_at is_value_byte 13 true s
  rest ← literal_at (10 ∷ []) raw.1
  Ok (trimmed raw.0, rest)

abbrev pub value_of_at : List ℕ → List ℕ → Result (List ℕ × List ℕ) Stop
value_of_at name s = if is_cseq name then sequence_at s else value_at s

unfoldable pub header_at : List ℕ → Result (Header × List ℕ) Stop
header_at s = do
  name ← token_at is_name_byte 58 false s
  value ← value_of_at name.0 name.1
  Ok (record { name = name.0; value = value.0 }, value.1)

-- the length of the body, where the headers are right
abbrev pub length_if_right : (ℕ → Bool) → List Header → Option ℕ
length_if_right may_have hs = if may_have (cseq_count hs) then body_length hs else None

-- what the lines behind the first one of a head say: its headers, and the length of the body
pub record HeadFields : Type 0 where
  pub headers : List Header
  pub size : ℕ

abbrev pub head_fields : List Header → ℕ → HeadFields
head_fields hs n = record { headers = hs; size = n }

-- The rest of a head behind some headers, for a number of lines at most.
abbrev pub empty_line_at : List Header → Option ℕ → List ℕ → Result (HeadFields × List ℕ) Stop
empty_line_at hs None s = Err (Bad (length s))
empty_line_at hs (Some n) s = literal_at crlf s >>= λ rest. Ok (head_fields hs n, rest)

abbrev pub begins_with_cr : List ℕ → Bool
begins_with_cr [] = false
begins_with_cr (b ∷ s) = b == 13

unfoldable pub lines_at : (ℕ → Bool) → ℕ → List Header → List ℕ → Result (HeadFields × List ℕ) Stop
lines_at may_have zero hs s = Err More
lines_at may_have (suc n) hs s =
    if begins_with_cr s then empty_line_at hs (length_if_right may_have hs) s
    else (header_at s >>= λ h. lines_at may_have n (hs ++ h.0 ∷ []) h.1)

-- Each line takes a byte or more, so this is enough.
unfoldable pub rest_of_head : (ℕ → Bool) → List Header → List ℕ → Result (HeadFields × List ℕ) Stop
rest_of_head may_have hs s = lines_at may_have (suc (length s)) hs s

-- the rest of a head gives the length of the body, and the bytes behind it are these
abbrev pub GivesSize : {X : Type 0} → (X → ℕ × List ℕ) → Result X Stop
    → Result (HeadFields × List ℕ) Stop → Type 0
GivesSize view (Ok x) read = (headers : List Header) × (read ≡ Ok (head_fields headers (view x).0, (view x).1))
GivesSize view (Err e) read = read ≡ Err e

-- the bytes begin with the whole rest of a head
abbrev pub HasRest : List ℕ → Type 0
HasRest bytes = (may_have : ℕ → Bool) × (x : HeadFields × List ℕ) × (rest_of_head may_have [] bytes ≡ Ok x)

-- these are the headers of that rest
abbrev pub IsRestOf : List ℕ → List Header → Type 0
IsRestOf bytes headers =
    (may_have : ℕ → Bool) (x : HeadFields × List ℕ) → rest_of_head may_have [] bytes ≡ Ok x → headers ≡ x.0.headers

-- ---- first lines

-- a method and the space behind it
abbrev pub word : Method → List ℕ
word m = method_name m ++ 32 ∷ []

abbrev pub this_method : Method → List ℕ → Result (Method × List ℕ) Stop
this_method m s = literal_at (word m) s >>= λ rest. Ok (m, rest)

unfoldable pub method_at : List ℕ → Result (Method × List ℕ) Stop
method_at [] = Err More
method_at (b ∷ s) =
    if b == 79 then this_method Options (b ∷ s) else
    (if b == 68 then this_method Describe (b ∷ s)
    else (if b == 83 then this_method Setup (b ∷ s)
    else (if b == 65 then this_method Announce
    (b ∷ s) else (if b == 80 then this_method Play (b ∷ s) else Err (Bad (length (b ∷ s)))))))

unfoldable pub request_line_at : List ℕ → Result ((Method × List ℕ) × List ℕ) Stop
request_line_at s = do
  method ← method_at s
  target ← token_at is_target_byte 32 false method.1
  rest ← literal_at (codes "RTSP/1.0" ++ crlf) target.1
  Ok ((method.0, target.0), rest)

unfoldable pub digit_at : List ℕ → Result (ℕ × List ℕ) Stop
digit_at [] = Err More
digit_at (b ∷ s) = if is_digit b then Ok (b - 48, s) else Err (Bad (length (b ∷ s)))

unfoldable pub status_line_at : List ℕ → Result (ℕ × List ℕ) Stop
status_line_at s = do
  version ← literal_at (codes "RTSP/1.0 ") s
  a ← digit_at version
  b ← digit_at a.1
  c ← digit_at b.1
  behind ← literal_at (32 ∷ []) c.1
  reason ← token_at is_value_byte 13 true behind
  rest ← literal_at (10 ∷ []) reason.1
  Ok (100 * a.0 + 10 * b.0 + c.0, rest)

-- ---- heads and messages

-- a head: what its first line says, its headers and the length of the body
pub record MessageHead (S : Type 0) : Type 0 where
  pub start : S
  pub headers : List Header
  pub size : ℕ

abbrev pub with_start : {S : Type 0} → S → HeadFields × List ℕ → MessageHead S × List ℕ
with_start start x = (record { start = start; headers = x.0.headers; size = x.0.size }, x.1)

unfoldable pub head_by : {S : Type 0} → (List ℕ → Result (S × List ℕ) Stop) → (ℕ → Bool) → List ℕ
    → Result (MessageHead S × List ℕ) Stop
head_by first may_have s = do
  start ← first s
  rest ← rest_of_head may_have [] start.1
  Ok (with_start start.0 rest)

-- the same, where it is known what the first line says
abbrev pub head_behind : {S : Type 0} → S → (ℕ → Bool) → List ℕ → Result (MessageHead S × List ℕ) Stop
head_behind start may_have s = rest_of_head may_have [] s >>= λ x. Ok (with_start start x)

-- behind a head that ends at the place lies a body of n bytes, or less so far
abbrev pub body_answer : {S : Type 0} → List ℕ → ℕ → S → List Header → ℕ → TextAnswer S
body_answer bytes place start headers n =
    if nat_le (place + n) (length bytes) then Whole
    (record { start = start; headers = headers; body = take n (drop place bytes) }) (place + n) else Unfinished

-- the bytes that are left at a stop are some of these
abbrev pub IsStopWithin : List ℕ → Stop → Type 0
IsStopWithin bytes More = Unit {0}
IsStopWithin bytes (Bad left) = left ≤ length bytes

-- the place of the first wrong byte, where there is one
abbrev pub stop_place : List ℕ → Stop → Option ℕ
stop_place bytes More = if nat_le most_head (length bytes) then Some most_head else None
stop_place bytes (Bad left) = Some (length (take most_head bytes) - left)

abbrev pub place_answer : {S : Type 0} → Option ℕ → TextAnswer S
place_answer None = Unfinished
place_answer (Some place) = BadText place

-- the answer by what was read of the first 4,096 bytes
abbrev pub text_answer : {S : Type 0} → List ℕ → Result (MessageHead S × List ℕ) Stop → TextAnswer S
text_answer bytes (Ok x) = body_answer bytes (length (take most_head bytes) - length x.1) x.0.start x.0.headers x.0.size
text_answer bytes (Err stop) = place_answer (stop_place bytes stop)
