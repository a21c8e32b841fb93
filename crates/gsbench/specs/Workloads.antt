-- The workloads: the words of each behind its name, and when an answer blames one.
use Rattle.std.specs.Prelude.{◌≡◌, ◌≢◌, ◌⊎◌, ◌↔◌, ◌-◌, ◌^◌, ℕ, List, [], ◌∷◌, Option, Some, None, Result, Err, String}
use Rattle.std.specs.Prelude.{string_bytes, codes, if◌then◌else◌, min, nat_eq}
use Rattle.std.specs.Cmp.Lexicographic.{pointwise}
use Rattle.std.specs.List.{slice_get}
use Rattle.std.specs.Option.{option_map_or}
use Rattle.std.specs.declared.alloc.Global.{Global}
use Rattle.gs_bytes.specs.Limits.{most_generated, most_unit}
use Rattle.gs_frames.specs.Client.{least_window, most_window}
use Rattle.gs_rtp.specs.Limits.{least_packet, most_packet, most_percentage, most_frame}
use Rattle.gsbench.specs.declared.report.Report.{Report}
use Rattle.gsbench.specs.declared.report.Stop.{Stop}
use Rattle.gsbench.specs.declared.report.Stop.TheVariants.{Usage}
use Rattle.gsbench.specs.declared.workload.Workload.{Workload}
use Rattle.gsbench.specs.declared.workload.Workload.TheVariants as workload
use Rattle.gsbench.specs.Words.{Limits, from_to, word_misfit_from, number_word, word_value}

-- any number of 32 bits, and how often a workload is done
abbrev pub any_number : Limits
any_number = from_to 0 (2 ^ 32 - 1)

abbrev pub any_count : Limits
any_count = from_to 1 (2 ^ 32 - 1)

-- bytes of a row
abbrev pub mul_add_limits : List Limits
mul_add_limits = from_to 1 1048576 ∷ any_count ∷ []

-- how many data shards a code has, and parity shards
abbrev pub data_count : List (String Global) → ℕ
data_count words = word_value words 1 1 255

abbrev pub parity_of : List (String Global) → ℕ
parity_of words = word_value words 2 0 (255 - data_count words)

-- data shards, parity shards, the bytes of one, and more
abbrev pub code_limits : List (String Global) → List Limits → List Limits
code_limits words rest = from_to 1 255 ∷ from_to 0 (255 - data_count words) ∷ from_to 1 65536 ∷ rest

abbrev pub encode_limits : List (String Global) → List Limits
encode_limits words = code_limits words (any_count ∷ [])

abbrev pub parity_limits : List (String Global) → List Limits
parity_limits words = code_limits words (any_number ∷ any_count ∷ [])

abbrev pub restore_limits : List (String Global) → List Limits
restore_limits words = code_limits words (from_to 0 (min (data_count words) (parity_of words)) ∷ any_count ∷ [])

-- messages given before each writing
abbrev pub messages_limits : List Limits
messages_limits = from_to 1 256 ∷ any_count ∷ []

-- a packet size, a percentage of parity, the bytes of a frame, and more
abbrev pub frame_limits : List Limits → List Limits
frame_limits rest = from_to least_packet most_packet ∷ from_to 0 most_percentage ∷ from_to 1 most_unit ∷ rest

-- each so many-th datagram is lost; a turn is a frame's number
abbrev pub receive_limits : List Limits
receive_limits = frame_limits (any_number ∷ from_to 1 most_frame ∷ [])

abbrev pub take_limits : List Limits
take_limits = receive_limits

abbrev pub split_limits : List Limits
split_limits = frame_limits (any_count ∷ [])

-- the number of a generated capture, and how many ticks it has
abbrev pub tape_limits : List Limits
tape_limits = any_number ∷ from_to 1 most_generated ∷ any_count ∷ []

-- a turn is a frame's number
abbrev pub choose_limits : List Limits
choose_limits = from_to 1 most_frame ∷ []

-- threads that call one cell
abbrev pub turns_limits : List Limits
turns_limits = from_to 1 16 ∷ any_count ∷ []

-- viewers that read one capture
abbrev pub views_limits : List Limits
views_limits = from_to 1 16 ∷ any_count ∷ []

-- a packet size, a percentage of parity, and the frames of a client's window
abbrev pub new_limits : List Limits
new_limits =
    from_to least_packet most_packet ∷ from_to 0 most_percentage ∷ from_to least_window most_window ∷ any_count ∷ []

-- the first word, no bytes where there is none
abbrev pub first_word : List (String Global) → List ℕ
first_word words = option_map_or string_bytes (slice_get words 0) []

-- the workload of a name
abbrev pub workload_named : List ℕ → Option Workload
workload_named name =
    if pointwise nat_eq name (codes "mul_add") then Some workload.MulAdd
    else (if pointwise nat_eq name (codes "encode") then Some workload.Encode
    else (if pointwise nat_eq name (codes "parity") then Some workload.Parity
    else (if pointwise nat_eq name (codes "restore") then Some workload.Restore
    else (if pointwise nat_eq name (codes "messages") then Some workload.Messages
    else (if pointwise nat_eq name (codes "receive") then Some workload.Receive
    else (if pointwise nat_eq name (codes "split") then Some workload.Split
    else (if pointwise nat_eq name (codes "tape") then Some workload.Tape
    else (if pointwise nat_eq name (codes "tape_held") then Some workload.TapeHeld
    else (if pointwise nat_eq name (codes "choose") then Some workload.Choose
    else (if pointwise nat_eq name (codes "turns") then Some workload.Turns
    else (if pointwise nat_eq name (codes "views") then Some workload.Views
    else (if pointwise nat_eq name (codes "take") then Some workload.Take
    else (if pointwise nat_eq name (codes "new") then Some workload.New
    else None)))))))))))))

-- what the words of a workload are to be
abbrev pub limits_of : List (String Global) → Workload → List Limits
limits_of words workload.MulAdd = mul_add_limits
limits_of words workload.Encode = encode_limits words
limits_of words workload.Parity = parity_limits words
limits_of words workload.Restore = restore_limits words
limits_of words workload.Messages = messages_limits
limits_of words workload.Receive = receive_limits
limits_of words workload.Split = split_limits
limits_of words workload.Tape = tape_limits
limits_of words workload.TapeHeld = tape_limits
limits_of words workload.Choose = choose_limits
limits_of words workload.Turns = turns_limits
limits_of words workload.Views = views_limits
limits_of words workload.Take = take_limits
limits_of words workload.New = new_limits

-- the number, from 1, of the first word that doesn't fit or is missing: the first one where it names no workload
abbrev pub misfit_at : List (String Global) → Option Workload → Option ℕ
misfit_at words None = Some 1
misfit_at words (Some named) = word_misfit_from 1 (limits_of words named) words

abbrev pub misfit : List (String Global) → Option ℕ
misfit words = misfit_at words (workload_named (first_word words))

-- The answer is `usage: word W` exactly where W is that number.
abbrev pub IsJudgedBy : Option ℕ → Result Report Stop → Type 0
IsJudgedBy bad result = (word : ℕ) → (result ≡ Err (Usage word)) ↔ (bad ≡ Some word)

abbrev pub AreWordsJudged : List Limits → List (String Global) → Result Report Stop → Type 0
AreWordsJudged limits words result = IsJudgedBy (word_misfit_from 1 limits words) result

-- a word of the code doesn't fit
abbrev pub IsStopAtCode : List (String Global) → Stop → Type 0
IsStopAtCode words stop =
    ((stop ≡ Usage 2) × (number_word words 1 1 255 ≡ None))
    ⊎ ((stop ≡ Usage 3) × (number_word words 1 1 255 ≢ None) × (number_word words 2 0 (255 - data_count words) ≡ None))

-- a word of a stream's settings doesn't fit
abbrev pub IsStopAtStream : List (String Global) → Stop → Type 0
IsStopAtStream words stop =
    ((stop ≡ Usage 2) × (number_word words 1 least_packet most_packet ≡ None))
    ⊎ ((stop ≡ Usage 3) × (number_word words 1 least_packet most_packet ≢ None)
    × (number_word words 2 0 most_percentage ≡ None))
