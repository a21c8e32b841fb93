-- The lines of a schedule, and the step that each of them spells.
use Rattle.std.specs.Prelude.{◌≡◌, ◌⊎◌, ℕ, ◌<◌, ◌≤◌, ◌^◌, ⊤, List, [], ◌∷◌, codes, map}
use Rattle.std.specs.List.{AllByRecursion}
use Rattle.std.specs.Fmt.{decimal}
use Rattle.gs_bytes.specs.Words.{words_of}
use Rattle.gs_input.specs.Event.{IsEvent}
use Rattle.gs_input.specs.Line.{event_name, arguments_of}
use Rattle.gs_schedule.specs.declared.limits.TheConstants.{MOST_TIME}
use Rattle.gs_schedule.specs.declared.step.Step.{Step}
use Rattle.gs_schedule.specs.declared.step.Step.TheVariants.{Blank, Session, Cap, Send, Video, Audio, Videos, Up, Down}
use Rattle.gs_schedule.specs.declared.step.Step.TheVariants.{Input, Idr, Time, Pump, Close, Reset}

-- the words are numbers of 32 bits, in decimal without a sign or a leading zero
abbrev pub SpellNumbers : List (List ℕ) → List ℕ → Type 0
SpellNumbers words numbers = AllByRecursion (λ n. n < 2 ^ 32) numbers × (words ≡ map decimal numbers)

-- a word, and such numbers behind it
abbrev pub HasNumbers : List (List ℕ) → List ℕ → List ℕ → Type 0
HasNumbers words name numbers = AllByRecursion (λ n. n < 2 ^ 32) numbers × (words ≡ name ∷ map decimal numbers)

-- the words behind a session's three numbers are those of its window, or none, where it is one frame
abbrev pub IsWindow : List (List ℕ) → ℕ → Type 0
IsWindow words window = SpellNumbers words (window ∷ []) ⊎ ((window ≡ 1) × (words ≡ []))

-- the most milliseconds that one step lets pass
abbrev pub most_time : ℕ
most_time = MOST_TIME

-- The words that spell a step. A session without its last word has a window of one frame. An event's line is
-- its own with the session behind its name.
abbrev pub AreWords : List (List ℕ) → Step → Type 0
AreWords words Blank = ⊥
AreWords words (Session packet percentage minimum window) =
    HasNumbers words (codes "session") (packet ∷ percentage ∷ minimum ∷ window ∷ [])
    ⊎ ((window ≡ 1) × HasNumbers words (codes "session") (packet ∷ percentage ∷ minimum ∷ []))
AreWords words Cap = HasNumbers words (codes "cap") []
AreWords words (Send session) = HasNumbers words (codes "send") (session ∷ [])
AreWords words (Video session k) = HasNumbers words (codes "video") (session ∷ k ∷ [])
AreWords words (Audio session k) = HasNumbers words (codes "audio") (session ∷ k ∷ [])
AreWords words (Videos session first last) = HasNumbers words (codes "videos") (session ∷ first ∷ last ∷ [])
    × (first ≤ last)
AreWords words (Up session k) = HasNumbers words (codes "up") (session ∷ k ∷ [])
AreWords words (Down session k) = HasNumbers words (codes "down") (session ∷ k ∷ [])
AreWords words (Input session event) =
    IsEvent event × (session < 2 ^ 32) × (words ≡ event_name event ∷ decimal session ∷ arguments_of event)
AreWords words (Idr session) = HasNumbers words (codes "idr") (session ∷ [])
AreWords words (Time by) = HasNumbers words (codes "time") (by ∷ []) × (by ≤ most_time)
AreWords words (Pump session every) = HasNumbers words (codes "pump") (session ∷ every ∷ [])
AreWords words (Close session) = HasNumbers words (codes "close") (session ∷ [])
AreWords words (Reset session) = HasNumbers words (codes "reset") (session ∷ [])

-- an empty line, or a comment
abbrev pub IsBlank : List ℕ → Type 0
IsBlank [] = ⊤
IsBlank (byte ∷ line) = byte ≡ 35

-- the line, without its newline, spells the step
abbrev pub Spells : List ℕ → Step → Type 0
Spells line Blank = IsBlank line
Spells line step = AreWords (words_of line) step
