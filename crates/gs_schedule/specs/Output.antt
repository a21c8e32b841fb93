-- What a run writes: a first word for the kind of each event, and its numbers.
use Rattle.std.specs.Prelude.{ℕ, ◌<◌, ◌^◌, ⊤, FitsSigned, List, [], ◌∷◌, ◌++◌, codes, map}
use Rattle.std.specs.Int.{w64}
use Rattle.std.specs.List.{AllByRecursion}
use Rattle.std.specs.Fmt.{decimal, signed_decimal}
use Rattle.gs_bytes.specs.Words.{line_of}
use Rattle.gs_input.specs.Event.{FitsTypes as EventFits, HasButton}
use Rattle.gs_input.specs.Line.{event_name, arguments_of}
use Rattle.gs_schedule.specs.Lines.{newline}
use Rattle.gs_schedule.specs.declared.output.Output.{Output}
use Rattle.gs_schedule.specs.declared.output.Output.TheVariants.{Sent, Ask, Hand, Play, Invalid, Idr, Ended, Input}
use Rattle.gs_schedule.specs.declared.output.Output.TheVariants.{Full, Closed, Lost, Reset, Total, Done}

-- a word, and numbers without a sign behind it
abbrev pub name_and_numbers : List ℕ → List ℕ → List (List ℕ)
name_and_numbers name numbers = name ∷ map decimal numbers

-- the words of a line
abbrev pub output_words : Output → List (List ℕ)
output_words (Sent session frame kind tick reference) =
    name_and_numbers (codes "sent") (session ∷ frame ∷ kind ∷ tick ∷ reference ∷ [])
output_words (Ask session first last) = name_and_numbers (codes "ask") (session ∷ first ∷ last ∷ [])
output_words (Hand session frame kind length) = name_and_numbers (codes "hand") (session ∷ frame ∷ kind ∷ length ∷ [])
output_words (Play session unit length) = name_and_numbers (codes "play") (session ∷ unit ∷ length ∷ [])
output_words (Invalid session first last) = name_and_numbers (codes "invalid") (session ∷ first ∷ last ∷ [])
output_words (Idr session) = name_and_numbers (codes "idr") (session ∷ [])
output_words (Ended session first last) = codes "ended" ∷ decimal session ∷ signed_decimal first ∷ signed_decimal last
    ∷ []
output_words (Input session channel event) =
    name_and_numbers (codes "input") (session ∷ channel ∷ []) ++ event_name event
    ∷ arguments_of event
output_words (Full session channel) = name_and_numbers (codes "full") (session ∷ channel ∷ [])
output_words (Closed session) = name_and_numbers (codes "closed") (session ∷ [])
output_words (Lost session) = name_and_numbers (codes "lost") (session ∷ [])
output_words (Reset session) = name_and_numbers (codes "reset") (session ∷ [])
output_words (Total session frames handed asks inputs units) =
    name_and_numbers (codes "total") (session ∷ frames ∷ handed ∷ asks ∷ inputs ∷ units ∷ [])
output_words Done = name_and_numbers (codes "ok") []

-- each number fits 64 bits, an event's its own type, and a button is one
abbrev pub AreWide : List ℕ → Type 0
AreWide numbers = AllByRecursion (λ n. n < 2 ^ 64) numbers

abbrev pub FitsOutputTypes : Output → Type 0
FitsOutputTypes (Sent session frame kind tick reference) = AreWide (session ∷ frame ∷ kind ∷ tick ∷ reference ∷ [])
FitsOutputTypes (Ask session first last) = AreWide (session ∷ first ∷ last ∷ [])
FitsOutputTypes (Hand session frame kind length) = AreWide (session ∷ frame ∷ kind ∷ length ∷ [])
FitsOutputTypes (Play session unit length) = AreWide (session ∷ unit ∷ length ∷ [])
FitsOutputTypes (Invalid session first last) = AreWide (session ∷ first ∷ last ∷ [])
FitsOutputTypes (Idr session) = AreWide (session ∷ [])
FitsOutputTypes (Ended session first last) = (session < 2 ^ 64) × FitsSigned w64 first × FitsSigned w64 last
FitsOutputTypes (Input session channel event) = AreWide (session ∷ channel ∷ []) × EventFits event × HasButton event
FitsOutputTypes (Full session channel) = AreWide (session ∷ channel ∷ [])
FitsOutputTypes (Closed session) = AreWide (session ∷ [])
FitsOutputTypes (Lost session) = AreWide (session ∷ [])
FitsOutputTypes (Reset session) = AreWide (session ∷ [])
FitsOutputTypes (Total session frames handed asks inputs units) =
    AreWide (session ∷ frames ∷ handed ∷ asks ∷ inputs ∷ units ∷ [])
FitsOutputTypes Done = ⊤

-- the words parted by one space, and a newline
abbrev pub output_line : Output → List ℕ
output_line output = line_of (output_words output) ++ newline ∷ []
