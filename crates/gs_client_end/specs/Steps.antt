-- Cited by private contracts alone: what the steps of a call leave.
use Rattle.std.specs.Prelude.{ℕ, ◌≡◌, ◌+◌, ◌++◌, Bool, true, false, not, ◌&&◌, List, [], ◌∷◌, length, map, Option, Some}
use Rattle.std.specs.Prelude.{None, is_some}
use Rattle.gs_frames.specs.declared.range.Range.{Range}
use Rattle.gs_frames.specs.Client.{ClientSettings, Arrival, Datagram}
use Rattle.gs_frames.specs.Handed.{newly_handed}
use Rattle.gs_frames.specs.Asks.{newly_asked, as_list}
use Rattle.gs_audio.specs.Played.{newly_played}
use Rattle.gs_client_core.specs.declared.client.Client.{Client}
use Rattle.gs_client_core.specs.declared.asker.Owed.TheVariants.{Lost, Idr}
use Rattle.gs_client_core.specs.Standing.{IsClientOf}
use Rattle.gs_run.specs.Session.{Part}
use Rattle.gs_run.specs.Report.{Report, ask_report, hand_report, play_report}
use Rattle.gs_run.specs.Giving.{given}
use Rattle.gs_run.specs.Refusal.{may_give}
use Rattle.gs_report.specs.Reporting.{Reporting, with_reports}
use Rattle.gs_client_end.specs.declared.end.ClientEnd.{ClientEnd}
use Rattle.gs_client_end.specs.declared.streaming.Told.{Told}
use Rattle.gs_client_end.specs.Outcomes.{DoneIf}

-- these were reported, and they are so many
pub record Reported (reports : List Report) (count : ℕ) (before now : Reporting) : Type 0 where
  pub count_is : count ≡ length reports
  pub text : now ≡ with_reports before reports

-- ---- the streams

-- what a client asks for and hands with a datagram
abbrev pub reports_of : ℕ → ClientSettings → List Arrival → List ℕ → List Report
reports_of session c came bytes =
    map (ask_report session) (as_list (newly_asked c (Datagram bytes) came))
    ++ map (hand_report session) (newly_handed c (Datagram bytes) came)

-- a client was given a video datagram, and this was told of it
pub record IsTold (session : ℕ) (c : ClientSettings) (came : List Arrival) (sound : List (List ℕ)) (bytes : List ℕ)
    (told : Told) (new : Client) (before now : Reporting) : Type 0 where
  pub ask_is : told.ask ≡ newly_asked c (Datagram bytes) came
  pub handed_is : told.handed ≡ length (newly_handed c (Datagram bytes) came)
  pub stands : IsClientOf new c (Datagram bytes ∷ came) sound
  pub text : now ≡ with_reports before (reports_of session c came bytes)

-- it asks only where it may
abbrev pub IsGiven : ℕ → ClientSettings → List Arrival → List (List ℕ) → List ℕ → Bool → Option Told → Client
    → Reporting
    → Reporting → Type 0
IsGiven session c came sound bytes may_ask None new before now =
    ((is_some (newly_asked c (Datagram bytes) came) && not may_ask) ≡ true) × (now ≡ before)
IsGiven session c came sound bytes may_ask (Some told) new before now =
    ((is_some (newly_asked c (Datagram bytes) came) && not may_ask) ≡ false)
    × IsTold session c came sound bytes told new before now

-- a client was given an audio datagram, and played so many units
pub record Plays (session : ℕ) (c : ClientSettings) (came : List Arrival) (sound : List (List ℕ)) (bytes : List ℕ)
    (count : ℕ) (new : Client) (before now : Reporting) : Type 0 where
  pub stands : IsClientOf new c came (bytes ∷ sound)
  pub played : Reported (map (play_report session) (newly_played c.stream bytes sound)) count before now

-- what is asked for is owed, and counted
abbrev pub owing_range : Option Range → ClientEnd → ClientEnd
owing_range ask end = record end {
  asker = end.asker ++ map Lost (as_list ask);
  owed = end.owed + length (as_list ask);
  sums = record (end.sums) { asks = end.sums.asks + length (as_list ask) };
}

-- an IDR request is owed
abbrev pub owing_idr : ClientEnd → ClientEnd
owing_idr end = record end { asker = end.asker ++ Idr ∷ []; owed = end.owed + 1 }

-- ---- messages

abbrev pub GivesMessage : ℕ → ℕ → List ℕ → Part → Bool → ClientEnd → Reporting → Reporting → Type 0
GivesMessage session channel bytes part =
    DoneIf (may_give channel part) session (given session channel bytes part)
