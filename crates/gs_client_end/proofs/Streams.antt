-- What a client's end stands for behind what its client is given.
use Rattle.std.proofs.Common.{◌≡◌, ◌+◌, ℕ, Bool, true, false, not, ◌&&◌, List, [], ◌∷◌, ◌++◌, length, map, Option, Some, None, refl, sym, ap, subst, ◌∙◌, arith}
use Rattle.std.proofs.Common.{◌⊎◌, inl, inr}
use Rattle.std.specs.Prelude.{is_some}
use Rattle.std.proofs.lemmas.List.{length-append, length-map}
use Rattle.gs_rtp.specs.Stream.{StreamSettings}
use Rattle.gs_frames.specs.Client.{ClientSettings, Arrival, Datagram, Reset}
use Rattle.gs_frames.specs.Handed.{Handed, handed, newly_handed}
use Rattle.gs_frames.specs.Asks.{asks, newly_asked, as_list}
use Rattle.gs_frames.specs.declared.range.Range.{Range}
use Rattle.gs_frames.proofs.HandedGrows.{arrival_hands, reset_hands_nothing}
use Rattle.gs_frames.proofs.AsksGrow.{asks-is, asks_of-empty, arrival_asks}
use Rattle.gs_depack.proofs.Standing.{first-none}
use Rattle.gs_audio.specs.Played.{PlayedUnit, played, newly_played}
use Rattle.gs_schedule.specs.declared.output.Output.TheVariants as output
use Rattle.gs_client_core.specs.declared.client.Client.{Client}
use Rattle.gs_client_core.specs.declared.asker.Owed.{Owed}
use Rattle.gs_client_core.specs.declared.asker.Owed.TheVariants.{Lost, Idr}
use Rattle.gs_client_core.specs.declared.given.Given.{Given}
use Rattle.gs_client_core.specs.Given.{given_frames, AreGiven}
use Rattle.gs_client_core.proofs.Units.{given_are}
use Rattle.gs_client_core.specs.Owed.{request_channel}
use Rattle.gs_client_core.specs.Standing.{IsClientOf}
use Rattle.gs_sides.specs.declared.side.ControlSide.{ControlSide}
use Rattle.gs_sides.specs.Standing.{IsSideOf}
use Rattle.gs_run.specs.Session.{Part}
use Rattle.gs_run.specs.Opening.{new_part}
use Rattle.gs_run.specs.Report.{plain, ask_report, hand_report, play_report}
use Rattle.gs_run.specs.Streaming.{with_audio, reset}
use Rattle.gs_run.specs.Refusal.{has_made_most, is_client_open, makes_ask}
use Rattle.gs_report.specs.Reporting.{Reporting, with_reports, Did}
use Rattle.gs_report.proofs.Reported.{then_more}
use Rattle.gs_client_end.specs.declared.end.ClientEnd.{ClientEnd}
use Rattle.gs_client_end.specs.declared.sums.ClientSums.{ClientSums}
use Rattle.gs_client_end.specs.declared.streaming.Told.{Told}
use Rattle.gs_client_end.specs.Standing.{AreClientSums, IsClientEndOf}
use Rattle.gs_client_end.specs.Steps.{Reported, reports_of, IsGiven, IsTold, Plays}
use Rattle.gs_client_end.specs.Outcomes.{TakesVideo, Resets}
use Rattle.gs_client_end.proofs.Texts.{counted_of}

-- ---- a new client

played-none : (s : StreamSettings) → played s [] ≡ []
unfolding played
played-none s = refl

pub no_sums : (host_id now : ℕ) (c : ClientSettings) → AreClientSums (record { handed = 0; asks = 0; units = 0 }) (new_part host_id now c)
no_sums host_id now c = record {
  handed = ap (λ (l : List Handed). length l) (sym (first-none c));
  asks = ap (λ (l : List Range). length l) (sym (asks-is c [] ∙ asks_of-empty c));
  units = ap (λ (l : List PlayedUnit). length l) (sym (played-none c.stream));
}

-- ---- video

-- what a client took, as it is told
pub is_given : (session : ℕ) (c : ClientSettings) (came : List Arrival) (sound : List (List ℕ)) (bytes : List ℕ) (may : Bool)
    (ask : Option Range) (units : List (Option Given)) (count : ℕ) (client : Client) (before mid now : Reporting)
    → ask ≡ newly_asked c (Datagram bytes) came → AreGiven units (newly_handed c (Datagram bytes) came)
    → (is_some ask && not may) ≡ false → IsClientOf client c (Datagram bytes ∷ came) sound
    → mid ≡ with_reports before (map (ask_report session) (as_list ask))
    → Reported (map (hand_report session) (given_frames units)) count mid now
    → IsGiven session c came sound bytes may (Some (record { ask = ask; handed = count })) client before now
is_given session c came sound bytes may ask units count client before mid now ask_is units_are test stands asked handed =
    let frames : given_frames units ≡ newly_handed c (Datagram bytes) came = given_are units (newly_handed c (Datagram bytes) came) units_are in (
      subst (λ (o : Option Range). (is_some o && not may) ≡ false) ask_is test,
      record {
        ask_is = ask_is;
        handed_is = counted_of (hand_report session) (given_frames units) count mid now handed ∙ ap (λ (hs : List Handed). length hs) frames;
        stands = stands;
        text = then_more before mid now (map (ask_report session) (as_list ask)) (map (hand_report session) (given_frames units)) asked handed.text
            ∙ ap (λ (o : Option Range). with_reports before (map (ask_report session) (as_list o) ++ map (hand_report session) (given_frames units))) ask_is
            ∙ ap (λ (hs : List Handed). with_reports before (map (ask_report session) (as_list (newly_asked c (Datagram bytes) came))
            ++ map (hand_report session) hs)) frames;
      },
    )

pub isnt_given : (session : ℕ) (c : ClientSettings) (came : List Arrival) (sound : List (List ℕ)) (bytes : List ℕ) (may : Bool)
    (ask : Option Range) (client : Client) (r : Reporting) → ask ≡ newly_asked c (Datagram bytes) came
    → (is_some ask && not may) ≡ true → IsGiven session c came sound bytes may None client r r
isnt_given session c came sound bytes may ask client r ask_is test =
    (subst (λ (o : Option Range). (is_some o && not may) ≡ true) ask_is test, refl)

-- what the end is once what was told is counted
pub record Counts (old : ClientEnd) (told : Told) (client : Client) (new : ClientEnd) : Type 0 where
  pub session : new.session ≡ old.session
  pub client_is : new.client ≡ client
  pub asker : new.asker ≡ old.asker ++ map Lost (as_list told.ask)
  pub owed : new.owed ≡ old.owed + length (as_list told.ask)
  pub side : new.side ≡ old.side
  pub handed : new.sums.handed ≡ old.sums.handed + told.handed
  pub asks : new.sums.asks ≡ old.sums.asks + length (as_list told.ask)
  pub units : new.sums.units ≡ old.sums.units

may_be_taken : (asks may most : Bool) → may ≡ not most → (asks && not may) ≡ false → not (asks && most) ≡ true
may_be_taken true true false is e = refl
may_be_taken true false true is e = cc
may_be_taken false may most is e = refl
may_be_taken true true true is e = cc
may_be_taken true false false is e = cc

may_not_be_taken : (asks may most : Bool) → may ≡ not most → (asks && not may) ≡ true → not (asks && most) ≡ false
may_not_be_taken true false true is e = refl
may_not_be_taken true true most is e = cc
may_not_be_taken true false false is e = cc
may_not_be_taken false may most is e = cc

pub video_refused : (session : ℕ) (part : Part) (bytes : List ℕ) (may : Bool) (new : ClientEnd) (old_session : ℕ) (client : Client)
    (before now : Reporting) → may ≡ not (has_made_most request_channel part)
    → IsGiven old_session part.settings part.came part.sound bytes may None client before now
    → TakesVideo session part bytes false new before now
video_refused session part bytes may new old_session client before now is g =
    (may_not_be_taken (makes_ask (Some bytes) part) may (has_made_most request_channel part) is g.0, g.1)

pub video_taken : (old new : ClientEnd) (session : ℕ) (part : Part) (bytes : List ℕ) (may : Bool) (told : Told) (client : Client)
    (before now : Reporting) → IsClientEndOf old session part → may ≡ not (has_made_most request_channel part)
    → IsGiven old.session part.settings part.came part.sound bytes may (Some told) client before now
    → Counts old told client new → TakesVideo session part bytes true new before now
video_taken old new session part bytes may told client before now h is g counts =
    let t : IsTold old.session part.settings part.came part.sound bytes told client before now = g.1 in
    let arrival = Datagram bytes in
    let lost = as_list (newly_asked part.settings arrival part.came) in
    let frames = newly_handed part.settings arrival part.came in
    let asked : as_list told.ask ≡ lost = ap (λ (o : Option Range). as_list o) t.ask_is in
    let asked_size : length (as_list told.ask) ≡ length lost = ap (λ (l : List Range). length l) asked in
    let more_owed : length (part.owed ++ map Lost lost) ≡ length part.owed + length lost =
    length-append part.owed (map Lost lost) ∙ ap (λ (n : ℕ). length part.owed + n) (length-map lost Lost) in
    let more_asks : length (asks part.settings (arrival ∷ part.came)) ≡ length (asks part.settings part.came) + length lost =
    ap (λ (l : List Range). length l) (arrival_asks part.settings arrival part.came) ∙ length-append (asks part.settings part.came) lost in
    let more_handed : length (handed part.settings (arrival ∷ part.came)) ≡ length (handed part.settings part.came) + length frames =
    ap (λ (l : List Handed). length l) (arrival_hands part.settings arrival part.came) ∙ length-append (handed part.settings part.came) frames in
    let had_owed = h.owed in
    let had_handed = h.sums.handed in
    let had_asks = h.sums.asks in
    let handed_is = t.handed_is in
    let now_owed = counts.owed in
    let now_handed = counts.handed in
    let now_asks = counts.asks in (
      may_be_taken (makes_ask (Some bytes) part) may (has_made_most request_channel part) is g.0,
      record {
        stands = record {
          session_is = counts.session ∙ h.session_is;
          client = subst (λ (c : Client). IsClientOf c part.settings (arrival ∷ part.came) part.sound) (sym counts.client_is) t.stands;
          side = subst (λ (s : ControlSide). IsSideOf s part.client) (sym counts.side) h.side;
          asker = counts.asker ∙ ap (λ (l : List Range). old.asker ++ map Lost l) asked
              ∙ ap (λ (l : List Owed). l ++ map Lost lost) h.asker;
          owed = omega (arith, now_owed, had_owed, asked_size, more_owed);
          sums = record {
            handed = omega (arith, now_handed, had_handed, handed_is, more_handed);
            asks = omega (arith, now_asks, had_asks, asked_size, more_asks);
            units = counts.units ∙ h.sums.units;
          };
        };
        text = t.text ∙ ap (λ (s : ℕ). with_reports before (reports_of s part.settings part.came bytes)) h.session_is;
      },
    )

-- ---- audio

played-more : (s : StreamSettings) (bytes : List ℕ) (sound : List (List ℕ))
    → played s (bytes ∷ sound) ≡ played s sound ++ newly_played s bytes sound
unfolding played
played-more s bytes sound = refl

pub audio_taken : (old new : ClientEnd) (session : ℕ) (part : Part) (bytes : List ℕ) (count : ℕ) (client : Client) (before now : Reporting)
    → IsClientEndOf old session part → Plays old.session part.settings part.came part.sound bytes count client before now
    → new.session ≡ old.session → new.client ≡ client → new.asker ≡ old.asker → new.owed ≡ old.owed → new.side ≡ old.side
    → new.sums.handed ≡ old.sums.handed → new.sums.asks ≡ old.sums.asks → new.sums.units ≡ old.sums.units + count
    → Did (IsClientEndOf new session) (with_audio session bytes part) before now
audio_taken old new session part bytes count client before now h p session_same client_is asker owed side handed_same asks_same units_more =
    let units = newly_played part.settings.stream bytes part.sound in
    let is : count ≡ length units = counted_of (play_report old.session) units count before now p.played in
    let more : length (played part.settings.stream (bytes ∷ part.sound)) ≡ length (played part.settings.stream part.sound) + length units =
    ap (λ (l : List PlayedUnit). length l) (played-more part.settings.stream bytes part.sound) ∙ length-append (played part.settings.stream part.sound) units in
    let had = h.sums.units in
    record {
      stands = record {
        session_is = session_same ∙ h.session_is;
        client = subst (λ (c : Client). IsClientOf c part.settings part.came (bytes ∷ part.sound)) (sym client_is) p.stands;
        side = subst (λ (s : ControlSide). IsSideOf s part.client) (sym side) h.side;
        asker = asker ∙ h.asker;
        owed = owed ∙ h.owed;
        sums = record {
          handed = handed_same ∙ h.sums.handed;
          asks = asks_same ∙ h.sums.asks;
          units = omega (arith, units_more, is, more, had);
        };
      };
      text = p.played.text ∙ ap (λ (s : ℕ). with_reports before (map (play_report s) units)) h.session_is;
    }

-- ---- a reset

both : (a b : Bool) → a ≡ true → b ≡ false → (a && not b) ≡ true
both true false e f = refl
both true true e f = cc
both false b e f = cc

closed_or_most : (a b : Bool) → (not a ≡ true) ⊎ (b ≡ true) → (a && not b) ≡ false
closed_or_most true true e = refl
closed_or_most false b e = refl
closed_or_most true false (inl e) = cc
closed_or_most true false (inr e) = cc

pub reset_done : (old new : ClientEnd) (session : ℕ) (part : Part) (before now : Reporting) → IsClientEndOf old session part
    → is_client_open part ≡ true → has_made_most request_channel part ≡ false
    → IsClientOf new.client part.settings (Reset ∷ part.came) part.sound
    → new.session ≡ old.session → new.asker ≡ old.asker ++ Idr ∷ [] → new.owed ≡ old.owed + 1 → new.side ≡ old.side
    → new.sums ≡ old.sums → now ≡ with_reports before (plain (output.Reset old.session) ∷ [])
    → Resets session part true new before now
unfolding reset
reset_done old new session part before now h open' room client session_same asker owed side sums text =
    let more_owed : length (part.owed ++ Idr ∷ []) ≡ length part.owed + 1 = length-append part.owed (Idr ∷ []) in
    let more_asks : length (asks part.settings (Reset ∷ part.came)) ≡ length (asks part.settings part.came) + 0 =
    ap (λ (l : List Range). length l) (arrival_asks part.settings Reset part.came) ∙ length-append (asks part.settings part.came) [] in
    let no_frames : length (newly_handed part.settings Reset part.came) ≡ 0 =
    ap (λ (l : List Handed). length l) (reset_hands_nothing part.settings part.came) in
    let more_handed : length (handed part.settings (Reset ∷ part.came))
    ≡ length (handed part.settings part.came) + length (newly_handed part.settings Reset part.came) =
    ap (λ (l : List Handed). length l) (arrival_hands part.settings Reset part.came)
    ∙ length-append (handed part.settings part.came) (newly_handed part.settings Reset part.came) in
    let had_owed = h.owed in
    let had_handed = h.sums.handed in
    let had_asks = h.sums.asks in (
      both (is_client_open part) (has_made_most request_channel part) open' room,
      record {
        stands = record {
          session_is = session_same ∙ h.session_is;
          client = client;
          side = subst (λ (s : ControlSide). IsSideOf s part.client) (sym side) h.side;
          asker = asker ∙ ap (λ (l : List Owed). l ++ Idr ∷ []) h.asker;
          owed = omega (arith, owed, had_owed, more_owed);
          sums = record {
            handed = ap (λ (s : ClientSums). s.handed) sums ∙ omega (arith, had_handed, more_handed, no_frames);
            asks = ap (λ (s : ClientSums). s.asks) sums ∙ omega (arith, had_asks, more_asks);
            units = ap (λ (s : ClientSums). s.units) sums ∙ h.sums.units;
          };
        };
        text = text ∙ ap (λ (s : ℕ). with_reports before (plain (output.Reset s) ∷ [])) h.session_is;
      },
    )

pub reset_refused : (session : ℕ) (part : Part) (new : ClientEnd) (before now : Reporting)
    → (not (is_client_open part) ≡ true) ⊎ (has_made_most request_channel part ≡ true)
    → now ≡ before → Resets session part false new before now
reset_refused session part new before now why same =
    (closed_or_most (is_client_open part) (has_made_most request_channel part) why, same)
