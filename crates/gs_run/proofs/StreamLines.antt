-- The lines of frames, asks and played units: what each of these lists gains.
use Rattle.std.proofs.Common.{◌≡◌, ℕ, false, List, [], ◌∷◌, ◌++◌, map, Option, Some, None, refl, sym, ap, subst, ◌∙◌}
use Rattle.std.proofs.lemmas.List.{append-nil, map-append}
use Rattle.gs_refs.specs.declared.entry.Entry.{Entry}
use Rattle.gs_refs.specs.declared.entry.Entry.TheVariants as entry
use Rattle.gs_frames.specs.declared.range.Range.{Range}
use Rattle.gs_frames.specs.Client.{ClientSettings, Arrival, Datagram, Reset}
use Rattle.gs_frames.specs.Handed.{Handed, handed, newly_handed}
use Rattle.gs_frames.specs.Asks.{asks, asks_of, as_list, newly_asked}
use Rattle.gs_frames.proofs.AsksGrow.{arrival_asks}
use Rattle.gs_frames.proofs.HandedGrows.{arrival_hands, reset_hands_nothing}
use Rattle.gs_audio.specs.Played.{played, newly_played}
use Rattle.gs_enet.proofs.Lists.{Each}
use Rattle.gs_enet.specs.World.{came}
use Rattle.gs_run.specs.Session.{Part, handed_of, asked_of, played_of}
use Rattle.gs_run.specs.Report.{Report, ask_report, hand_report, play_report}
use Rattle.gs_run.specs.Hearing.{entry_output}
use Rattle.gs_run.specs.Streaming.{with_video_if, with_audio_if, reset}
use Rattle.gs_run.specs.Giving.{closed_part}
use Rattle.gs_run.specs.ReportLaws.{is_hand, is_ask, is_play}
use Rattle.gs_run.proofs.Reporting.{of_kind, of_kind-append, none_passed, all_passed}
use Rattle.gs_run.proofs.PartLines.{IsOf, Tells, unchanged, none_owned, tells_of}
use Rattle.gs_depack.proofs.Standing.{first-none}

-- ---- the frames that are handed

abbrev pub hands : ℕ → Part → List Report
hands n part = map (hand_report n) (handed_of part)

hand_entries : (n : ℕ) (h : List Entry) (e : Entry) → is_hand (entry_output n h e) ≡ false
hand_entries n h (entry.Sent tick kind reference) = refl
hand_entries n h (entry.Invalid first last) = refl
hand_entries n h entry.IdrAsked = refl
hand_entries n h (entry.Ended first last) = refl

hands_video : (n : ℕ) (o : Option (List ℕ)) (part : Part) → hands n (with_video_if n o part).value ≡ hands n part
    ++ of_kind is_hand (with_video_if n o part).reports
hands_video n None part = sym (append-nil (hands n part))
hands_video n (Some bytes) part =
    let lost = as_list (newly_asked part.settings (Datagram bytes) part.came) in
    let frames = newly_handed part.settings (Datagram bytes) part.came in
    ap (map (hand_report n)) (arrival_hands part.settings (Datagram bytes) part.came) ∙ map-append (hand_report n) (handed_of part) frames
    ∙ ap (λ (l : List Report). hands n part ++ l)
    (sym (of_kind-append is_hand (map (ask_report n) lost) (map (hand_report n) frames)
    ∙ ap (λ (l : List Report). l ++ of_kind is_hand (map (hand_report n) frames)) (none_passed is_hand (ask_report n) (λ r. refl) lost)
    ∙ all_passed is_hand (hand_report n) (λ f. refl) frames))

hands_audio : (n : ℕ) (o : Option (List ℕ)) (part : Part) → hands n (with_audio_if n o part).value ≡ hands n part
    ++ of_kind is_hand (with_audio_if n o part).reports
hands_audio n None part = sym (append-nil (hands n part))
hands_audio n (Some bytes) part =
    unchanged is_hand (hands n part) (map (play_report n) (newly_played part.settings.stream bytes part.sound)) (none_passed is_hand
    (play_report n) (λ u. refl) (newly_played part.settings.stream bytes part.sound))

hands_reset : (n : ℕ) (part : Part) → hands n (record part { came = Reset ∷ part.came }) ≡ hands n part
hands_reset n part =
    ap (map (hand_report n)) (arrival_hands part.settings Reset part.came ∙ ap (λ (l : List Handed). handed_of part
    ++ l) (reset_hands_nothing part.settings part.came)
    ∙ append-nil (handed_of part))

-- lines that are made of a list all name the session
pub owned_map : {X : Type 0} (n : ℕ) (f : X → Report) → ((x : X) → IsOf n (f x)) → (xs : List X) → Each (IsOf n) (map f xs)
owned_map n f of [] = tt
owned_map n f of (x ∷ xs) = (of x, owned_map n f of xs)

hands_lines : (n : ℕ) (lost : List Range) (frames : List Handed) → of_kind is_hand (map (ask_report n) lost ++ map (hand_report n) frames)
    ≡ map (hand_report n) frames
hands_lines n lost frames =
    of_kind-append is_hand (map (ask_report n) lost) (map (hand_report n) frames)
    ∙ ap (λ (l : List Report). l ++ of_kind is_hand (map (hand_report n) frames)) (none_passed is_hand (ask_report n) (λ r. refl) lost)
    ∙ all_passed is_hand (hand_report n) (λ f. refl) frames

hands_owned : (n : ℕ) (o : Option (List ℕ)) (part : Part) → Each (IsOf n) (of_kind is_hand (with_video_if n o part).reports)
hands_owned n None part = tt
hands_owned n (Some bytes) part =
    let frames = newly_handed part.settings (Datagram bytes) part.came in
    subst (Each (IsOf n)) (sym (hands_lines n (as_list (newly_asked part.settings (Datagram bytes) part.came)) frames))
    (owned_map n (hand_report n) (λ f. refl) frames)

hands_audio_owned : (n : ℕ) (o : Option (List ℕ)) (part : Part) → Each (IsOf n) (of_kind is_hand (with_audio_if n o part).reports)
hands_audio_owned n None part = tt
hands_audio_owned n (Some bytes) part =
    let units = newly_played part.settings.stream bytes part.sound in
    none_owned is_hand n (map (play_report n) units) (none_passed is_hand (play_report n) (λ u. refl) units)

pub tells_hands : Tells is_hand hands
tells_hands = tells_of is_hand hands (record {
  stream = record {
    quiet = record { entries = hand_entries; full = λ n c. refl; closed = λ n. refl; lost = λ n. refl; reset = λ n. refl };
    inputs = λ n c e. refl;
  };
  same = λ n old new k. subst (λ (s : ClientSettings). map (hand_report n) (handed s new.came) ≡ hands n old) (sym k.settings)
      (ap (λ (c : List Arrival). map (hand_report n) (handed old.settings c)) k.came);
  empty = λ n part none sound. ap (λ (c : List Arrival). map (hand_report n) (handed part.settings c)) none
      ∙ ap (map (hand_report n)) (first-none part.settings);
  video = hands_video;
  audio = hands_audio;
  resets = hands_reset;
  video_owned = hands_owned;
  audio_owned = hands_audio_owned;
})

-- ---- the ranges that are asked for

abbrev pub asked : ℕ → Part → List Report
asked n part = map (ask_report n) (asked_of part)

ask_entries : (n : ℕ) (h : List Entry) (e : Entry) → is_ask (entry_output n h e) ≡ false
ask_entries n h (entry.Sent tick kind reference) = refl
ask_entries n h (entry.Invalid first last) = refl
ask_entries n h entry.IdrAsked = refl
ask_entries n h (entry.Ended first last) = refl

no_asks : (settings : ClientSettings) → asks settings [] ≡ []
unfolding asks asks_of
no_asks settings = refl

asks_video : (n : ℕ) (o : Option (List ℕ)) (part : Part) → asked n (with_video_if n o part).value ≡ asked n part
    ++ of_kind is_ask (with_video_if n o part).reports
asks_video n None part = sym (append-nil (asked n part))
asks_video n (Some bytes) part =
    let lost = as_list (newly_asked part.settings (Datagram bytes) part.came) in
    let frames = newly_handed part.settings (Datagram bytes) part.came in
    ap (map (ask_report n)) (arrival_asks part.settings (Datagram bytes) part.came) ∙ map-append (ask_report n) (asked_of part) lost
    ∙ ap (λ (l : List Report). asked n part ++ l)
    (sym (of_kind-append is_ask (map (ask_report n) lost) (map (hand_report n) frames)
    ∙ ap (λ (l : List Report). of_kind is_ask (map (ask_report n) lost) ++ l) (none_passed is_ask (hand_report n) (λ f. refl) frames)
    ∙ append-nil (of_kind is_ask (map (ask_report n) lost)) ∙ all_passed is_ask (ask_report n) (λ r. refl) lost))

asks_audio : (n : ℕ) (o : Option (List ℕ)) (part : Part) → asked n (with_audio_if n o part).value ≡ asked n part
    ++ of_kind is_ask (with_audio_if n o part).reports
asks_audio n None part = sym (append-nil (asked n part))
asks_audio n (Some bytes) part =
    unchanged is_ask (asked n part) (map (play_report n) (newly_played part.settings.stream bytes part.sound)) (none_passed is_ask
    (play_report n) (λ u. refl) (newly_played part.settings.stream bytes part.sound))

asks_reset : (n : ℕ) (part : Part) → asked n (record part { came = Reset ∷ part.came }) ≡ asked n part
asks_reset n part = ap (map (ask_report n)) (arrival_asks part.settings Reset part.came ∙ append-nil (asked_of part))

asks_lines : (n : ℕ) (lost : List Range) (frames : List Handed) → of_kind is_ask (map (ask_report n) lost ++ map (hand_report n) frames)
    ≡ map (ask_report n) lost
asks_lines n lost frames =
    of_kind-append is_ask (map (ask_report n) lost) (map (hand_report n) frames)
    ∙ ap (λ (l : List Report). of_kind is_ask (map (ask_report n) lost) ++ l) (none_passed is_ask (hand_report n) (λ f. refl) frames)
    ∙ append-nil (of_kind is_ask (map (ask_report n) lost)) ∙ all_passed is_ask (ask_report n) (λ r. refl) lost

asks_owned : (n : ℕ) (o : Option (List ℕ)) (part : Part) → Each (IsOf n) (of_kind is_ask (with_video_if n o part).reports)
asks_owned n None part = tt
asks_owned n (Some bytes) part =
    let lost = as_list (newly_asked part.settings (Datagram bytes) part.came) in
    subst (Each (IsOf n)) (sym (asks_lines n lost (newly_handed part.settings (Datagram bytes) part.came))) (owned_map n (ask_report n) (λ r. refl) lost)

asks_audio_owned : (n : ℕ) (o : Option (List ℕ)) (part : Part) → Each (IsOf n) (of_kind is_ask (with_audio_if n o part).reports)
asks_audio_owned n None part = tt
asks_audio_owned n (Some bytes) part =
    let units = newly_played part.settings.stream bytes part.sound in
    none_owned is_ask n (map (play_report n) units) (none_passed is_ask (play_report n) (λ u. refl) units)

pub tells_asks : Tells is_ask asked
tells_asks = tells_of is_ask asked (record {
  stream = record {
    quiet = record { entries = ask_entries; full = λ n c. refl; closed = λ n. refl; lost = λ n. refl; reset = λ n. refl };
    inputs = λ n c e. refl;
  };
  same = λ n old new k. subst (λ (s : ClientSettings). map (ask_report n) (asks s new.came) ≡ asked n old) (sym k.settings)
      (ap (λ (c : List Arrival). map (ask_report n) (asks old.settings c)) k.came);
  empty = λ n part none sound. ap (λ (c : List Arrival). map (ask_report n) (asks part.settings c)) none ∙ ap (map (ask_report n)) (no_asks part.settings);
  video = asks_video;
  audio = asks_audio;
  resets = asks_reset;
  video_owned = asks_owned;
  audio_owned = asks_audio_owned;
})

-- ---- the audio units that are played

abbrev pub plays : ℕ → Part → List Report
plays n part = map (play_report n) (played_of part)

play_entries : (n : ℕ) (h : List Entry) (e : Entry) → is_play (entry_output n h e) ≡ false
play_entries n h (entry.Sent tick kind reference) = refl
play_entries n h (entry.Invalid first last) = refl
play_entries n h entry.IdrAsked = refl
play_entries n h (entry.Ended first last) = refl

plays_none : (n : ℕ) (part : Part) → part.sound ≡ [] → plays n part ≡ []
unfolding played
plays_none n part none = ap (λ (c : List (List ℕ)). map (play_report n) (played part.settings.stream c)) none

plays_video : (n : ℕ) (o : Option (List ℕ)) (part : Part) → plays n (with_video_if n o part).value ≡ plays n part
    ++ of_kind is_play (with_video_if n o part).reports
plays_video n None part = sym (append-nil (plays n part))
plays_video n (Some bytes) part =
    let lost = as_list (newly_asked part.settings (Datagram bytes) part.came) in
    let frames = newly_handed part.settings (Datagram bytes) part.came in
    unchanged is_play (plays n part) (map (ask_report n) lost ++ map (hand_report n) frames)
    (of_kind-append is_play (map (ask_report n) lost) (map (hand_report n) frames)
    ∙ ap (λ (l : List Report). l ++ of_kind is_play (map (hand_report n) frames)) (none_passed is_play (ask_report n) (λ r. refl) lost)
    ∙ none_passed is_play (hand_report n) (λ f. refl) frames)

plays_audio : (n : ℕ) (o : Option (List ℕ)) (part : Part) → plays n (with_audio_if n o part).value ≡ plays n part
    ++ of_kind is_play (with_audio_if n o part).reports
unfolding played
plays_audio n None part = sym (append-nil (plays n part))
plays_audio n (Some bytes) part =
    let units = newly_played part.settings.stream bytes part.sound in
    map-append (play_report n) (played_of part) units
    ∙ ap (λ (l : List Report). plays n part ++ l) (sym (all_passed is_play (play_report n) (λ u. refl) units))

plays_none_of : (n : ℕ) (lost : List Range) (frames : List Handed) → of_kind is_play (map (ask_report n) lost ++ map (hand_report n) frames) ≡ []
plays_none_of n lost frames =
    of_kind-append is_play (map (ask_report n) lost) (map (hand_report n) frames)
    ∙ ap (λ (l : List Report). l ++ of_kind is_play (map (hand_report n) frames)) (none_passed is_play (ask_report n) (λ r. refl) lost)
    ∙ none_passed is_play (hand_report n) (λ f. refl) frames

plays_owned : (n : ℕ) (o : Option (List ℕ)) (part : Part) → Each (IsOf n) (of_kind is_play (with_audio_if n o part).reports)
plays_owned n None part = tt
plays_owned n (Some bytes) part =
    let units = newly_played part.settings.stream bytes part.sound in
    subst (Each (IsOf n)) (sym (all_passed is_play (play_report n) (λ u. refl) units)) (owned_map n (play_report n) (λ u. refl) units)

plays_video_owned : (n : ℕ) (o : Option (List ℕ)) (part : Part) → Each (IsOf n) (of_kind is_play (with_video_if n o part).reports)
plays_video_owned n None part = tt
plays_video_owned n (Some bytes) part =
    let lost = as_list (newly_asked part.settings (Datagram bytes) part.came) in
    let frames = newly_handed part.settings (Datagram bytes) part.came in
    none_owned is_play n (map (ask_report n) lost ++ map (hand_report n) frames) (plays_none_of n lost frames)

pub tells_plays : Tells is_play plays
tells_plays = tells_of is_play plays (record {
  stream = record {
    quiet = record { entries = play_entries; full = λ n c. refl; closed = λ n. refl; lost = λ n. refl; reset = λ n. refl };
    inputs = λ n c e. refl;
  };
  same = λ n old new k. subst (λ (s : ClientSettings). map (play_report n) (played s.stream new.sound) ≡ plays n old) (sym k.settings)
      (ap (λ (c : List (List ℕ)). map (play_report n) (played old.settings.stream c)) k.sound);
  empty = λ n part none sound. plays_none n part sound;
  video = plays_video;
  audio = plays_audio;
  resets = λ n part. refl;
  video_owned = plays_video_owned;
  audio_owned = plays_owned;
})
