-- The law at work, at windows of one and two frames and behind resets: its premises are met, and it doesn't hold of just
-- any frames.
use Rattle.std.proofs.Common.{ℕ, ◌≡◌, ◌+◌, ◌-◌, ◌*◌, ◌^◌, ◌<◌, ◌≤◌, List, [], ◌∷◌, Option, Some, None, map, get_or, length, refl, replicate, arith, inl, lit<}
use Rattle.std.proofs.Common.{lit≤, rules}
use Rattle.std.specs.List.{All, AllByRecursion}
use Rattle.std.proofs.lemmas.List.Elements.{All-cons, All-nil, All-replicate, All-from_recursion, Contains-get_or}
use Rattle.gs_rtp.specs.Stream.{StreamSettings}
use Rattle.gs_tape.specs.Tick.{Tick, Delta}
use Rattle.gs_tape.specs.Limits.{IsWithinLimits, AreDeltasBetween, HoldsBytes}
use Rattle.gs_refs.specs.declared.entry.Entry.{Entry}
use Rattle.gs_refs.specs.declared.entry.Entry.TheVariants.{Sent, Invalid, IdrAsked}
use Rattle.gs_refs.specs.Choice.{IsLegal}
use Rattle.gs_frames.specs.Image.{frame_image, frame_of}
use Rattle.gs_frames.specs.Plan.{fec_plan}
use Rattle.gs_frames.specs.Datagrams.{frame_shards, frame_datagrams}
use Rattle.gs_frames.specs.Client.{ClientSettings, HasWindow, Arrival, Datagram, Reset}
use Rattle.gs_frames.specs.Received.{received}
use Rattle.gs_frames.specs.Verdict.{counting}
use Rattle.gs_frames.specs.Complete.{complete}
use Rattle.gs_frames.specs.Settled.{settled}
use Rattle.gs_frames.specs.Handed.{handed, handed_through}
use Rattle.gs_frames.specs.Asks.{asks, asks_of}
use Rattle.gs_stream.specs.Video.{video_stream}
use Rattle.gs_stream.specs.HandedLaws.{IsHostHistory}
use Rattle.gs_stream.specs.Paired.{IsOfStream}
use Rattle.gs_pair.specs.References.{ReferencesHeld, ReferencesHeldSince, handed_frames, reset_cuts}
use Rattle.gs_pair.proofs.Joined.{references_were_handed}

silent : StreamSettings
silent = record { packet = 1024; percentage = 0; minimum = 0; fps = 60; duration = 5; audio = 0; ssrc = 1 }

abbrev client : ℕ → ClientSettings
client window = record { stream = silent; window = window }

one_frame : HasWindow (client 1)
one_frame = record { least = lit≤ tt; greatest = lit≤ tt }

two_frames : HasWindow (client 2)
two_frames = record { least = lit≤ tt; greatest = lit≤ tt }

-- ---- a capture, each of whose ticks has a delta against each before it

abbrev deltas : ℕ → List ℕ → List Delta
deltas n against = map (λ k. record { named = k; unit = replicate 4 (16 * n + k) }) against

abbrev tick : ℕ → List ℕ → Tick
tick n against = record { number = n; time = 0; idr = replicate 5 n; deltas = deltas n against; audio = [] }

abbrev capture : List Tick
capture = tick 1 [] ∷ tick 2 (1 ∷ []) ∷ tick 3 (1 ∷ 2 ∷ []) ∷ tick 4 (1 ∷ 2 ∷ 3 ∷ []) ∷ tick 5 (1 ∷ 2 ∷ 3 ∷ 4 ∷ []) ∷ []

-- The ticks keep the limits of a file without audio, and hold bytes.
deltas_hold : (n above : ℕ) (ks : List ℕ) → n < 16 → AreDeltasBetween above n (deltas n ks) → All (λ d. All (λ b. b < 2 ^ 8) d.unit) (deltas n ks)
deltas_hold n above [] low between = All-nil (λ (d : Delta). All (λ b. b < 2 ^ 8) d.unit)
deltas_hold n above (k ∷ ks) low between =
    All-cons (λ (d : Delta). All (λ b. b < 2 ^ 8) d.unit) (record { named = k; unit = replicate 4 (16 * n + k) }) (deltas n ks)
    (All-replicate (λ b. b < 2 ^ 8) 4 (16 * n + k) (omega (arith, between.1)))
    (deltas_hold n k ks low between.3)

abbrev IsKept : ℕ → Tick → Type 0
IsKept n t = IsWithinLimits 0 n 0 t × HoldsBytes t

kept : (n : ℕ) (against : List ℕ) → n < 16 → length (deltas n against) ≤ 16 → AreDeltasBetween 0 n (deltas n against) → IsKept n (tick n against)
kept n against low few between = (
  record {
    number_is = refl;
    number_most = omega arith;
    not_earlier = omega arith;
    time_fits = lit< tt;
    idr_most = lit≤ tt;
    deltas_most = few;
    deltas_between = between;
    audio_most = lit≤ tt;
    silent = λ e. refl;
    audio_whole = All-nil (λ unit. length unit ≡ 0);
  },
  record {
    idr = All-replicate (λ b. b < 2 ^ 8) 5 n (omega arith);
    deltas = deltas_hold n 0 against low between;
    audio = All-nil (All (λ b. b < 2 ^ 8));
  },
)

host_of : (h : List Entry) → IsLegal capture h → IsHostHistory silent capture h
unfolding silent
host_of h legal =
    let first : IsKept 1 (tick 1 []) = kept 1 [] (lit< tt) (lit≤ tt) (search rules) in
    let second : IsKept 2 (tick 2 (1 ∷ [])) = kept 2 (1 ∷ []) (lit< tt) (lit≤ tt) (search rules) in
    let third : IsKept 3 (tick 3 (1 ∷ 2 ∷ [])) = kept 3 (1 ∷ 2 ∷ []) (lit< tt) (lit≤ tt) (search rules) in
    let fourth : IsKept 4 (tick 4 (1 ∷ 2 ∷ 3 ∷ [])) = kept 4 (1 ∷ 2 ∷ 3 ∷ []) (lit< tt) (lit≤ tt) (search rules) in
    let fifth : IsKept 5 (tick 5 (1 ∷ 2 ∷ 3 ∷ 4 ∷ [])) = kept 5 (1 ∷ 2 ∷ 3 ∷ 4 ∷ []) (lit< tt) (lit≤ tt) (search rules) in
    record {
      limits = record {
        packet_least = lit≤ tt;
        packet_greatest = lit≤ tt;
        percentage_greatest = lit≤ tt;
        minimum_greatest = lit≤ tt;
        fps_least = lit≤ tt;
        fps_greatest = lit≤ tt;
        duration_known = inl refl;
        audio_greatest = lit≤ tt;
        ssrc_least = lit≤ tt;
        ssrc_greatest = lit≤ tt;
      };
      capture = (first.0, (second.0, (third.0, (fourth.0, (fifth.0, tt)))));
      bytes = All-from_recursion HoldsBytes capture (first.1, (second.1, (third.1, (fourth.1, (fifth.1, tt)))));
      legal = legal;
    }

-- What a client was given, the newest first: datagrams of a stream by their numbers, from 1, and resets. Here each frame
-- is one datagram.
abbrev given : List (List ℕ) → List (Option ℕ) → List Arrival
given stream [] = []
given stream (Some k ∷ ks) = Datagram (get_or stream (k - 1) []) ∷ given stream ks
given stream (None ∷ ks) = Reset ∷ given stream ks

abbrev IsNumber : ℕ → Option ℕ → Type 0
IsNumber count None = Unit {0}
IsNumber count (Some k) = k - 1 < count

all_sent : (stream : List (List ℕ)) (ks : List (Option ℕ)) → AllByRecursion (IsNumber (length stream)) ks → All (IsOfStream stream) (given stream ks)
all_sent stream [] numbers = All-nil (IsOfStream stream)
all_sent stream (Some k ∷ ks) numbers =
    All-cons (IsOfStream stream) (Datagram (get_or stream (k - 1) [])) (given stream ks) (Contains-get_or stream (k - 1) [] numbers.0)
    (all_sent stream ks numbers.1)
all_sent stream (None ∷ ks) numbers = All-cons (IsOfStream stream) Reset (given stream ks) tt (all_sent stream ks numbers.1)

-- ---- a frame that is lost

-- Frame 2 is lost, frames 3 and 4 follow it and aren't handed, and frame 5 goes out against frame 1 once the host was
-- told.
abbrev five : List Entry
five = Sent 5 5 1 ∷ Invalid 2 2 ∷ Sent 4 1 3 ∷ Sent 3 1 2 ∷ Sent 2 1 1 ∷ Sent 1 2 0 ∷ []

legal_four : IsLegal capture (Sent 4 1 3 ∷ Sent 3 1 2 ∷ Sent 2 1 1 ∷ Sent 1 2 0 ∷ [])
legal_four =
    let one : IsLegal capture (Sent 1 2 0 ∷ []) = (tt, refl, (lit< tt, tick 1 [], refl, refl)) in
    let two : IsLegal capture (Sent 2 1 1 ∷ Sent 1 2 0 ∷ []) = (one, refl, (lit< tt, tick 2 (1 ∷ []), refl, refl)) in
    let three : IsLegal capture (Sent 3 1 2 ∷ Sent 2 1 1 ∷ Sent 1 2 0 ∷ []) = (two, refl, (lit< tt, tick 3 (1 ∷ 2 ∷ []), refl, refl)) in
    (three, refl, (lit< tt, tick 4 (1 ∷ 2 ∷ 3 ∷ []), refl, refl))

host_five : IsHostHistory silent capture five
host_five = host_of five ((legal_four, refl, (lit≤ tt, lit≤ tt, lit≤ tt)), refl, (lit< tt, tick 5 (1 ∷ 2 ∷ 3 ∷ 4 ∷ []), refl, refl))

abbrev stream_five : List (List ℕ)
stream_five = video_stream silent capture five

five_sent : length stream_five ≡ 5
unfolding silent video_stream frame_datagrams frame_shards fec_plan
five_sent = refl

abbrev lost : List (Option ℕ)
lost = Some 5 ∷ Some 4 ∷ Some 3 ∷ Some 1 ∷ []

of_five : (ks : List (Option ℕ)) → AllByRecursion (IsNumber 5) ks → All (IsOfStream stream_five) (given stream_five ks)
of_five ks numbers = all_sent stream_five ks (by ks numbers)
  where
    by : (ks' : List (Option ℕ)) → AllByRecursion (IsNumber 5) ks' → AllByRecursion (IsNumber (length stream_five)) ks'
    by [] is = tt
    by (None ∷ ks') is = (tt, by ks' is.1)
    by (Some k ∷ ks') is = (omega (arith, five_sent, is.0), by ks' is.1)

-- The host was told what the client asked for, so the law says that the references of what is handed are held; that is
-- frame 1 and then frame 5.
lost_asked : asks (client 1) (given stream_five lost) ≡ record { first = 2; last = 2 } ∷ []
unfolding silent video_stream frame_datagrams frame_shards fec_plan frame_image asks asks_of received counting complete frame_of
lost_asked = refl

lost_held : ReferencesHeld five (handed_frames (client 1) (given stream_five lost))
lost_held =
    references_were_handed (client 1) capture five (given stream_five lost) one_frame host_five
    (record { sent = of_five lost (lit< tt, (lit< tt, (lit< tt, (lit< tt, tt)))); asked = ([], lost_asked) })

lost_handed : handed_frames (client 1) (given stream_five lost) ≡ 1 ∷ 5 ∷ []
unfolding silent video_stream frame_datagrams frame_shards fec_plan frame_image handed handed_through settled received counting complete frame_of
lost_handed = refl

-- Frame 5 can't be handed first, alone or with frame 1 behind it: its reference isn't held. Nor with a reset between.
not_first : (rest : List ℕ) → ReferencesHeld five (5 ∷ rest) → ⊥
not_first rest holds = let found = holds 0 1 (omega arith) refl in omega (arith, found.earlier)

not_alone : ReferencesHeld five (5 ∷ []) → ⊥
not_alone = not_first []

not_behind : ReferencesHeld five (5 ∷ 1 ∷ []) → ⊥
not_behind = not_first (1 ∷ [])

not_parted : ReferencesHeldSince five (1 ∷ 5 ∷ []) (1 ∷ []) → ⊥
not_parted holds =
    let found = holds 1 1 (omega arith) refl in
    let earlier = found.earlier in
    let from = found.together 0 0 (omega arith) (omega arith) in
    omega arith

-- With a reset before the first frame, which is an IDR frame, all is the same.
abbrev early : List (Option ℕ)
early = Some 5 ∷ Some 4 ∷ Some 3 ∷ Some 1 ∷ None ∷ []

early_asked : asks (client 2) (given stream_five early) ≡ record { first = 2; last = 2 } ∷ []
unfolding silent video_stream frame_datagrams frame_shards fec_plan frame_image asks asks_of received counting complete frame_of
early_asked = refl

early_held : ReferencesHeldSince five (handed_frames (client 2) (given stream_five early)) (reset_cuts (client 2) (given stream_five early))
early_held =
    references_were_handed (client 2) capture five (given stream_five early) two_frames host_five
    (record { sent = of_five early (lit< tt, (lit< tt, (lit< tt, (lit< tt, (tt, tt))))); asked = ([], early_asked) })

early_handed : (handed_frames (client 2) (given stream_five early) ≡ 1 ∷ 5 ∷ []) × (reset_cuts (client 2) (given stream_five early) ≡ 0 ∷ [])
unfolding silent video_stream frame_datagrams frame_shards fec_plan frame_image handed handed_through settled received counting complete frame_of
early_handed = (refl, refl)

-- Behind a reset frame 5 isn't handed, though frame 1 was.
abbrev barred : List (Option ℕ)
barred = Some 5 ∷ None ∷ Some 4 ∷ Some 3 ∷ Some 1 ∷ []

barred_handed : (handed_frames (client 2) (given stream_five barred) ≡ 1 ∷ []) × (reset_cuts (client 2) (given stream_five barred) ≡ 1 ∷ [])
unfolding silent video_stream frame_datagrams frame_shards fec_plan frame_image handed handed_through settled received counting complete frame_of
barred_handed = (refl, refl)

-- ---- a frame that comes late

-- Frame 2 comes behind frame 3. A window of two frames hands all, and one of a single frame none but the first.
abbrev four : List Entry
four = Sent 4 1 3 ∷ Sent 3 1 2 ∷ Sent 2 1 1 ∷ Sent 1 2 0 ∷ []

abbrev late : List Arrival
late = given (video_stream silent capture four) (Some 4 ∷ Some 2 ∷ Some 3 ∷ Some 1 ∷ [])

late_two : (handed_frames (client 2) late ≡ 1 ∷ 2 ∷ 3 ∷ 4 ∷ []) × (asks (client 2) late ≡ [])
unfolding silent video_stream frame_datagrams frame_shards fec_plan frame_image handed handed_through settled asks asks_of received counting complete frame_of
late_two = (refl, refl)

late_one : (handed_frames (client 1) late ≡ 1 ∷ []) × (asks (client 1) late ≡ record { first = 2; last = 2 } ∷ [])
unfolding silent video_stream frame_datagrams frame_shards fec_plan frame_image handed handed_through settled asks asks_of received counting complete frame_of
late_one = (refl, refl)

four_sent : length (video_stream silent capture four) ≡ 4
unfolding silent video_stream frame_datagrams frame_shards fec_plan
four_sent = refl

late_held : ReferencesHeld four (handed_frames (client 2) late)
late_held =
    let stream = video_stream silent capture four in
    references_were_handed (client 2) capture four late two_frames (host_of four legal_four) (record {
      sent = all_sent stream (Some 4 ∷ Some 2 ∷ Some 3 ∷ Some 1 ∷ [])
          (omega (arith, four_sent), (omega (arith, four_sent), (omega (arith, four_sent), (omega (arith, four_sent), tt))));
      asked = ([], late_two.1);
    })

-- ---- a decoder that is reset

-- Behind the reset frame 2 is barred, until the IDR frame that the client asked for.
abbrev freed : List Entry
freed = Sent 4 1 3 ∷ Sent 3 2 0 ∷ IdrAsked ∷ Sent 2 1 1 ∷ Sent 1 2 0 ∷ []

abbrev reset : List Arrival
reset = given (video_stream silent capture freed) (Some 4 ∷ Some 3 ∷ Some 2 ∷ None ∷ Some 1 ∷ [])

legal_freed : IsLegal capture freed
legal_freed =
    let one : IsLegal capture (Sent 1 2 0 ∷ []) = (tt, refl, (lit< tt, tick 1 [], refl, refl)) in
    let two : IsLegal capture (Sent 2 1 1 ∷ Sent 1 2 0 ∷ []) = (one, refl, (lit< tt, tick 2 (1 ∷ []), refl, refl)) in
    let asked : IsLegal capture (IdrAsked ∷ Sent 2 1 1 ∷ Sent 1 2 0 ∷ []) = (two, refl, tt) in
    let three : IsLegal capture (Sent 3 2 0 ∷ IdrAsked ∷ Sent 2 1 1 ∷ Sent 1 2 0 ∷ []) = (asked, refl, (lit< tt, tick 3 (1 ∷ 2 ∷ []), refl, refl)) in
    (three, refl, (lit< tt, tick 4 (1 ∷ 2 ∷ 3 ∷ []), refl, refl))

freed_sent : length (video_stream silent capture freed) ≡ 4
unfolding silent video_stream frame_datagrams frame_shards fec_plan
freed_sent = refl

reset_asked : asks (client 2) reset ≡ []
unfolding silent video_stream frame_datagrams frame_shards fec_plan frame_image asks asks_of received counting complete frame_of
reset_asked = refl

reset_handed : (handed_frames (client 2) reset ≡ 1 ∷ 3 ∷ 4 ∷ []) × (reset_cuts (client 2) reset ≡ 1 ∷ [])
unfolding silent video_stream frame_datagrams frame_shards fec_plan frame_image handed handed_through settled received counting complete frame_of
reset_handed = (refl, refl)

reset_held : ReferencesHeldSince freed (handed_frames (client 2) reset) (reset_cuts (client 2) reset)
reset_held =
    let stream = video_stream silent capture freed in
    references_were_handed (client 2) capture freed reset two_frames (host_of freed legal_freed) (record {
      sent = all_sent stream (Some 4 ∷ Some 3 ∷ Some 2 ∷ None ∷ Some 1 ∷ [])
          (omega (arith, freed_sent), (omega (arith, freed_sent), (omega (arith, freed_sent), (tt, (omega (arith, freed_sent), tt)))));
      asked = ([], reset_asked);
    })

-- Were frame 2 handed behind the reset, its reference wouldn't be held.
barred_delta : ReferencesHeldSince freed (1 ∷ 2 ∷ []) (1 ∷ []) → ⊥
barred_delta holds =
    let found = holds 1 1 (omega arith) refl in
    let earlier = found.earlier in
    let from = found.together 0 0 (omega arith) (omega arith) in
    omega arith
