-- Each datagram of a host's history is of one frame, and what is received of it is among what is received of that
-- frame.
use Rattle.std.proofs.Common.{◌≡◌, ◌≤◌, ◌+◌, ℕ, suc, List, [], ◌∷◌, length, map, Option, Some, refl, sym, ap, subst, ◌∙◌, arith}
use Rattle.std.specs.Prelude.{◌==◌}
use Rattle.std.specs.List.{All, Contains}
use Rattle.std.proofs.lemmas.Bool.{cond-true, cond-false, eq-eqb, ne_eqb}
use Rattle.std.proofs.lemmas.List.Elements.{All-nil, All-cons, All-append, All-weaker, All-contains, All-contains_itself}
use Rattle.gs_rtp.specs.Stream.{StreamSettings}
use Rattle.gs_tape.specs.Tick.{Tick}
use Rattle.gs_refs.specs.declared.entry.Entry.{Entry}
use Rattle.gs_refs.specs.declared.entry.Entry.TheVariants.{Sent, Invalid, IdrAsked, Ended}
use Rattle.gs_refs.specs.History.{frames, sent_frame}
use Rattle.gs_refs.proofs.Lookups.{sent_behind, sent_frame-sent, sent_frame-before}
use Rattle.gs_frames.specs.Client.{ClientSettings, Arrival, Datagram, Reset}
use Rattle.gs_frames.specs.Received.{Received, received, taken_one, taken}
use Rattle.gs_frames.proofs.FramesReceived.{frame_is_received}
use Rattle.gs_frames.proofs.SentBlocks.{frame_shards-frame}
use Rattle.gs_stream.specs.Video.{sent_datagrams, video_stream}
use Rattle.gs_frames.specs.CompleteLaws.{ComesFrom}
use Rattle.gs_stream.specs.Paired.{IsOfStream, AreOfHistory}
use Rattle.gs_stream.specs.HandedLaws.{IsHostHistory}
use Rattle.gs_bytes.proofs.Lists.{All-filter_map}
use Rattle.gs_stream.proofs.FrameStreams.{count_before, datagrams_by, datagrams_of_frame, received_of, IsOfSentFrame, IsReceivedOfSentFrame, sent_out}
use Rattle.gs_stream.proofs.SentFrames.{frame_is_sent}

-- ---- lists

-- where a function answers all of a list's members by the members of another, each by one of them
contained_answers : {X Y : Type 0} (g : X → Option Y) (xs : List X) (ys : List Y) → map g xs ≡ map (λ y. Some y) ys
    → All (λ x. (y : Y) × (g x ≡ Some y) × Contains ys y) xs
contained_answers {X} {Y} g [] ys same = All-nil (λ x. (y : Y) × (g x ≡ Some y) × Contains ys y)
contained_answers g (x ∷ xs) [] same = absurd (cc same)
contained_answers {X} {Y} g (x ∷ xs) (y ∷ ys) same =
    let first : g x ≡ Some y = cc in
    let rest : map g xs ≡ map (λ y. Some y) ys = cc in
    let Among : X → Type 0 = λ x'. (y' : Y) × (g x' ≡ Some y') × Contains (y ∷ ys) y' in
    All-cons Among x xs (y, first, (0, omega arith, refl))
    (All-weaker (λ x'. (y' : Y) × (g x' ≡ Some y') × Contains ys y') Among (λ x' a. (a.0, a.1, (suc a.2.0, omega (arith, a.2.1), a.2.2))) xs
    (contained_answers g xs ys rest))

-- ---- the datagrams

-- the frame that went out last
frame-last : (settings : StreamSettings) (ticks : List Tick) (h : List Entry) (tick kind reference : ℕ)
    → datagrams_of_frame settings ticks (Sent tick kind reference ∷ h) (frames h + 1)
    ≡ sent_datagrams settings ticks (length (video_stream settings ticks h)) (frames h + 1) (sent_behind h tick kind reference)
frame-last settings ticks h tick kind reference =
    let now = Sent tick kind reference ∷ h in
    let f = frames h + 1 in
    let count = cond-true (f == f) (length (video_stream settings ticks h)) (count_before settings ticks h f) (eq-eqb f f refl) in
    ap (λ (n : ℕ). datagrams_by settings ticks f n (sent_frame now f)) count
    ∙ ap (datagrams_by settings ticks f (length (video_stream settings ticks h))) (sent_frame-sent h tick kind reference f refl)

-- the frames before it
frame-before : (settings : StreamSettings) (ticks : List Tick) (h : List Entry) (tick kind reference f : ℕ) → f ≤ frames h
    → datagrams_of_frame settings ticks (Sent tick kind reference ∷ h) f ≡ datagrams_of_frame settings ticks h f
frame-before settings ticks h tick kind reference f before =
    let now = Sent tick kind reference ∷ h in
    let other : f ≡ frames h + 1 → ⊥ = λ e. absurd (omega (arith, e)) in
    let count =
    cond-false (f == frames h + 1) (length (video_stream settings ticks h)) (count_before settings ticks h f) (ne_eqb f (frames h + 1) other) in
    ap (λ (n : ℕ). datagrams_by settings ticks f n (sent_frame now f)) count
    ∙ ap (datagrams_by settings ticks f (count_before settings ticks h f)) (sent_frame-before h tick kind reference f other)

-- a datagram of a frame stays one when one more frame goes out
of_frame-before : (settings : StreamSettings) (ticks : List Tick) (h : List Entry) (tick kind reference : ℕ) (datagram : List ℕ)
    → IsOfSentFrame settings ticks h datagram → IsOfSentFrame settings ticks (Sent tick kind reference ∷ h) datagram
of_frame-before settings ticks h tick kind reference datagram is =
    let greatest : is.frame ≤ frames h = is.greatest in
    let Among : List (List ℕ) → Type 0 = λ all. Contains all datagram in
    record {
      frame = is.frame;
      least = is.least;
      greatest = omega arith;
      among = subst Among (sym (frame-before settings ticks h tick kind reference is.frame greatest)) is.among;
    }

-- a datagram of the frame that went out last
of_frame-last : (settings : StreamSettings) (ticks : List Tick) (h : List Entry) (tick kind reference : ℕ) (datagram : List ℕ)
    → Contains (sent_datagrams settings ticks (length (video_stream settings ticks h)) (frames h + 1) (sent_behind h tick kind reference)) datagram
    → IsOfSentFrame settings ticks (Sent tick kind reference ∷ h) datagram
of_frame-last settings ticks h tick kind reference datagram among =
    let Among : List (List ℕ) → Type 0 = λ all. Contains all datagram in
    record {
      frame = frames h + 1;
      least = omega arith;
      greatest = omega arith;
      among = subst Among (sym (frame-last settings ticks h tick kind reference)) among;
    }

-- each datagram of a history is of a frame that was sent
pub datagrams_are_of_frames : (settings : StreamSettings) (ticks : List Tick) (h : List Entry)
    → All (IsOfSentFrame settings ticks h) (video_stream settings ticks h)
unfolding video_stream
datagrams_are_of_frames settings ticks [] = All-nil (IsOfSentFrame settings ticks [])
datagrams_are_of_frames settings ticks (Sent tick kind reference ∷ h) =
    let now = Sent tick kind reference ∷ h in
    let before = video_stream settings ticks h in
    let more = sent_datagrams settings ticks (length before) (frames h + 1) (sent_behind h tick kind reference) in
    All-append (IsOfSentFrame settings ticks now) before more
    (All-weaker (IsOfSentFrame settings ticks h) (IsOfSentFrame settings ticks now) (of_frame-before settings ticks h tick kind reference) before
    (datagrams_are_of_frames settings ticks h))
    (All-weaker (Contains more) (IsOfSentFrame settings ticks now) (of_frame-last settings ticks h tick kind reference) more (All-contains_itself more))
datagrams_are_of_frames settings ticks (Invalid first last ∷ h) =
    All-weaker (IsOfSentFrame settings ticks h) (IsOfSentFrame settings ticks (Invalid first last ∷ h))
    (λ d is. record { frame = is.frame; least = is.least; greatest = is.greatest; among = is.among })
    (video_stream settings ticks h) (datagrams_are_of_frames settings ticks h)
datagrams_are_of_frames settings ticks (IdrAsked ∷ h) =
    All-weaker (IsOfSentFrame settings ticks h) (IsOfSentFrame settings ticks (IdrAsked ∷ h))
    (λ d is. record { frame = is.frame; least = is.least; greatest = is.greatest; among = is.among })
    (video_stream settings ticks h) (datagrams_are_of_frames settings ticks h)
datagrams_are_of_frames settings ticks (Ended first last ∷ h) =
    All-weaker (IsOfSentFrame settings ticks h) (IsOfSentFrame settings ticks (Ended first last ∷ h))
    (λ d is. record { frame = is.frame; least = is.least; greatest = is.greatest; among = is.among })
    (video_stream settings ticks h) (datagrams_are_of_frames settings ticks h)

-- ---- what is received of them

-- what is received of a datagram of a frame
received_of_frame : (settings : StreamSettings) (ticks : List Tick) (h : List Entry) (datagram : List ℕ) (r : Received) → IsHostHistory settings ticks h
    → IsOfSentFrame settings ticks h datagram → received settings datagram ≡ Some r → IsReceivedOfSentFrame settings ticks h r
received_of_frame settings ticks h datagram r host is came =
    let f = is.frame in
    let parts = received_of settings ticks h f in
    let Answered : List ℕ → Type 0 = λ d. (y : Received) × (received settings d ≡ Some y) × Contains parts y in
    let answer =
    All-contains Answered (datagrams_of_frame settings ticks h f) datagram
    (contained_answers (received settings) (datagrams_of_frame settings ticks h f) parts
    (frame_is_received settings (sent_out settings ticks h f) (frame_is_sent settings ticks h f host is.least is.greatest)))
    is.among in
    let same : answer.0 ≡ r = cc (answer.1, came) in
    let Among : Received → Type 0 = Contains parts in
    let among : Contains parts r = subst Among same answer.2 in
    let says : r.head.frame ≡ f =
    All-contains (λ (y : Received). y.head.frame ≡ f) parts r (frame_shards-frame settings (sent_out settings ticks h f)) among in
    let Said : ℕ → Type 0 = λ n. (1 ≤ n) × (n ≤ frames h) × Contains (received_of settings ticks h n) r in
    let said = subst Said (sym says) (is.least, is.greatest, among) in
    record { least = said.0; greatest = said.1; among = said.2 }

-- what is taken of one of them
received_of_arrival : (client : ClientSettings) (ticks : List Tick) (h : List Entry) (arrival : Arrival) (r : Received)
    → IsHostHistory client.stream ticks h → IsOfStream (video_stream client.stream ticks h) arrival → taken_one client arrival ≡ Some r
    → IsReceivedOfSentFrame client.stream ticks h r
received_of_arrival client ticks h (Datagram bytes) r host among e =
    let all = datagrams_are_of_frames client.stream ticks h in
    received_of_frame client.stream ticks h bytes r host
    (All-contains (IsOfSentFrame client.stream ticks h) (video_stream client.stream ticks h) bytes all among) e
received_of_arrival client ticks h Reset r host among e = absurd (cc e)

-- Whatever datagrams of a host's history came, in whatever order and how often, all that is taken of them is
-- of frames that were sent.
pub taken_were_sent : (client : ClientSettings) (ticks : List Tick) (h : List Entry) (came : List Arrival) → IsHostHistory client.stream ticks h
    → AreOfHistory client ticks h came → All (IsReceivedOfSentFrame client.stream ticks h) (taken client came)
taken_were_sent client ticks h came host sent =
    let Answered : Arrival → Type 0 = λ a. (r : Received) → taken_one client a ≡ Some r → IsReceivedOfSentFrame client.stream ticks h r in
    All-filter_map (taken_one client) (IsReceivedOfSentFrame client.stream ticks h) came
    (All-weaker (IsOfStream (video_stream client.stream ticks h)) Answered (λ a among r e. received_of_arrival client ticks h a r host among e) came sent)

-- So what is taken of one frame is among what is received of all of its datagrams.
pub frames_come_from : (settings : StreamSettings) (ticks : List Tick) (h : List Entry) (f : ℕ) (rs : List Received)
    → All (IsReceivedOfSentFrame settings ticks h) rs → ComesFrom (received_of settings ticks h f) f rs
frames_come_from settings ticks h f rs sent =
    All-weaker (IsReceivedOfSentFrame settings ticks h) (λ r. r.head.frame ≡ f → Contains (received_of settings ticks h f) r)
    (λ r is e. let Among : ℕ → Type 0 = λ n. Contains (received_of settings ticks h n) r in subst Among e is.among) rs sent
