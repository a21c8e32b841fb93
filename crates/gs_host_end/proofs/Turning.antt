-- A turn of a host, and of a run's host.
use Rattle.std.specs.Prelude.{Result, Ok, Err, if◌then◌else◌, nat_lt, ◌&&◌, not, ◌==◌}
use Rattle.std.proofs.Common.{◌≡◌, ◌≤◌, ◌+◌, ◌-◌, ℕ, Bool, true, false, List, [], ◌∷◌, ◌++◌, length, Option, Some, None, refl, sym, ap, subst, ◌∙◌, arith}
use Rattle.std.specs.List.{All, range_with_len}
use Rattle.std.proofs.lemmas.List.Elements.{All-nil, All-cons, All-weaker}
use Rattle.gs_bytes.specs.Limits.{most_unit}
use Rattle.gs_bytes.specs.declared.link.LinkEntry.{LinkEntry}
use Rattle.gs_rtp.specs.Stream.{StreamSettings}
use Rattle.gs_tape.specs.Tick.{Tick, Delta, tick_numbered}
use Rattle.gs_tape.specs.Limits.{IsTickWithinLimits, AreDeltasBetween}
use Rattle.gs_refs.specs.declared.entry.Entry.{Entry}
use Rattle.gs_refs.specs.declared.sent.Sent.{Sent}
use Rattle.gs_refs.specs.declared.error.ChooseError.{ChooseError}
use Rattle.gs_refs.specs.declared.error.ChooseError.TheVariants as choose_error
use Rattle.gs_refs.specs.History.{frames, last_tick, has_ended}
use Rattle.gs_refs.specs.Answers.{next_sent, sent_entry, choose_answer}
use Rattle.gs_refs.specs.Choice.{choice}
use Rattle.gs_store.specs.Standing.{IsStoreOf}
use Rattle.gs_stream.specs.Video.{video_stream}
use Rattle.gs_stream.specs.Audio.{audio_stream}
use Rattle.gs_feed.specs.Feeding.{Feeding, IsOf}
use Rattle.gs_sides.specs.declared.side.ControlSide.{ControlSide}
use Rattle.gs_sides.specs.Standing.{IsSideOf}
use Rattle.gs_host_core.specs.Hosting.{IsSendable, AreOfCapture, numbers_between}
use Rattle.gs_host_core.proofs.Turns.{last-sent}
use Rattle.gs_run.specs.Session.{Part}
use Rattle.gs_run.specs.Report.{Acted, Report, quietly}
use Rattle.gs_run.specs.Scene.{Scene}
use Rattle.gs_run.specs.Hearing.{entered}
use Rattle.gs_run.specs.Streaming.{turn_entry, newest_sent, turned}
use Rattle.gs_report.specs.Reporting.{Reporting, Did, with_reports}
use Rattle.gs_report.proofs.Reported.{with_none}
use Rattle.gs_host_end.specs.declared.end.HostEnd.{HostEnd}
use Rattle.gs_host_end.specs.Boxes.{all_put}
use Rattle.gs_host_end.specs.Sending.{sent_report, IsSentOver}
use Rattle.gs_host_end.specs.Standing.{IsHostEndOf}
use Rattle.gs_host_end.specs.Outcomes.{IsCapturedOf, SendsNewest}

-- ---- ticks that may be sent

deltas-fit : (above below : ℕ) (ds : List Delta) → AreDeltasBetween above below ds → All (λ d. length d.unit ≤ most_unit) ds
deltas-fit above below [] h = All-nil (λ (d : Delta). length d.unit ≤ most_unit)
deltas-fit above below (d ∷ ds) h = All-cons (λ (e : Delta). length e.unit ≤ most_unit) d ds h.2 (deltas-fit d.named below ds h.3)

pub sendable : (s : StreamSettings) (audio k : ℕ) (t : Tick) → audio ≡ s.audio → IsTickWithinLimits audio k t → IsSendable s t
sendable s audio k t same h =
    let w = h.within in
    record {
      few = (let e = w.number_is in let f = w.number_most in omega (arith, e, f));
      idr = w.idr_most;
      deltas = deltas-fit 0 k t.deltas w.deltas_between;
      units = w.audio_most;
      sizes = subst (λ (n : ℕ). All (λ (unit : List ℕ). length unit ≡ n) t.audio) same w.audio_whole;
    }

pub all-sendable : {A : Type 0} (val : A → Tick) (s : StreamSettings) (audio : ℕ) (ts : List A) → audio ≡ s.audio
    → All (λ t. IsTickWithinLimits audio (val t).number (val t)) ts → All (λ t. IsSendable s (val t)) ts
all-sendable {A} val s audio ts same h =
    All-weaker (λ (t : A). IsTickWithinLimits audio (val t).number (val t)) (λ (t : A). IsSendable s (val t))
    (λ t w. sendable s audio (val t).number (val t) same w) ts h

-- the numbers between are those of the counts
pub between-are : (h : List Entry) (sent last count number : ℕ) → sent ≡ frames h → last ≡ last_tick h → number ≡ count
    → (if sent == 0 then [] else range_with_len (last + 1) (count - (last + 1))) ≡ numbers_between h number
between-are h sent last count number a b c =
    ap (λ (n : ℕ). if n == 0 then [] else range_with_len (last + 1) (count - (last + 1))) a
    ∙ ap (λ (n : ℕ). if frames h == 0 then [] else range_with_len (n + 1) (count - (n + 1))) b
    ∙ ap (λ (n : ℕ). if frames h == 0 then [] else range_with_len (last_tick h + 1) (n - (last_tick h + 1))) (sym c)

-- ---- what a run's turn does

abbrev tested : Bool → Bool → Sent → ℕ → Result Sent ChooseError
tested over later sent last = if over then Err choose_error.Ended else (if later then Ok sent else Err (choose_error.OldTick last))

abbrev acted_by : Bool → Bool → Acted (List Entry) → List Entry → Acted (List Entry)
acted_by over later does h = if later && not over then does else quietly h

chosen : (over later : Bool) (x s : Sent) (last : ℕ) (does : Acted (List Entry)) (h : List Entry) → tested over later x last ≡ Ok s
    → acted_by over later does h ≡ does
chosen false true x s last does h e = refl
chosen true later x s last does h e = absurd cc
chosen false false x s last does h e = absurd cc

not_chosen : (over later : Bool) (x : Sent) (last : ℕ) (e : ChooseError) (does : Acted (List Entry)) (h : List Entry) → tested over later x last ≡ Err e
    → acted_by over later does h ≡ quietly h
not_chosen true true x last e does h is = refl
not_chosen true false x last e does h is = refl
not_chosen false false x last e does h is = refl
not_chosen false true x last e does h is = absurd cc

abbrev then_part : Part → Acted (List Entry) → Acted Part
then_part part a = record { value = record part { history = a.value }; reports = a.reports ++ [] }

pub turned-none : (scene : Scene) (part : Part) → tick_numbered scene.ticks scene.captured ≡ None → turned scene part ≡ quietly part
unfolding turned
turned-none scene part none = ap (λ (o : Option Tick). then_part part (newest_sent scene o part.history)) none

pub turned-refused : (scene : Scene) (part : Part) (newest : Tick) (e : ChooseError) → tick_numbered scene.ticks scene.captured ≡ Some newest
    → newest.number ≡ scene.captured → choose_answer part.history newest ≡ Err e → turned scene part ≡ quietly part
unfolding turned
turned-refused scene part newest e is number refused =
    ap (λ (o : Option Tick). then_part part (newest_sent scene o part.history)) is
    ∙ ap (λ (n : ℕ). then_part part (acted_by (has_ended part.history) (nat_lt (last_tick part.history) n)
    (entered scene.session (turn_entry scene.captured (choice part.history newest)) part.history) part.history)) (sym number)
    ∙ ap (then_part part) (not_chosen (has_ended part.history) (nat_lt (last_tick part.history) newest.number) (next_sent part.history newest)
    (last_tick part.history) e (entered scene.session (turn_entry scene.captured (choice part.history newest)) part.history) part.history refused)

abbrev sent_part : Part → Sent → Part
sent_part part sent = record part { history = sent_entry sent ∷ part.history }

pub turned-sent : (scene : Scene) (part : Part) (newest : Tick) (sent : Sent) → tick_numbered scene.ticks scene.captured ≡ Some newest
    → newest.number ≡ scene.captured → choose_answer part.history newest ≡ Ok sent → sent ≡ next_sent part.history newest
    → turned scene part ≡ record { value = sent_part part sent; reports = sent_report scene.session sent ∷ [] }
unfolding turned
turned-sent scene part newest sent is number answer next =
    ap (λ (o : Option Tick). then_part part (newest_sent scene o part.history)) is
    ∙ ap (λ (n : ℕ). then_part part (acted_by (has_ended part.history) (nat_lt (last_tick part.history) n)
    (entered scene.session (turn_entry n (choice part.history newest)) part.history) part.history)) (sym number)
    ∙ ap (then_part part) (chosen (has_ended part.history) (nat_lt (last_tick part.history) newest.number) (next_sent part.history newest) sent
    (last_tick part.history) (entered scene.session (turn_entry newest.number (choice part.history newest)) part.history) part.history answer)
    ∙ ap (λ (s : Sent). record { value = sent_part part s; reports = sent_report scene.session s ∷ [] }) (sym next)

-- ---- what the end does

pub did-quietly : {A : Type 0} (P : A → Type 0) (did : Acted A) (value : A) (r : Reporting) → did ≡ quietly value → P value → Did P did r r
did-quietly {A} P did value r is p = record {
  stands = subst P (sym (ap (λ (a : Acted A). a.value) is)) p;
  text = sym (with_none r) ∙ ap (with_reports r) (sym (ap (λ (a : Acted A). a.reports) is));
}

pub did-reporting : {A : Type 0} (P : A → Type 0) (did : Acted A) (value : A) (reports : List Report) (r s : Reporting)
    → did ≡ record { value = value; reports = reports } → P value → s ≡ with_reports r reports → Did P did r s
did-reporting {A} P did value reports r s is p e = record {
  stands = subst P (sym (ap (λ (a : Acted A). a.value) is)) p;
  text = e ∙ ap (with_reports r) (sym (ap (λ (a : Acted A). a.reports) is));
}

-- the newest tick of what was captured
pub newest-is : (feed : Feeding) (scene : Scene) (o : Option Tick) → IsCapturedOf feed scene
    → ((ticks : List Tick) → IsOf feed ticks → o ≡ tick_numbered ticks feed.count) → tick_numbered scene.ticks scene.captured ≡ o
newest-is feed scene o is of = ap (tick_numbered scene.ticks) (sym is.count) ∙ sym (of scene.ticks is.of)

-- what is counted once a frame was sent
pub counts-sent : (h now : List Entry) (newest : Tick) (s : Sent) → s ≡ next_sent h newest → now ≡ sent_entry s ∷ h
    → (frames now ≡ s.frame) × (last_tick now ≡ s.tick)
counts-sent h now newest s next is = (
  ap frames is ∙ sym (ap (λ (x : Sent). x.frame) next),
  ap last_tick is ∙ last-sent h s,
)

pub sends : (old new : HostEnd) (session : ℕ) (ticks : List Tick) (part : Part) (sent : Sent) (video audio : List LinkEntry)
    → IsHostEndOf old session ticks part → new.host.settings ≡ old.host.settings → new.host.history ≡ sent_entry sent ∷ old.host.history
    → IsSentOver ticks old.host new.host video audio
    → ((all : List (List ℕ)) → IsStoreOf old.video all → IsStoreOf new.video (all ++ all_put video))
    → ((all : List (List ℕ)) → IsStoreOf old.audio all → IsStoreOf new.audio (all ++ all_put audio))
    → new.session ≡ old.session → new.lost ≡ old.lost → new.side ≡ old.side → new.inputs ≡ old.inputs
    → IsHostEndOf new session ticks (sent_part part sent)
sends old new session ticks part sent video audio s settings history over stored heard is lost side inputs =
    let stream : StreamSettings = part.settings.stream in
    let now : new.host.history ≡ sent_entry sent ∷ part.history = history ∙ ap (λ (h : List Entry). sent_entry sent ∷ h) s.history in
    record {
      session_is = is ∙ s.session_is;
      settings = settings ∙ s.settings;
      history = now;
      over = over.stands;
      whole = lost ∙ s.whole;
      side = subst (λ (x : ControlSide). IsSideOf x part.host) (sym side) s.side;
      video = subst (IsStoreOf new.video)
          (grown (λ x h. video_stream x ticks h) stream old.host.settings old.host.history part.history new.host.history (sent_entry sent ∷ part.history)
          (all_put video) s.settings s.history now over.of_video) (stored (video_stream stream ticks part.history) s.video);
      audio = subst (IsStoreOf new.audio)
          (grown (λ x h. audio_stream x ticks h) stream old.host.settings old.host.history part.history new.host.history (sent_entry sent ∷ part.history)
          (all_put audio) s.settings s.history now over.of_audio) (heard (audio_stream stream ticks part.history) s.audio);
      inputs = inputs ∙ s.inputs;
    }
  where
    grown : (F : StreamSettings → List Entry → List (List ℕ)) (x y : StreamSettings) (h g h' g' : List Entry) (put : List (List ℕ))
        → y ≡ x → h ≡ g → h' ≡ g' → F y h' ≡ F y h ++ put → F x g ++ put ≡ F x g'
    grown F x y h g h' g' put a b c e =
        ap (λ (l : List Entry). F x l ++ put) (sym b) ∙ ap (λ (z : StreamSettings). F z h ++ put) (sym a) ∙ sym e
        ∙ ap (λ (z : StreamSettings). F z h') a ∙ ap (F x) c

-- ---- a turn of the end, by what was captured

abbrev Finds : Feeding → Option Tick → Type 0
Finds feed o = (ticks : List Tick) → IsOf feed ticks → o ≡ tick_numbered ticks feed.count

pub of-capture : (feed : Feeding) (scene : Scene) (newest : Tick) (between : List Tick) → IsCapturedOf feed scene → newest.number ≡ feed.count
    → Finds feed (Some newest) → ((ticks : List Tick) → IsOf feed ticks → All (λ t. tick_numbered ticks t.number ≡ Some t) between)
    → AreOfCapture scene.ticks newest between
of-capture feed scene newest between is number finds are = record {
  newest_is = ap (tick_numbered scene.ticks) number ∙ sym (finds scene.ticks is.of);
  between_are = are scene.ticks is.of;
}

abbrev Turns : HostEnd → Scene → Part → Reporting → Reporting → Type 0
Turns new scene part before after = Did (IsHostEndOf new scene.session scene.ticks) (turned scene part) before after

pub turns-none : (end : HostEnd) (scene : Scene) (part : Part) (feed : Feeding) (o : Option Tick) (r : Reporting) → o ≡ None → Finds feed o
    → IsCapturedOf feed scene → IsHostEndOf end scene.session scene.ticks part → Turns end scene part r r
turns-none end scene part feed o r none finds is s =
    did-quietly (IsHostEndOf end scene.session scene.ticks) (turned scene part) part r
    (turned-none scene part (newest-is feed scene o is finds ∙ none)) s

pub turns-refused : (new : HostEnd) (scene : Scene) (part : Part) (feed : Feeding) (newest : Tick) (o : Option Sent) (r : Reporting) → o ≡ None
    → Finds feed (Some newest) → newest.number ≡ feed.count → IsCapturedOf feed scene
    → SendsNewest scene.session scene.ticks newest part o new → Turns new scene part r r
turns-refused new scene part feed newest None r none finds number is t =
    did-quietly (IsHostEndOf new scene.session scene.ticks) (turned scene part) part r
    (turned-refused scene part newest t.0.0 (newest-is feed scene (Some newest) is finds) (number ∙ is.count) t.0.1) t.1
turns-refused new scene part feed newest (Some sent) r none finds number is t = absurd cc

chosen-next : (over later : Bool) (x s : Sent) (last : ℕ) → tested over later x last ≡ Ok s → s ≡ x
chosen-next false true x s last e = cc
chosen-next true later x s last e = absurd cc
chosen-next false false x s last e = absurd cc

pub turns-sent : (new : HostEnd) (scene : Scene) (part : Part) (feed : Feeding) (newest : Tick) (o : Option Sent) (sent : Sent) (r s : Reporting)
    → o ≡ Some sent → Finds feed (Some newest) → newest.number ≡ feed.count → s ≡ with_reports r (sent_report new.session sent ∷ [])
    → IsCapturedOf feed scene → SendsNewest scene.session scene.ticks newest part o new → Turns new scene part r s
turns-sent new scene part feed newest None sent r s some finds number reported is t = absurd cc
turns-sent new scene part feed newest (Some other) sent r s some finds number reported is t =
    let same : other ≡ sent = cc in
    let next = chosen-next (has_ended part.history) (nat_lt (last_tick part.history) newest.number) (next_sent part.history newest) other
    (last_tick part.history) t.0 in
    did-reporting (IsHostEndOf new scene.session scene.ticks) (turned scene part) (sent_part part other) (sent_report scene.session other ∷ []) r s
    (turned-sent scene part newest other (newest-is feed scene (Some newest) is finds) (number ∙ is.count) t.0 next) t.1
    (reported ∙ ap (λ (x : Sent). with_reports r (sent_report new.session x ∷ [])) (sym same)
    ∙ ap (λ (n : ℕ). with_reports r (sent_report n other ∷ [])) t.1.session_is)
