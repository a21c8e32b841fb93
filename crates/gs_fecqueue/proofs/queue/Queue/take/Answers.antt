use Rattle.std.proofs.Common.{◌≡◌, ◌≢◌, ◌<◌, ◌≤◌, ◌+◌, ◌-◌, ◌%◌, ℕ, Bool, true, false, List, ◌∷◌, length, get_or, set, Option, Some, None, refl, sym, ap, subst}
use Rattle.std.proofs.Common.{◌∙◌, arith, rules}
use Rattle.std.specs.Prelude.{if◌then◌else◌}
use Rattle.std.specs.List.{slice_get}
use Rattle.std.proofs.lemmas.Bool.{cond-false}
use Rattle.std.proofs.lemmas.List.{length-set}
use Rattle.std.proofs.lemmas.Option.{slice_get_read}
use Rattle.gs_rtp.specs.declared.video.VideoHead.{VideoHead}
use Rattle.gs_rtp.specs.Video.{IsVideoHead}
use Rattle.gs_frames.specs.declared.verdict.Added.{Added}
use Rattle.gs_frames.specs.declared.verdict.Added.TheVariants.{Old}
use Rattle.gs_frames.specs.Client.{ClientSettings}
use Rattle.gs_frames.specs.Received.{Received, greatest, is_left, oldest, is_of_frame}
use Rattle.gs_frames.specs.Verdict.{first_or, is_counting, judged, counting}
use Rattle.gs_fecqueue.specs.declared.frame.Frame.{Frame}
use Rattle.gs_fecqueue.specs.declared.queue.Queue.{Queue}
use Rattle.gs_fecqueue.specs.Holding.{Brings}
use Rattle.gs_fecqueue.specs.FrameHolding.{HoldsFrame, frame_verdict, counted_behind}
use Rattle.gs_fecqueue.specs.Moves.{moved_behind}
use Rattle.gs_fecqueue.specs.Standing.{HasFrameCome, IsStanding}
use Rattle.gs_fecqueue.specs.QueueSteps.{IsAdvanced, IsOpened}
use Rattle.gs_fecqueue.proofs.OtherFrames.{counting-behind}
use Rattle.gs_fecqueue.proofs.Ready.{IsReadyFor, ready, stands-with}
use Rattle.gs_fecqueue.proofs.queue.Queue.take.Goals as goal

-- what the frame's verdict gives
taken : (q2 q3 : Queue) (c : ClientSettings) (now : List Received) (r : Received) (head : VideoHead) (payload : List ℕ) (place : ℕ) (old new : Frame)
    (v : Added)
    → IsReadyFor q2 c now r → is_left c.window now r.head.frame ≡ false → Brings c.stream head payload r → 1 ≤ r.head.frame
    → ((f : ℕ) → HasFrameCome now f → 1 ≤ f)
    → place ≡ r.head.frame % c.window → slice_get q2.frames.items place ≡ Some old → new.number ≡ old.number
    → ((counted : List Received) (first : Received) → HoldsFrame c.stream old counted first → r.head.frame ≡ old.number → Brings c.stream head payload r
    → v ≡ frame_verdict first r counted)
    → ((counted : List Received) (first : Received) → HoldsFrame c.stream old counted first → r.head.frame ≡ old.number → Brings c.stream head payload r
    → HoldsFrame c.stream new (counted_behind (is_counting v) r counted) first)
    → q3.packet ≡ q2.packet → q3.ssrc ≡ q2.ssrc → q3.window ≡ q2.window → q3.greatest ≡ q2.greatest
    → q3.frames.items ≡ set q2.frames.items place new
    → (v ≡ judged c.window r now (counting c.window now)) × IsStanding q3 c now (r ∷ now)
taken q2 q3 c now r head payload place old new v is not_left brings least before place_is there number verdict holds packet ssrc window greatest_is items =
    let counted = counting c.window now in
    let first = first_or r (oldest (is_of_frame r.head.frame) now) in
    let this : Some is.frame ≡ Some old = sym is.here ∙ ap (slice_get q2.frames.items) (sym place_is) ∙ there in
    let is_old : is.frame ≡ old = cc in
    let Holds : Frame → Type 0 = λ f. HoldsFrame c.stream f counted first in
    let old_holds : Holds old = subst Holds is_old is.holds in
    let old_number : old.number ≡ r.head.frame = ap (λ (f : Frame). f.number) (sym is_old) ∙ is.number_is in
    let v_is : v ≡ judged c.window r now counted =
    verdict counted first old_holds (sym old_number) brings
    ∙ sym (cond-false (is_left c.window now r.head.frame) (Old (greatest now)) (frame_verdict first r counted) not_left) in
    let now_is : counting c.window (r ∷ now) ≡ counted_behind (is_counting v) r counted =
    counting-behind c.window r now ∙ ap (λ (x : Added). counted_behind (is_counting x) r counted) (sym v_is) in
    let Of : List Received → Type 0 = λ l. HoldsFrame c.stream new l first in (
      v_is,
      stands-with q2 q3 c now r place new is least before place_is packet ssrc window greatest_is items
          (ap (λ (l : List Frame). length l) items ∙ length-set q2.frames.items place new) (number ∙ old_number)
          (subst Of (sym now_is) (holds counted first old_holds (sym old_number) brings)),
    )

pub returns : goal.returns
returns c = λ s before now r stands not_left brings.
    let q0 = c.args.self.now in
    let q1 = c.advance-moved.new.self in
    let q2 = c.begin-place.new.self in
    let head = c.args.head.now in
    let e = brings.head_is in
    let frame_is : r.head.frame ≡ head.frame = ap (λ (h : VideoHead). h.frame) e in
    let last_is : r.head.last_block ≡ head.last_block = ap (λ (h : VideoHead). h.last_block) e in
    let Adv : ℕ → Type 0 = λ n. IsAdvanced q0 q1 n in
    let Opened : ℕ → ℕ → Type 0 = λ n l. IsOpened q1 q2 n l in
    let advanced : IsAdvanced q0 q1 r.head.frame = subst Adv (sym frame_is) c.advance-moved.ensures.frames in
    let opened : IsOpened q1 q2 r.head.frame r.head.last_block =
    subst (λ (l : ℕ). Opened r.head.frame l) (sym last_is) (subst (λ (n : ℕ). Opened n head.last_block) (sym frame_is) c.begin-place.ensures.opened) in
    let least : 1 ≤ r.head.frame = omega (arith, c.requires.grammar.frame_least) in
    let is = ready q0 q1 q2 s before now r stands not_left least advanced opened in
    let place : c.begin-place.result ≡ r.head.frame % s.window =
    c.begin-place.ensures.place ∙ ap (λ (n : ℕ). n % q1.window) (sym frame_is)
    ∙ ap (λ (n : ℕ). r.head.frame % n) (advanced.settings.window ∙ stands.window) in
    let old = c.index_mut.result.now in
    let there : slice_get q2.frames.items c.begin-place.result ≡ Some old =
    slice_get_read q2.frames.items (length q2.frames.items) c.begin-place.result old refl (omega (arith, c.begin-place.ensures.within, q2.frames.ok.0))
    c.index_mut.ensures.value in
    let all = taken q2 _ s now r head c.args.payload.now c.begin-place.result old c.take-what.new.self c.take-what.result is not_left brings least stands.least
    place there c.take-what.ensures.number
    (λ counted first h n b. c.take-what.ensures.verdict s.stream counted first r h n b)
    (λ counted first h n b. c.take-what.ensures.holds s.stream counted first r h n b) refl refl refl refl refl in
    (c.advance-moved.ensures.moved s before now stands ∙ ap (moved_behind s now) (sym frame_is), all.0, all.1)
