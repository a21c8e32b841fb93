use Rattle.std.proofs.Common.{◌≡◌, ◌≢◌, ◌<◌, ◌≤◌, ◌+◌, ◌-◌, ◌%◌, ℕ, Bool, true, false, List, ◌∷◌, length, get_or, set, Option, Some, None, refl, sym, ap, subst}
use Rattle.std.proofs.Common.{◌∙◌, arith, inl, inr, rules}
use Rattle.std.specs.List.{slice_get}
use Rattle.std.proofs.lemmas.List.{length-set}
use Rattle.std.proofs.lemmas.Option.{slice_get_read}
use Rattle.gs_fecqueue.specs.declared.frame.Frame.{Frame}
use Rattle.gs_fecqueue.specs.declared.queue.Queue.{Queue}
use Rattle.gs_fecqueue.specs.FrameHolding.{IsBegun}
use Rattle.gs_fecqueue.specs.QueueSteps.{IsOpened}
use Rattle.gs_fecqueue.proofs.Frames.{get-set_same, get-set_other}
use Rattle.gs_fecqueue.proofs.queue.Queue.begin.Goals as goal

-- it stood there
stood : (q : Queue) (number last_block place : ℕ) (frame : Frame) → place ≡ number % q.window → slice_get q.frames.items place ≡ Some frame
    → frame.number ≡ number → IsOpened q q number last_block
stood q number last_block place frame at here is = record {
  settings = record { packet = refl; ssrc = refl; window = refl; count = refl };
  is_greatest = refl;
  frame = frame;
  here = ap (slice_get q.frames.items) (sym at) ∙ here;
  stood_or_began = inl (ap (slice_get q.frames.items) (sym at) ∙ here, is);
  others = λ k other. refl;
}

-- it began
began : (q after : Queue) (number last_block place : ℕ) (old new : Frame) → place ≡ number % q.window → slice_get q.frames.items place ≡ Some old
    → old.number ≢ number → IsBegun new number last_block → after.packet ≡ q.packet → after.ssrc ≡ q.ssrc → after.window ≡ q.window
    → after.greatest ≡ q.greatest → after.frames.items ≡ set q.frames.items place new → IsOpened q after number last_block
began q after number last_block place old new at there other begun packet ssrc window greatest items =
    let get : (k : ℕ) → slice_get after.frames.items k ≡ slice_get (set q.frames.items place new) k = λ k. ap (λ (l : List Frame). slice_get l k) items in
    record {
      settings = record {
        packet = packet;
        ssrc = ssrc;
        window = window;
        count = ap (λ (l : List Frame). length l) items ∙ length-set q.frames.items place new;
      };
      is_greatest = greatest;
      frame = new;
      here = ap (slice_get after.frames.items) (sym at) ∙ get place ∙ get-set_same q.frames.items place new old there;
      stood_or_began = inr (
        begun,
        λ o e same.
            let this : Some old ≡ Some o = sym there ∙ ap (slice_get q.frames.items) at ∙ e in
            let is_old : old ≡ o = cc in
            other (ap (λ (x : Frame). x.number) is_old ∙ same),
      );
      others = λ k apart. get k ∙ get-set_other q.frames.items place k new (λ e. apart (e ∙ at));
    }

pub returns-else-index-number-clause-opened : goal.returns-else-index-number-clause-opened
returns-else-index-number-clause-opened c =
    let q = c.args.self.now in
    let frame = c.index.result.now in
    let there : slice_get q.frames.items c.place_of-place.result ≡ Some frame =
    slice_get_read q.frames.items (length q.frames.items) c.place_of-place.result frame refl
    (omega (arith, c.place_of-place.ensures.within, q.places, q.frames.ok.0)) c.index.ensures in
    stood q c.args.number c.args.last_block c.place_of-place.result frame c.place_of-place.ensures.is there c.if-index-number.false

pub returns-then-index-number-clause-opened : goal.returns-then-index-number-clause-opened
returns-then-index-number-clause-opened c =
    let q = c.args.self.now in
    let frame = c.index.result.now in
    let there : slice_get q.frames.items c.place_of-place.result ≡ Some frame =
    slice_get_read q.frames.items (length q.frames.items) c.place_of-place.result frame refl
    (omega (arith, c.place_of-place.ensures.within, q.places, q.frames.ok.0)) c.index.ensures in
    began q _ c.args.number c.args.last_block c.place_of-place.result frame c.begin.new.self c.place_of-place.ensures.is there c.if-index-number.true
    c.begin.ensures refl refl refl refl refl
