use Rattle.std.proofs.Common.{◌≡◌, ◌<◌, ◌≤◌, ℕ, List, length, get_or, Some, refl, ap, ◌∙◌, arith}
use Rattle.std.specs.List.{slice_get}
use Rattle.std.proofs.lemmas.Option.{slice_get_read, slice_get_within, get_or_from_slice_get}
use Rattle.gs_fecqueue.specs.declared.frame.Frame.{Frame}
use Rattle.gs_fecqueue.proofs.queue.Queue.place_among.Goals as goal

pub returns : goal.returns
returns c = λ among.
    let items = c.args.self.now.frames.items in
    let at = among.at in
    let within = slice_get_within items among.place at.frame at.here in
    let below : among.place < c.places.place =
    omega (arith, c.places-test.false, ap (λ (l : List Frame). length l) c.deref-held-items.ensures.value) in
    c.places.invariant among.place at.frame (omega arith) below
    (ap (λ (x : Frame). x.number) (get_or_from_slice_get items among.place at.frame at.frame at.here) ∙ at.number_is)

pub returns-then-held-number : goal.returns-then-held-number
returns-then-held-number c =
    let items = c.args.self.now.frames.items in
    let frame = c.held-item.result in
    let value = c.deref-held-items.ensures.value in
    record {
      frame = frame;
      here = slice_get_read items (length items) c.places.place frame refl (omega (arith, c.places-test.true, ap (λ (l : List Frame). length l) value))
          (c.held-item.is ∙ ap (λ (l : List Frame). get_or l c.places.place frame) value);
      number_is = c.if-held-number.true;
    }
