use Rattle.std.proofs.Common.{◌≡◌, ℕ, ◌-◌, ◌∙◌, List, ap, sym, subst, length, map, min}
use Rattle.std.specs.Arc.{arc_value}
use Rattle.std.proofs.lemmas.List.{length-map}
use Rattle.gs_tape.specs.Tick.{Tick}
use Rattle.gs_tape.specs.Limits.{IsTickWithinLimits}
use Rattle.gs_feed.specs.Feeding.{Feeding, IsFeedSound}
use Rattle.gs_feed.proofs.Slices.{IsSince, since_is, slice_numbers, slice_ticks, slice_of, slice_each}
use Rattle.gs_feed.proofs.feed.Feed.since.Goals as goal

pub returns : goal.returns
returns c =
    let feed = c.args.self.now in
    let items = c.deref.result.now in
    let start = c.min-start.result in
    let newest = c.saturating_sub-newest.result in
    let sound : IsFeedSound feed = subst IsFeedSound c.self.view_is c.self.invariant in
    let is : map arc_value items ≡ feed.kept = ap (map arc_value) c.deref.ensures.value ∙ ap (λ (f : Feeding). f.kept) c.self.view_is in
    let many : length items ≡ length feed.kept = sym (length-map items arc_value) ∙ ap (λ (l : List Tick). length l) is in
    let since : IsSince feed c.args.last start (newest - start) =
    since_is feed c.args.last start newest sound c.requires
    (c.saturating_sub-newest.ensures ∙ ap (λ (n : ℕ). n - 1) (c.len.ensures ∙ sym c.deref.ensures.len ∙ many))
    (c.min-start.ensures ∙ ap (λ (n : ℕ). min n newest) c.place.ensures) in
    record {
      numbers = slice_numbers feed arc_value items c.args.last start (newest - start) is sound since;
      within = slice_each (λ t. IsTickWithinLimits feed.tape.audio t.number t) arc_value items feed.kept start (newest - start) is sound.within;
      ticks = λ ticks of. slice_ticks feed arc_value items c.args.last start (newest - start) ticks is sound since of;
      of = λ ticks of. slice_of feed arc_value items c.args.last start (newest - start) ticks is sound since of;
    }
