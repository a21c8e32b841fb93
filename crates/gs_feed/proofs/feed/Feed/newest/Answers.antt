use Rattle.std.proofs.Common.{◌≡◌, ◌∙◌, Some, ap, sym, subst, map}
use Rattle.std.specs.Arc.{arc_value}
use Rattle.gs_tape.specs.Tick.{Tick}
use Rattle.gs_feed.specs.Feeding.{Feeding, IsFeedSound}
use Rattle.gs_feed.proofs.Newest.{newest_number, newest_of, some_kept}
use Rattle.gs_feed.proofs.feed.Feed.newest.Goals as goal

pub returns-clause-number : goal.returns-clause-number
returns-clause-number c =
    let feed = c.args.self.now in
    let items = c.deref.result.now in
    let item = c.in_ok-newest.ensures.item.3 in
    let sound : IsFeedSound feed = subst IsFeedSound c.self.view_is c.self.invariant in
    let is : map arc_value items ≡ feed.kept = ap (map arc_value) c.deref.ensures.value ∙ ap (λ (f : Feeding). f.kept) c.self.view_is in
    ap (λ (t : Tick). t.number) c.deref-2.ensures
    ∙ newest_number feed arc_value items c.in_ok-newest.newest.now is sound (some_kept arc_value items feed.kept is item.0) item.1

pub returns-clause-of : goal.returns-clause-of
returns-clause-of c = λ ticks of.
    let feed = c.args.self.now in
    let items = c.deref.result.now in
    let item = c.in_ok-newest.ensures.item.3 in
    let sound : IsFeedSound feed = subst IsFeedSound c.self.view_is c.self.invariant in
    let is : map arc_value items ≡ feed.kept = ap (map arc_value) c.deref.ensures.value ∙ ap (λ (f : Feeding). f.kept) c.self.view_is in
    sym (newest_of feed arc_value items c.in_ok-newest.newest.now ticks is sound (some_kept arc_value items feed.kept is item.0) item.1 of
    ∙ ap (λ (t : Tick). Some t) (sym c.deref-2.ensures))
