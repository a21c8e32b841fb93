use Rattle.std.proofs.Common.{◌≡◌, ◌++◌, ◌∷◌, [], ◌∙◌, sym, map}
use Rattle.std.specs.Arc.{arc_value}
use Rattle.gs_feed.specs.contracts.feed.Feed.{the_view}
use Rattle.gs_bytes.proofs.Cases.{from_ok}
use Rattle.gs_feed.proofs.Capturing.{captures_end, captures_err, stands_tick, sound_tick}
use Rattle.gs_feed.proofs.Cuts.{captured_bytes, captures_err_bytes}
use Rattle.gs_feed.proofs.feed.Feed.capture.Goals as goal

pub returns-in_err-tick-clause-bytes : goal.returns-in_err-tick-clause-bytes
returns-in_err-tick-clause-bytes g c = λ bytes opened had.
    captures_err_bytes (the_view c.self.inside) c.args.self.now _ _ _ bytes _ _ c.self.view_is c.from_residual.ensures.1 c.in_err-tick.ensures.spent
    c.in_err-tick.ensures.bytes opened had

pub returns-clause-bytes : goal.returns-clause-bytes
returns-clause-bytes g c = λ bytes opened had.
    captured_bytes (the_view c.self.inside) c.args.self.now _ _ _ c.in-Some.tick bytes c.self.view_is (rw c.in-Some.is at c.in_ok-tick.ensures.bytes)
    c.in_ok-tick.ensures.kept.0 opened had

pub returns-in_err-tick-clause-captures : goal.returns-in_err-tick-clause-captures
returns-in_err-tick-clause-captures g c = λ ticks fault stands.
    captures_err (the_view c.self.inside) c.args.self.now _ _ ticks fault _ _ c.self.view_is c.from_residual.ensures.1 c.in_err-tick.ensures.first stands

pub returns-in_default-clause-captures : goal.returns-in_default-clause-captures
returns-in_default-clause-captures g c = λ ticks fault stands.
    captures_end (the_view c.self.inside) c.args.self.now _ _ ticks fault c.self.view_is (rw c.in_default.is at c.in_ok-tick.ensures.first) stands

pub invariant_of-self-2 : goal.invariant_of-self-2
invariant_of-self-2 g c =
    let items = map arc_value c.keep.new.kept.items in
    let is : items ≡ map arc_value c.self.inside.kept.items ++ c.in-Some.tick ∷ [] =
    from_ok c.keep.result _ (sym c.is_err.ensures.value ∙ c.if-is_err.false) c.keep.ensures.more in
    sound_tick (the_view c.self.inside) c.next.new.self items c.in-Some.tick _ c.self.invariant c.if-self.false is c.in_ok-tick.ensures.again
    (rw c.in-Some.is at c.in_ok-tick.ensures.stage) (rw c.in-Some.is at c.in_ok-tick.ensures.within) c.in_ok-tick.ensures.kept.0
    (rw c.in-Some.is at c.in_ok-tick.ensures.known)

pub returns-clause-stands : goal.returns-clause-stands
returns-clause-stands g c = λ ticks fault stands.
    let items = map arc_value c.keep.new.kept.items in
    let is : items ≡ map arc_value c.self.inside.kept.items ++ c.in-Some.tick ∷ [] =
    from_ok c.keep.result _ (sym c.is_err.ensures.value ∙ c.if-is_err.false) c.keep.ensures.more in
    stands_tick (the_view c.self.inside) c.args.self.now c.next.new.self items c.in-Some.tick _ _ ticks fault c.self.view_is c.self.invariant is
    (rw c.in-Some.is at c.in_ok-tick.ensures.first) stands
