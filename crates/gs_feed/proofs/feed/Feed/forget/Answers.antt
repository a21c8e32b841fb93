use Rattle.std.proofs.Common.{◌≡◌, ◌-◌, ◌≤◌, ◌∙◌, drop, ap, sym, subst, arith, length, map}
use Rattle.std.specs.Arc.{arc_value}
use Rattle.std.proofs.lemmas.List.{drop-map}
use Rattle.gs_feed.specs.Feeding.{Feeding, IsFeedSound, IsOf, IsFeedAt, forgotten}
use Rattle.gs_feed.specs.contracts.feed.Feed.{the_view}
use Rattle.gs_feed.proofs.Forgetting.{seen_without, sound_without, of_without, stands_without, kept_without}
use Rattle.gs_feed.proofs.feed.Feed.forget.Goals as goal

pub invariant_of-self : goal.invariant_of-self
invariant_of-self c =
    let d = c.unwanted-unwanted.result in
    let old = c.args.self.now in
    let sound : IsFeedSound old = subst IsFeedSound c.self.view_is c.self.invariant in
    let few : d ≤ length old.kept - 1 = omega (arith, c.unwanted-unwanted.ensures) in
    let part : map arc_value c.drop-drain.new.self.0.items ≡ drop d (map arc_value c.self.inside.kept.items) =
    ap (map arc_value) (c.drop-drain.ensures.items ∙ c.drain.ensures.kept) ∙ sym (drop-map arc_value d c.self.inside.kept.items) in
    let seen = seen_without d (the_view c.self.inside) old (map arc_value c.drop-drain.new.self.0.items) part c.self.view_is in
    subst IsFeedSound (sym seen) (sound_without d old sound few)

pub returns-then-unwanted-len-clause-kept : goal.returns-then-unwanted-len-clause-kept
returns-then-unwanted-len-clause-kept c =
    let d = c.unwanted-unwanted.result in
    let old = c.args.self.now in
    let sound : IsFeedSound old = subst IsFeedSound c.self.view_is c.self.invariant in
    let few : d ≤ length old.kept - 1 = omega (arith, c.unwanted-unwanted.ensures) in
    let part : map arc_value c.drop-drain.new.self.0.items ≡ drop d (map arc_value c.self.inside.kept.items) =
    ap (map arc_value) (c.drop-drain.ensures.items ∙ c.drain.ensures.kept) ∙ sym (drop-map arc_value d c.self.inside.kept.items) in
    let seen = seen_without d (the_view c.self.inside) old (map arc_value c.drop-drain.new.self.0.items) part c.self.view_is in
    let Kept : Feeding → Type 0 = λ new. new.kept ≡ drop (forgotten new - forgotten old) old.kept in
    subst Kept (sym seen) (kept_without d old sound few)

pub returns-then-unwanted-len-clause-of : goal.returns-then-unwanted-len-clause-of
returns-then-unwanted-len-clause-of c = λ ticks of.
    let d = c.unwanted-unwanted.result in
    let old = c.args.self.now in
    let sound : IsFeedSound old = subst IsFeedSound c.self.view_is c.self.invariant in
    let few : d ≤ length old.kept - 1 = omega (arith, c.unwanted-unwanted.ensures) in
    let part : map arc_value c.drop-drain.new.self.0.items ≡ drop d (map arc_value c.self.inside.kept.items) =
    ap (map arc_value) (c.drop-drain.ensures.items ∙ c.drain.ensures.kept) ∙ sym (drop-map arc_value d c.self.inside.kept.items) in
    let seen = seen_without d (the_view c.self.inside) old (map arc_value c.drop-drain.new.self.0.items) part c.self.view_is in
    let Of : Feeding → Type 0 = λ new. IsOf new ticks in
    subst Of (sym seen) (of_without d old ticks sound few of)

pub returns-then-unwanted-len-clause-stands : goal.returns-then-unwanted-len-clause-stands
returns-then-unwanted-len-clause-stands c = λ left ticks fault stands.
    let d = c.unwanted-unwanted.result in
    let old = c.args.self.now in
    let sound : IsFeedSound old = subst IsFeedSound c.self.view_is c.self.invariant in
    let few : d ≤ length old.kept - 1 = omega (arith, c.unwanted-unwanted.ensures) in
    let part : map arc_value c.drop-drain.new.self.0.items ≡ drop d (map arc_value c.self.inside.kept.items) =
    ap (map arc_value) (c.drop-drain.ensures.items ∙ c.drain.ensures.kept) ∙ sym (drop-map arc_value d c.self.inside.kept.items) in
    let seen = seen_without d (the_view c.self.inside) old (map arc_value c.drop-drain.new.self.0.items) part c.self.view_is in
    let Stands : Feeding → Type 0 = λ new. IsFeedAt new left ticks fault in
    subst Stands (sym seen) (stands_without d old left ticks fault sound few stands)
