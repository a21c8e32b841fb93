use Rattle.std.proofs.Common.{◌≡◌, ◌≤◌, List, length, rules, sym, ap, ◌∙◌, subst, arith}
use Rattle.std.specs.Arc.{arc_value}
use Rattle.std.proofs.lemmas.List.{length-map}
use mathlib.Core.List.{IsPrefix}
use Rattle.gs_tape.specs.Tick.{Tick}
use Rattle.gs_capture.specs.Captures.{Capture}
use Rattle.gs_bytes.proofs.Lists.{prefix_shorter}
use Rattle.gs_capture.proofs.published.Published.begins_with.Goals as goal

pub returns : goal.returns
returns c _ =
    let mine : length c.self.inside.ticks.items ≡ length c.args.self.now.ticks =
    sym (length-map c.self.inside.ticks.items arc_value) ∙ ap (λ (x : Capture). length x.ticks) c.self.view_is in
    let theirs : length c.other.inside.ticks.items ≡ length c.args.other.now.ticks =
    sym (length-map c.other.inside.ticks.items arc_value) ∙ ap (λ (x : Capture). length x.ticks) c.other.view_is in
    let fewer : length c.other.inside.ticks.items ≤ length c.self.inside.ticks.items = search rules in
    let both = c.learn.new.self.log in
    let of_self : c.again-both.result.log ≡ c.args.self.now.ticks =
    ap (λ s. s.log) c.again-both.ensures ∙ (ap (λ (x : Capture). x.history) c.self.view_is ∙ c.requires.whole.0) in
    let of_other : c.other.inside.front.log ≡ c.args.other.now.ticks = ap (λ (x : Capture). x.history) c.other.view_is ∙ c.requires.whole.1 in
    prefix_shorter c.args.other.now.ticks c.args.self.now.ticks both
    (subst (λ (l : List Tick). IsPrefix l both) of_other c.learn.ensures.3)
    (subst (λ (l : List Tick). IsPrefix l both) of_self c.learn.ensures.2)
    (omega (arith, mine, theirs, fewer))
