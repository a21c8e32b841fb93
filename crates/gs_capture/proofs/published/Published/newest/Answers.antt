use Rattle.std.proofs.Common.{◌≡◌, ◌<◌, length, rules, sym, ap, ◌∙◌, arith}
use Rattle.std.specs.Arc.{arc_value}
use Rattle.std.proofs.lemmas.List.{length-map}
use Rattle.gs_capture.specs.Captures.{Capture}
use Rattle.gs_capture.proofs.Numbered.{last_is}
use Rattle.gs_capture.proofs.published.Published.newest.Goals as goal

pub returns : goal.returns
returns c =
    let are = ap (λ (x : Capture). x.ticks) c.self.view_is in
    let long : length c.self.inside.ticks.items ≡ length c.args.self.now.ticks = sym (length-map c.self.inside.ticks.items arc_value) ∙ ap length are in
    let count : c.len-2.result ≡ length c.self.inside.ticks.items = search rules in
    let above : c.args.after < length c.self.inside.ticks.items = search rules in (
      omega (arith, long, above),
      last_is _ _ are c.len-2.result c.index-last.result.now _ count (omega (arith, count, above)) c.index-last.ensures c.in_ok-try_clone.ensures,
    )
