use Rattle.std.proofs.Common.{◌≡◌, ◌-◌, ◌<◌, ◌≤◌, length, get_or, rules, sym, ap, subst}
use Rattle.gs_capture.specs.Captures.{Capture}
use Rattle.gs_capture.proofs.Numbered.{found_is, none_is}
use Rattle.gs_capture.proofs.published.Published.numbered.Goals as goal

pub returns-in_ok-try_clone-in-Some : goal.returns-in_ok-try_clone-in-Some
returns-in_ok-try_clone-in-Some c =
    let are = ap (λ (x : Capture). x.ticks) c.self.view_is in
    let some : 0 < c.args.number = search rules in
    let got = c.in-Some.ensures.lookup in
    sym (found_is _ _ are c.args.number c.in-Some.tick.now _ some
    (subst (λ xs. c.args.number - 1 < length xs) c.deref.ensures.value got.3.0)
    (subst (λ xs. c.in-Some.tick.now ≡ get_or xs (c.args.number - 1) c.in-Some.tick.now) c.deref.ensures.value got.1)
    c.in_ok-try_clone-in-Some.ensures)

pub returns-in-None : goal.returns-in-None
returns-in-None c =
    let are = ap (λ (x : Capture). x.ticks) c.self.view_is in
    let some : 0 < c.args.number = search rules in
    sym (none_is _ _ are c.args.number some (subst (λ xs. length xs ≤ c.args.number - 1) c.deref.ensures.value c.in-None.ensures.lookup.3))
