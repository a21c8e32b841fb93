use Rattle.std.proofs.Common.{◌≡◌, ◌+◌, ◌-◌, ◌≤◌, ◌++◌, List, ℕ, ◌∙◌, ap, arith, drop, length, length-drop, sym, take}
use Rattle.gs_bytes.proofs.StreamLemmas.{left_after, taken_after}
use Rattle.gs_bytes.proofs.unread.Unread.read.Goals as goal

pub returns-clause-left : goal.returns-clause-left
returns-clause-left c =
    let at = c.self.inside.at in
    let n = c.min-n.result in
    let xs = c.self.inside.bytes.items in
    let fits : n ≤ length (drop at xs) = omega (arith, length-drop {A = ℕ} at xs, ap length c.deref.ensures.value) in
    let copied : c.copy_from_slice.new.self ≡ take (at + n - at) (drop at xs) =
    c.copy_from_slice.ensures.after ∙ ap (λ (ys : List ℕ). take (at + n - at) (drop at ys)) c.deref.ensures.value in
    sym (ap (λ r. r.left) c.self.view_is) ∙ left_after at n xs c.copy_from_slice.new.self _ copied fits

pub returns-clause-taken : goal.returns-clause-taken
returns-clause-taken c =
    let at = c.self.inside.at in
    let n = c.min-n.result in
    let xs = c.self.inside.bytes.items in
    let fits : n ≤ length (drop at xs) = omega (arith, length-drop {A = ℕ} at xs, ap length c.deref.ensures.value) in
    let copied : c.copy_from_slice.new.self ≡ take (at + n - at) (drop at xs) =
    c.copy_from_slice.ensures.after ∙ ap (λ (ys : List ℕ). take (at + n - at) (drop at ys)) c.deref.ensures.value in
    taken_after at n xs c.copy_from_slice.new.self _ copied fits
    ∙ ap (λ ys. ys ++ take n (c.copy_from_slice.new.self ++ drop n c.args.into.now)) (ap (λ r. r.taken) c.self.view_is)
