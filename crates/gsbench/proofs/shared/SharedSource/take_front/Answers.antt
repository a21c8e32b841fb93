use Rattle.std.proofs.Common.{◌≡◌, ◌+◌, ◌-◌, ◌≤◌, List, ℕ, ◌∙◌, ap, arith, drop, length, length-drop, sym, take}
use Rattle.gs_bytes.proofs.StreamLemmas.{left_after}
use Rattle.gsbench.proofs.shared.SharedSource.take_front.Goals as goal

pub returns-clause-left : goal.returns-clause-left
returns-clause-left c =
    let at = c.self.inside.at in
    let n = c.min-n.result in
    let xs = c.self.inside.bytes in
    let fits : n ≤ length (drop at xs) = omega (arith, length-drop {A = ℕ} at xs, ap length c.as_bytes-bytes.ensures) in
    let copied : c.copy_from_slice.new.self ≡ take (at + n - at) (drop at xs) =
    c.copy_from_slice.ensures.after ∙ ap (λ (ys : List ℕ). take (at + n - at) (drop at ys)) c.as_bytes-bytes.ensures in
    sym c.self.view_is ∙ left_after at n xs c.copy_from_slice.new.self _ copied fits
