use Rattle.std.proofs.Common.{◌≡◌, ◌+◌, ◌-◌, ◌≤◌, arith, ap, ◌∙◌, take, ◌++◌, length, replicate, vec_len, length-drop, length-take, List, ℕ}
use Rattle.gs_schedule.proofs.HeldBytes.{moved, behind}
use Rattle.gs_schedule.proofs.held.Held.fill.Goals as goal

pub returns-clause-to_come : goal.returns-clause-to_come
returns-clause-to_come g c =
    let held = c.args.self.now in
    let copied = c.in_ok-bytes.ensures.items ∙ c.bytes.ensures in
    let start : c.len-start.result ≡ length held = c.len-start.ensures ∙ c.in_ok-bytes.ensures.len ∙ ap length c.bytes.ensures in
    let room = c.read.auto.into in
    let part : c.in_ok-count.count ≤ length c.read.new.into = c.in_ok-count.ensures.bound in
    let fits : c.len-start.result + c.in_ok-count.count ≤ c.resize.new.self.len =
    omega (arith, c.in_ok-resize.ensures.len, c.deref_mut.ensures.len, length-take {A = ℕ}, length-drop {A = ℕ}) in
    let zeros = replicate {A = ℕ} (c.len-start.result + 65536 - vec_len c.in_ok-bytes.bytes) 0 in
    let shape = c.deref_mut.ensures.value ∙ c.in_ok-resize.ensures.items ∙ ap (λ (xs : List ℕ). take (c.len-start.result + 65536) xs ++ zeros) copied in
    moved _ _ _ _ _ c.in_ok-count.ensures.left.0 (c.truncate.ensures.items ∙ behind held _ zeros _ _ _ _ _ _ _ start shape part fits)
