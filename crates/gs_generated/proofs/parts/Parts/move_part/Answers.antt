use Rattle.std.proofs.Common.{◌≡◌, ◌≤◌, ◌+◌, ◌-◌, ◌++◌, ◌∙◌, ℕ, List, ap, sym, take, drop, arith, length, length-drop, length-take-le}
use borrow.Rule.Slice.PartMut.{put_mid}
use Rattle.std.specs.List.{concat}
use Rattle.std.proofs.lemmas.Slice.{take-put_mid}
use Rattle.std.proofs.lemmas.List.{take_rest}
use Rattle.gs_generated.proofs.Moving.{moved}
use Rattle.gs_generated.proofs.parts.Parts.move_part.Goals as goal

pub returns-clause-moved : goal.returns-clause-moved
returns-clause-moved c =
    let at = c.args.self.now.at in
    let n = c.min-n.result in
    let front = take c.args.count c.args.into.now in
    let rest = concat c.args.self.now.more.items in
    let out : c.copy_from_slice.new.self ≡ take n (drop at c.args.self.now.part) =
    c.copy_from_slice.ensures.after ∙ ap (λ (l : List ℕ). take n l) (take_rest c.as_bytes.result.now at
    ∙ ap (λ (l : List ℕ). drop at l) c.as_bytes.ensures) in
    let k = c.args.count + n - c.args.count in
    let behind = drop c.args.count c.args.into.now in
    let least : n ≤ length c.args.into.now - c.args.count = omega (arith, c.min-n.ensures) in
    let fits : k ≤ length behind = omega (arith, least, length-drop c.args.count c.args.into.now) in
    let long : c.args.count + n ≡ c.args.count + length c.copy_from_slice.new.self =
    omega (arith, c.copy_from_slice.ensures.len, length-take-le k behind fits) in
    let whole : take (c.args.count + n) (put_mid c.args.count k c.args.into.now c.copy_from_slice.new.self) ≡ front ++ take n (drop at c.args.self.now.part) =
    take-put_mid c.args.count k c.args.into.now c.copy_from_slice.new.self (c.args.count + n) long c.requires.room
    ∙ ap (λ (l : List ℕ). front ++ l) out in
    moved front c.args.self.now.part rest at n
    ∙ ap (λ (l : List ℕ). l ++ (drop (at + n) c.args.self.now.part ++ rest)) (sym whole)
