use Rattle.std.proofs.Common.{◌≡◌, ◌+◌, ◌-◌, ◌*◌, ◌<◌, ◌≤◌, ◌⊎◌, ℕ, List, false, true, length, take, drop, sym, ap, subst, ◌∙◌, inl, inr, arith, rules}
use Rattle.std.specs.List.{All}
use Rattle.std.proofs.lemmas.List.{get_or_default}
use Rattle.gs_gf256.specs.Field.{IsByte}
use Rattle.gs_frames.specs.Shards.{payload_of}
use Rattle.gs_fecqueue.specs.Places.{shard_total, HasPlaced}
use Rattle.gs_fecqueue.proofs.Restored.{coded-joined, bare-joined}
use Rattle.gs_fecqueue.proofs.block.restore.Goals as goal

pub returns-in_default : goal.returns-in_default
returns-in_default c = λ s held first size are has placed shards full.
    let xs = c.args.bytes.now in
    let d = first.head.shards in
    let bytes : All IsByte xs = λ k d' h. omega (arith, c.type_inv.bytes k, get_or_default xs k d' 0 h) in
    let bad = c.video.ensures.bad_counts.0 (search rules) in
    let none : (d ≡ 0) ⊎ (255 < shard_total first.head) = elim bad [
      | inl zero_is ↦ inl (sym shards ∙ zero_is)
      | inr many ↦ inr (omega (arith, has.count))
    ] in
    let room : shard_total first.head * payload_of s ≤ length xs =
    omega (arith, ap (λ (n : ℕ). n * payload_of s) has.count, ap (λ (n : ℕ). length c.args.present.now * n) size) in
    let Placed : ℕ → Type 0 = λ n. HasPlaced n xs held in
    let at : ℕ → ℕ → List ℕ = λ m n. take (m * n) xs in
    ap (λ (m : ℕ). at m c.args.size) shards ∙ ap (at d) (sym size)
    ∙ bare-joined s held first xs are full none room bytes (subst Placed (sym size) placed)

pub returns-in-Ok : goal.returns-in-Ok
returns-in-Ok c = λ s held first size are has placed shards full.
    let xs = c.args.bytes.now in
    coded-joined s held first c.args.present.now xs c.restore.new.shards (drop (length c.args.present.now * c.args.size) xs) c.args.size c.args.shards
    c.in-Ok.code c.restore.result size are has placed shards full c.requires.room c.in-Ok.ensures.code
    (λ bad. let no : false ≡ true = c.in-Ok.ensures.bad_counts.1 bad in cc)
    c.restore.auto.shards c.restore.ensures.too_few c.restore.ensures.some_block
