use Rattle.std.proofs.Common.{◌≡◌, ◌<◌, ◌≤◌, ◌+◌, ℕ, suc, Bool, true, false, List, ◌∷◌, length, refl, sym, ap, subst, ◌∙◌, arith, rules}
use Rattle.std.specs.Prelude.{◌==◌, ◌&&◌, not}
use Rattle.std.proofs.lemmas.Bool.{eq-eqb, eqb-true, and_parts}
use Rattle.gs_frames.specs.declared.verdict.Added.TheVariants.{BlockWhole}
use Rattle.gs_frames.specs.Shards.{payload_of}
use Rattle.gs_frames.specs.Complete.{joined_payloads}
use Rattle.gs_fecqueue.specs.Holding.{data_of_block}
use Rattle.gs_fecqueue.specs.BlockVerdict.{made_block_whole}
use Rattle.gs_fecqueue.proofs.Taking.{join-are, join-room, join-placed, kept-room}
use Rattle.gs_fecqueue.proofs.block.Block.hold.Goals as goal

pub returns : goal.returns
returns c = λ s held first r ready joins.
    let put = c.put.ensures in
    let b0 = c.args.self.now in
    let b1 = c.put.new.self in
    let are = join-are s b0 held first r c.args.index c.args.payload.now ready joins in
    let room = join-room s b0 b1 held first r c.args.index c.args.payload.now ready joins put (omega arith) in
    let placed = join-placed s b0 b1 held first r c.args.index c.args.payload.now ready joins put in
    let kept = c.restore.ensures.kept in
    let whole : (not (b1.held == 0) && b1.held == b1.shards) ≡ true = sym c.is_whole.ensures ∙ search rules in
    let count : b1.held ≡ b1.shards = eqb-true b1.held b1.shards (and_parts (not (b1.held == 0)) (b1.held == b1.shards) whole).1 in
    let full : length (r ∷ held) ≡ first.head.shards = omega (arith, room.count, room.shards) in
    let size : payload_of s ≡ length c.args.payload.now = sym joins.size in
    let joined = c.restore.ensures.data s (r ∷ held) first size are room placed full in (
      ap made_block_whole (sym (eq-eqb (length (r ∷ held)) first.head.shards full)),
      record {
        some = omega arith;
        are = are;
        room = kept-room b1 c.restore.new.self (r ∷ held) first room kept;
        placed = λ few. absurd (omega arith);
        whole = λ e. ap (λ (n : ℕ). data_of_block n c.restore.new.self) size ∙ joined;
      },
    )
