use Rattle.std.proofs.Common.{◌≡◌, ◌≢◌, ◌<◌, ◌≤◌, ◌+◌, ℕ, suc, Bool, true, false, not, ◌&&◌, cond, List, ◌∷◌, length, get_or, refl, sym, ap, subst, ◌∙◌, inl}
use Rattle.std.proofs.Common.{inr, arith, rules}
use Rattle.std.specs.Prelude.{◌==◌}
use Rattle.std.proofs.lemmas.Bool.{cond-true, cond-false, eq-eqb, ne_eqb, eqb-true, eqb-false, and_cases, not-false}
use Rattle.std.proofs.lemmas.List.{get_or_read}
use Rattle.gs_rtp.specs.declared.video.VideoHead.{VideoHead}
use Rattle.gs_frames.specs.declared.verdict.Shape.{Shape}
use Rattle.gs_fecqueue.specs.declared.block.Block.{Block}
use Rattle.gs_fecqueue.proofs.Taking.{said, said_by_room, said_by_head, shapes-equal, taken-first, taken-more, taken-again}
use Rattle.gs_fecqueue.proofs.block.Block.take.Goals as goal

-- what was said by the room, where something is held
by_room : (had came : Shape) (b0 : Block) (head : VideoHead) (last : ℕ)
    → had ≡ cond (b0.held == 0) (said last head.shards head.percentage) (said_by_room last b0) → came ≡ said_by_head head
    → false ≡ not (had.last_block == came.last_block && (had.shards == came.shards && had.percentage == came.percentage))
    → b0.held ≢ 0 → said_by_room last b0 ≡ said_by_head head
by_room had came b0 head last had_is came_is same some =
    sym (had_is ∙ cond-false (b0.held == 0) (said last head.shards head.percentage) (said_by_room last b0) (ne_eqb b0.held 0 some))
    ∙ shapes-equal had came same ∙ came_is

-- and else by the head
by_head : (had came : Shape) (b0 : Block) (head : VideoHead) (last : ℕ)
    → had ≡ cond (b0.held == 0) (said last head.shards head.percentage) (said_by_room last b0) → came ≡ said_by_head head
    → false ≡ not (had.last_block == came.last_block && (had.shards == came.shards && had.percentage == came.percentage))
    → b0.held ≡ 0 → last ≡ head.last_block
by_head had came b0 head last had_is came_is same none =
    ap (λ (x : Shape). x.last_block)
    (sym (had_is ∙ cond-true (b0.held == 0) (said last head.shards head.percentage) (said_by_room last b0) (eq-eqb b0.held 0 none))
    ∙ shapes-equal had came same ∙ came_is)

-- a block that isn't whole has fewer shards than data shards
not_full : (b : Block) → b.held ≢ 0 → (not (b.held == 0) && b.held == b.shards) ≡ false → b.held ≤ b.shards → b.held < b.shards
not_full b some open_is within = elim (and_cases (not (b.held == 0)) (b.held == b.shards) open_is) [
  | inl none ↦ absurd (some (eqb-true b.held 0 (not-false (b.held == 0) none)))
  | inr other ↦ omega (arith, eqb-false b.held b.shards other)
]

pub returns-then-self-eq0-clause-verdict : goal.returns-then-self-eq0-clause-verdict
returns-then-self-eq0-clause-verdict c = λ s held first r holds brings.
    let b0 = c.args.self.now in
    let head = c.args.head.now in
    let last_is =
    by_head c.shape_had-had.result c.shape_of-came.result b0 head c.args.last_block c.shape_had-had.ensures c.shape_of-came.ensures c.if-ne.ensures
    c.if-self-eq0.true in
    (taken-first s b0 c.start.new.self c.hold.new.self head c.args.last_block c.args.payload.now c.hold.result held first r c.requires.grammar
    c.if-self-eq0.true last_is c.start.ensures holds brings c.hold.ensures).0

pub returns-then-self-eq0-clause-holds : goal.returns-then-self-eq0-clause-holds
returns-then-self-eq0-clause-holds c = λ s held first r holds brings.
    let b0 = c.args.self.now in
    let head = c.args.head.now in
    let last_is =
    by_head c.shape_had-had.result c.shape_of-came.result b0 head c.args.last_block c.shape_had-had.ensures c.shape_of-came.ensures c.if-ne.ensures
    c.if-self-eq0.true in
    (taken-first s b0 c.start.new.self c.hold.new.self head c.args.last_block c.args.payload.now c.hold.result held first r c.requires.grammar
    c.if-self-eq0.true last_is c.start.ensures holds brings c.hold.ensures).1

pub returns-then-index-clause-verdict : goal.returns-then-index-clause-verdict
returns-then-index-clause-verdict c = λ s held first r holds brings.
    let b0 = c.args.self.now in
    let head = c.args.head.now in
    let same =
    by_room c.shape_had-had.result c.shape_of-came.result b0 head c.args.last_block c.shape_had-had.ensures c.shape_of-came.ensures c.if-ne.ensures
    c.if-self-eq0.false in
    let read : c.index.result.now ≡ get_or b0.present.items head.index c.index.result.now = search rules in
    let there : get_or b0.present.items head.index false ≡ true =
    sym (get_or_read b0.present.items head.index c.index.result.now (search rules) read false) ∙ c.if-index.true in
    taken-again s b0 head c.args.last_block c.args.payload.now held first r c.requires.grammar c.if-self-eq0.false same there holds brings

pub returns-clause-verdict : goal.returns-clause-verdict
returns-clause-verdict c = λ s held first r holds brings.
    let b0 = c.args.self.now in
    let head = c.args.head.now in
    let same =
    by_room c.shape_had-had.result c.shape_of-came.result b0 head c.args.last_block c.shape_had-had.ensures c.shape_of-came.ensures c.if-ne.ensures
    c.if-self-eq0.false in
    let missing : get_or b0.present.items head.index false ≡ false = search rules in
    let few = not_full b0 c.if-self-eq0.false (sym c.is_whole.ensures ∙ c.if-is_whole.false) b0.enough in
    (taken-more s b0 c.hold-2.new.self head c.args.last_block c.args.payload.now c.hold-2.result held first r c.requires.grammar
    c.if-self-eq0.false same missing few holds brings c.hold-2.ensures).0

pub returns-clause-holds : goal.returns-clause-holds
returns-clause-holds c = λ s held first r holds brings.
    let b0 = c.args.self.now in
    let head = c.args.head.now in
    let same =
    by_room c.shape_had-had.result c.shape_of-came.result b0 head c.args.last_block c.shape_had-had.ensures c.shape_of-came.ensures c.if-ne.ensures
    c.if-self-eq0.false in
    let missing : get_or b0.present.items head.index false ≡ false = search rules in
    let few = not_full b0 c.if-self-eq0.false (sym c.is_whole.ensures ∙ c.if-is_whole.false) b0.enough in
    (taken-more s b0 c.hold-2.new.self head c.args.last_block c.args.payload.now c.hold-2.result held first r c.requires.grammar
    c.if-self-eq0.false same missing few holds brings c.hold-2.ensures).1
