use Rattle.std.proofs.Common.{◌≡◌, true, false, length, refl, sym, ap, ◌∙◌, rules}
use Rattle.std.specs.Prelude.{◌&&◌, not, nat_lt}
use Rattle.gs_rtp.specs.Stream.{StreamSettings}
use Rattle.gs_audio.specs.Received.{shards_of_block}
use Rattle.gs_audio.specs.Played.{counting_shards, is_audio_held}
use Rattle.gs_audio.specs.Steps.{shard_of_number}
use Rattle.gs_audio.proofs.Counting.{spare, join-whole, join-part, counts-missing}
use Rattle.gs_audio.proofs.queue.AudioQueue.join.Goals as goal

pub returns-then-not-lacks-clause-takes : goal.returns-then-not-lacks-clause-takes
returns-then-not-lacks-clause-takes c = λ s rs stands e.
    let q = c.args.self.now in
    let held = shards_of_block c.args.block (counting_shards rs) in
    let off : (not (is_audio_held c.args.index held) && nat_lt (length held) 4) ≡ false =
    sym (c.lacks.ensures.is held (stands.holds c.args.block e)) ∙ search rules in
    spare q s rs (shard_of_number c.args.block c.args.index c.args.shard.now) stands e off

pub returns-then-hold-clause-takes : goal.returns-then-hold-clause-takes
returns-then-hold-clause-takes c = λ s rs stands e.
    let q = c.args.self.now in
    let held = shards_of_block c.args.block (counting_shards rs) in
    let holds = stands.holds c.args.block e in
    let on : (not (is_audio_held c.args.index held) && nat_lt (length held) 4) ≡ true = sym (c.lacks.ensures.is held holds) ∙ search rules in
    let more = c.hold.ensures.holds held holds (counts-missing (is_audio_held c.args.index held) (nat_lt (length held) 4) on) in
    let size = c.hold.ensures.size ∙ q.current_size ∙ ap (λ (t : StreamSettings). t.audio) stands.settings_are in
    join-whole q _ s rs (shard_of_number c.args.block c.args.index c.args.shard.now) stands e on refl refl more.1 (sym more.0 ∙ c.if-hold.true) size

pub returns-else-hold-clause-takes : goal.returns-else-hold-clause-takes
returns-else-hold-clause-takes c = λ s rs stands e.
    let q = c.args.self.now in
    let held = shards_of_block c.args.block (counting_shards rs) in
    let holds = stands.holds c.args.block e in
    let on : (not (is_audio_held c.args.index held) && nat_lt (length held) 4) ≡ true = sym (c.lacks.ensures.is held holds) ∙ search rules in
    let more = c.hold.ensures.holds held holds (counts-missing (is_audio_held c.args.index held) (nat_lt (length held) 4) on) in
    join-part q _ s rs (shard_of_number c.args.block c.args.index c.args.shard.now) stands e on refl refl more.1 (sym more.0 ∙ c.if-hold.false)
