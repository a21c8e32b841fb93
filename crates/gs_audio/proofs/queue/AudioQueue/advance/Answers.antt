use Rattle.std.proofs.Common.{[], refl, ap, ◌∙◌}
use Rattle.gs_audio.specs.declared.room.Room.{Room}
use Rattle.gs_audio.specs.Standing.{left_plays}
use Rattle.gs_audio.specs.Steps.{shard_of_number}
use Rattle.gs_audio.proofs.Counting.{advance-takes}
use Rattle.gs_audio.proofs.queue.AudioQueue.advance.Goals as goal

pub returns-clause-takes : goal.returns-clause-takes
returns-clause-takes c = λ s rs stands above.
    let q = c.args.self.now in
    advance-takes q _ s rs (shard_of_number c.args.block c.args.index c.args.shard.now) c.plays_left-plays.result stands above refl refl
    c.swap.ensures.y_after (c.hold.ensures.holds [] c.clear.ensures.holds refl).1
    (c.plays_left-plays.ensures.is ∙ ap (λ (room : Room). left_plays q.block room.held) c.swap.ensures.y_after)
