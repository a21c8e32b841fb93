use Rattle.std.proofs.Common.{refl}
use Rattle.gs_enet.specs.Steps.{timed}
use Rattle.gs_sides.proofs.Standings.{times_out}
use Rattle.gs_sides.proofs.side.ControlSide.timer.Goals as goal

pub tell_all-requires : goal.tell_all-requires
tell_all-requires c = λ none. c.args.self.now.has_record (λ r h. none (timed c.args.now r) (c.timer.ensures r h))

pub returns : goal.returns
returns c = λ x h.
    times_out _ _ x c.args.now _ h
    (c.in_ok-self.ensures.told (timed c.args.now x.peer) (c.timer.ensures x.peer h.peer)) refl refl
