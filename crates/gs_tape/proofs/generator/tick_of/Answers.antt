use Rattle.gs_tape.proofs.Parts.{tick_value, tick_state}
use Rattle.gs_tape.proofs.generator.tick_of.Goals as goal

pub returns-clause-tick : goal.returns-clause-tick
returns-clause-tick c =
    tick_value c.args.t c.args.draws.now.state c.unit_from.new.self.state c.deltas.new.self.state _ _ _
    c.in_ok-idr.ensures.unit c.in_ok-idr.ensures.state c.in_ok-deltas.ensures.deltas c.in_ok-deltas.ensures.state c.in_ok-audio.ensures.units

pub returns-clause-state : goal.returns-clause-state
returns-clause-state c =
    tick_state c.args.t c.args.draws.now.state c.unit_from.new.self.state c.deltas.new.self.state c.sounds.new.self.state
    c.in_ok-idr.ensures.state c.in_ok-deltas.ensures.state c.in_ok-audio.ensures.state
