use Rattle.std.proofs.Common.{ℕ, ◌∷◌, List, Some, Option, sym, ap, ◌∙◌}
use Rattle.atomic_table.specs.Table.{rest}
use Rattle.gs_turn.proofs.Turning.{Made, made_became, made_seat, made_turn, made_state, made_once}
use Rattle.gs_turn.proofs.turn.Turn.make_step.Goals as goal
use Rattle.gs_turn.proofs.turn.Turn.make_step.Goals.{After-count}
use Rattle.gs_turn.proofs.turn.Turn.make_step.Given.{Over}

pub exchange-requires : goal.exchange-requires
exchange-requires g c =
    let turn = c.requires.turn in
    (c.requires.seat.cell, (Some turn.0, turn.1.2 ∙ ap (λ (xs : List (ℕ × Option g.row.S.Denot)). (0, Some turn.0) ∷ rest xs) (sym turn.1.2)))

made : (g : Over) (c : After-count g)
    → Made g.S.Turned.steps c.args.self.now c.args.call c.step-reply.result c.args.seat.now c.exchange.new.seat c.count.new.seat
    c.in-Some.state c.step-reply.new.self
made g c =
    let took = c.exchange.ensures in
    record {
      seat = c.requires.seat;
      turn = c.requires.turn;
      found = took.2 ∙ ap (λ (x : Option g.row.S.Denot). (0, x) ∷ rest c.args.seat.now.me.1) c.in-Some.is;
      cell = took.0;
      id = took.1;
      took = took.3;
      step = c.step-reply.ensures;
      called = c.count.ensures c.args.call c.requires.call;
    }

pub returns-clause-called : goal.returns-clause-called
returns-clause-called g c = made_became _ _ _ _ _ _ _ _ _ (made g c)

pub returns-clause-seat : goal.returns-clause-seat
returns-clause-seat g c = made_seat _ _ _ _ _ _ _ _ _ (made g c)

pub returns-clause-turn : goal.returns-clause-turn
returns-clause-turn g c = made_turn _ _ _ _ _ _ _ _ _ (made g c)

pub returns-clause-state : goal.returns-clause-state
returns-clause-state g c = made_state _ _ _ _ _ _ _ _ _ (made g c)

pub returns-clause-once : goal.returns-clause-once
returns-clause-once g c = made_once _ _ _ _ _ _ _ _ _ (made g c)
