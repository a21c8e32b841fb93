use Rattle.std.proofs.Common.{◌∙◌, Option, sym, subst}
use Rattle.gs_fecqueue.specs.declared.moved.Moved.{Moved}
use Rattle.gs_depack.proofs.Arrivals.{queue_tells}
use Rattle.gs_client_core.specs.Steps.{IsArrivalTold}
use Rattle.gs_client_core.proofs.Told.{asks_nothing}
use Rattle.gs_client_core.proofs.tell.tell_moved.Goals as goal

pub returns-in-None-clause-asks : goal.returns-in-None-clause-asks
returns-in-None-clause-asks c = λ client came bytes has stands e. sym (asks_nothing client came bytes (sym e ∙ c.in-None.is))

pub returns-in-None-clause-tells : goal.returns-in-None-clause-tells
returns-in-None-clause-tells c = λ client came bytes has stands e.
    subst (λ (o : Option Moved). IsArrivalTold c.args.depack.now client came bytes o) (sym c.in-None.is)
    (record { nothing = sym e ∙ c.in-None.is; stands = stands })

pub returns-in-Some-clause-asks : goal.returns-in-Some-clause-asks
returns-in-Some-clause-asks c = λ client came bytes has stands e.
    let move = queue_tells c.in-Some.moved client came bytes (sym e ∙ c.in-Some.is) in
    c.moved.ensures.asks client came bytes move.r has stands move.is_move

pub returns-in-Some-clause-tells : goal.returns-in-Some-clause-tells
returns-in-Some-clause-tells c = λ client came bytes has stands e.
    let move = queue_tells c.in-Some.moved client came bytes (sym e ∙ c.in-Some.is) in
    subst (λ (o : Option Moved). IsArrivalTold c.moved.new.self client came bytes o) (sym c.in-Some.is) (record {
      r = move.r;
      is_move = move.is_move;
      handing = c.moved.ensures.hands client came bytes move.r has stands move.is_move;
    })
