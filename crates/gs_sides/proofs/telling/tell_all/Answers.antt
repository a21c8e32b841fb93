use Rattle.gs_sides.proofs.Tellings.{tells_none, tells_more, tells_end, end_known, fewer_wait}
use Rattle.gs_sides.proofs.telling.tell_all.Goals as goal

pub events-init : goal.events-init
events-init c = tells_none _ _ _ c.clear.ensures.items c.requires

pub events-preserved : goal.events-preserved
events-preserved c =
    rw (c.in_ok-push.ensures.items, c.open_after-is_open.ensures)
    (tells_more _ _ _ _ _ _ _ c.events.invariant c.in-Some.ensures)

pub events-smaller : goal.events-smaller
events-smaller c = fewer_wait _ _ _ c.events.invariant.known c.in-Some.ensures

pub returns-in_err-push-clause-known : goal.returns-in_err-push-clause-known
returns-in_err-push-clause-known c = end_known _ _ _ _ _ _ _ c.events.invariant c.in-Some.ensures

pub returns : goal.returns
returns c = record {
  known = end_known _ _ _ _ _ _ _ c.events.invariant c.in_default.ensures;
  told = tells_end _ _ _ _ _ _ c.events.invariant c.in_default.ensures;
}
