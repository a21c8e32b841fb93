use Rattle.std.proofs.Common.{sym, subst}
use Rattle.gs_refs.specs.Answers.{References}
use Rattle.gs_turn.specs.History.{Front}
use Rattle.gs_session.specs.Sessions.{LeavesRefs, front, own}
use Rattle.gs_session.proofs.Histories.{Numbers, front-left, front-right, all-numbered}
use Rattle.gs_session.proofs.session.Session.close.Goals as goal
use Rattle.gs_turn.specs.Cells as cell

pub returns : goal.returns
returns c =
    let first = c.args.first in
    let second = c.args.second in
    let keep = c.join.new.keep in
    let closed = c.close.ensures in
    let h = closed.0 in
    let both = subst (λ (o : Numbers). Front (cell.front keep) o h) c.join.ensures.own closed.2 in (
      h,
      subst (λ (r : References). LeavesRefs c.args.self h r) (sym c.refs.view_is) closed.1,
      front-left (front first) (cell.front keep) (own first) (own second) h c.join.ensures.begins.0 both,
      front-right (front second) (cell.front keep) (own first) (own second) h c.join.ensures.begins.1 both,
      all-numbered (cell.own keep) (own first) (own second) h c.join.ensures.numbers closed.3,
    )
