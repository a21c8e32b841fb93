use Rattle.std.proofs.Common.{◌≡◌, Bool, sym, subst, ap, ◌∙◌}
use Rattle.std.specs.List.{find}
use Rattle.gs_enet.specs.Record.{PeerRecord, at_moment, is_shut}
use Rattle.gs_enet.specs.Steps.{had_last_wait, timed, timed_at, timed_if}
use Rattle.gs_enet.specs.Standing.{IsPeerOf}
use Rattle.gs_enet.proofs.Timings.{timed-lost, timed-none, lost_of}
use Rattle.gs_enet.proofs.peer.Peer.timer.Goals as goal

pub returns-then-is_shut : goal.returns-then-is_shut
unfolding timed
returns-then-is_shut c = λ r s.
    let seen = c.see.ensures.stands r s in
    let t : PeerRecord = at_moment c.args.now r in
    let over : is_shut t.state ≡ _ = ap is_shut seen.state ∙ sym c.if-is_shut.ensures in
    subst (IsPeerOf c.see.new.self) (sym (ap (λ (b : Bool). timed_if b (find (had_last_wait t.now) t.unacknowledged) t) over)) seen

pub returns-in-Some : goal.returns-in-Some
unfolding timed
returns-in-Some c = λ r s.
    let seen = c.see.ensures.stands r s in
    let t : PeerRecord = at_moment c.args.now r in
    subst (IsPeerOf c.lose.new.self)
    (sym (timed-lost t c.in-Some.channel c.in-Some.number (ap is_shut seen.state ∙ sym c.if-is_shut.ensures)
    (lost_of c.see.new.self t seen ∙ sym c.in-Some.ensures)))
    (c.lose.ensures t seen)

pub returns-in-None : goal.returns-in-None
unfolding timed
returns-in-None c = λ r s.
    let seen = c.see.ensures.stands r s in
    let t : PeerRecord = at_moment c.args.now r in
    subst (IsPeerOf c.mark_due.new.self)
    (sym (timed-none t (ap is_shut seen.state ∙ sym c.if-is_shut.ensures) (lost_of c.see.new.self t seen ∙ sym c.in-None.ensures)))
    (c.mark_due.ensures t seen)
