use Rattle.std.proofs.Common.{◌≡◌, false, true, refl, arith}
use Rattle.gs_sides.proofs.Standings.{writes_none, writes_some}
use Rattle.gs_sides.proofs.Writings.{fewer_due}
use Rattle.gs_sides.proofs.side.ControlSide.write_next.Goals as goal

pub returns-in_default : goal.returns-in_default
returns-in_default c = record {
  written = λ x h. writes_none _ _ x c.args.now h (rw c.in_default.is at (c.in_ok-bytes.ensures.written x.peer h.peer)) refl refl refl;
  fewer = λ e. absurd (let e' : false ≡ true = e in grind arith);
}

pub keep-requires-clause-written : goal.keep-requires-clause-written
keep-requires-clause-written c = rw c.in-Some.is at c.in_ok-bytes.ensures.spelled

pub returns : goal.returns
returns c = record {
  written = λ x h. writes_some _ _ x c.args.now _ h (rw c.in-Some.is at (c.in_ok-bytes.ensures.written x.peer h.peer))
      c.in_ok-keep.ensures.put refl refl;
  fewer = λ e. fewer_due c.args.now _ _ c.in-Some.bytes c.args.self.now.has_record
      (λ r h. rw c.in-Some.is at (c.in_ok-bytes.ensures.written r h));
}
