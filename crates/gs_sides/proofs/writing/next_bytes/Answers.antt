use Rattle.gs_sides.proofs.Writings.{bytes_written, wrote_known, was_written}
use Rattle.gs_sides.proofs.writing.next_bytes.Goals as goal

pub returns-in_default-clause-known : goal.returns-in_default-clause-known
returns-in_default-clause-known c = wrote_known c.args.now _ _ c.requires (λ r h. (c.in_default.ensures.written r h).1)

pub returns-in_default-clause-written : goal.returns-in_default-clause-written
returns-in_default-clause-written c = λ r h. let w = c.in_default.ensures.written r h in (w.0, w.1)

pub returns-in_err-copy_of-clause-known : goal.returns-in_err-copy_of-clause-known
returns-in_err-copy_of-clause-known c = wrote_known c.args.now _ _ c.requires (λ r h. (c.in-Some.ensures.written r h).stands)

pub returns-clause-known : goal.returns-clause-known
returns-clause-known c = wrote_known c.args.now _ _ c.requires (λ r h. (c.in-Some.ensures.written r h).stands)

pub returns-clause-written : goal.returns-clause-written
returns-clause-written c = λ r h. bytes_written r c.args.now _ _ _ _ _ (c.in-Some.ensures.written r h) c.in_ok-copy_of.ensures

pub returns-clause-spelled : goal.returns-clause-spelled
returns-clause-spelled c =
    was_written c.args.now c.args.peer.now c.next_out.new.self _ c.requires
    (λ r h. bytes_written r c.args.now _ _ _ _ _ (c.in-Some.ensures.written r h) c.in_ok-copy_of.ensures)
