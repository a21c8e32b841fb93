use Rattle.std.proofs.Common.{◌≤◌, subst, ◌∙◌, length, take, arith}
use Rattle.std.proofs.lemmas.List.{take_all}
use Rattle.gs_audio.specs.Sending.{last_datagrams}
use Rattle.gs_host_core.specs.Puts.{PutsAll, PutsFront, link_told}
use Rattle.gs_bytes.proofs.Cases.{on_err}
use Rattle.gs_host_core.proofs.Puts.{next-put, next-failed}
use Rattle.gs_host_core.proofs.sound.put_ready.Goals as goal

pub returns-in_err-put-clause-front : goal.returns-in_err-put-clause-front
returns-in_err-put-clause-front g c = λ units pushed number.
    let link = g.L.Link in
    let xs = last_datagrams c.args.sender.now.settings units in
    on_err c.from_residual.result (PutsFront (link_told link c.args.link.now) (link_told link c.put.new.self) c.args.to xs)
    (next-failed (link_told link c.args.link.now) (link_told link c.ready.link) (link_told link c.put.new.self) c.args.to xs c.ready.k c.in_err-put.field-0.0
    (take c.datagram-length.result c.datagram-length.new.out) (c.ready.invariant.put units pushed) c.in_err-put.ensures.entries c.in_err-put.ensures.waiting)

pub ready-preserved : goal.ready-preserved
ready-preserved g c =
    let bytes = take c.datagram-length.result c.datagram-length.new.out in
    let link = g.L.Link in
    record {
      put = λ units pushed.
          next-put (link_told link c.args.link.now) (link_told link c.ready.link) (link_told link c.put.new.self) c.args.to
          (last_datagrams c.args.sender.now.settings units) c.ready.k bytes
          (c.datagram-length.ensures.datagram units pushed) (c.ready.invariant.put units pushed) c.in_ok-put.ensures.entries c.in_ok-put.ensures.waiting;
      counted = c.in_ok-put.ensures.counted ∙ c.ready.invariant.counted;
    }

pub returns-clause-whole : goal.returns-clause-whole
returns-clause-whole g c = λ units pushed number.
    let xs = last_datagrams c.args.sender.now.settings units in
    let most : length xs ≤ c.ready.k = omega (arith, number) in
    subst (PutsAll (link_told g.L.Link c.args.link.now) (link_told g.L.Link c.ready.link) c.args.to) (take_all c.ready.k xs most)
    (c.ready.invariant.put units pushed)
