use Rattle.std.proofs.Common.{◌≡◌, refl, subst, ◌∙◌, take, Some}
use Rattle.std.specs.List.{slice_get}
use Rattle.gs_frames.specs.Datagrams.{frame_datagrams}
use Rattle.gs_split.specs.Splitting.{Splitting, IsLoaded}
use Rattle.gs_host_core.specs.Puts.{PutsFront, link_told}
use Rattle.gs_bytes.proofs.Cases.{on_err}
use Rattle.gs_host_core.proofs.Puts.{puts-none, next-put, next-failed}
use Rattle.gs_host_core.proofs.put.put_frame.Goals as goal

pub datagrams-init : goal.datagrams-init
datagrams-init g c = record {
  kept = refl;
  put = λ sent loaded unit. puts-none (link_told g.L.Link c.args.link.now) c.args.to;
  counted = refl;
}

pub returns-in_err-put-clause-front : goal.returns-in_err-put-clause-front
returns-in_err-put-clause-front g c = λ sent loaded unit.
    let old = c.args.splitter.now in
    let link = g.L.Link in
    let xs = frame_datagrams old.settings sent in
    on_err c.from_residual.result (PutsFront (link_told link c.args.link.now) (link_told link c.put.new.self) c.args.to xs)
    (next-failed (link_told link c.args.link.now) (link_told link c.datagrams.link)
    (link_told link c.put.new.self) c.args.to xs c.datagrams.k c.in_err-put.field-0.0
    (take c.datagram-length.result c.datagram-length.new.out) (c.datagrams.invariant.put sent loaded unit)
    c.in_err-put.ensures.entries c.in_err-put.ensures.waiting)

pub datagrams-preserved : goal.datagrams-preserved
datagrams-preserved g c =
    let old = c.args.splitter.now in
    let kept : c.datagrams.splitter ≡ old = c.datagrams.invariant.kept in
    let bytes = take c.datagram-length.result c.datagram-length.new.out in
    let link = g.L.Link in
    record {
      kept = c.datagram-length.ensures.kept ∙ kept;
      put = λ sent loaded unit.
          let P : Splitting → Type 0 = λ s. IsLoaded s sent → slice_get (frame_datagrams s.settings sent) c.datagrams.k ≡ Some bytes in
          next-put (link_told link c.args.link.now) (link_told link c.datagrams.link) (link_told link c.put.new.self) c.args.to
          (frame_datagrams old.settings sent) c.datagrams.k bytes
          (subst P kept (λ is. c.datagram-length.ensures.datagram sent is unit) loaded) (c.datagrams.invariant.put sent loaded unit)
          c.in_ok-put.ensures.entries c.in_ok-put.ensures.waiting;
      counted = c.in_ok-put.ensures.counted ∙ c.datagrams.invariant.counted;
    }
