use Rattle.std.proofs.Common.{◌≡◌, ◌∙◌, ap, true, false, [], ◌∷◌, ◌++◌}
use Rattle.gs_rtsp_text.specs.declared.header.Header.{Header}
use Rattle.gs_rtsp_text.specs.Reading.{begins_with_cr}
use Rattle.gs_rtsp_text.proofs.Counting.{all_copied, goes_on, never_stops}
use Rattle.gs_rtsp_text.proofs.Rest.{header_shorter}
use Rattle.gs_rtsp_text.proofs.head.copy_headers.Goals as goal

pub unreachable-requires : goal.unreachable-requires
unreachable-requires c =
    let line : begins_with_cr c.lines.rest.now ≡ false = cc in
    never_stops c.lines.headers.items c.args.bytes.now c.lines.rest.now c.in-Err.field-0 c.lines.invariant c.requires line c.in-Err.ensures

pub lines-smaller : goal.lines-smaller
lines-smaller c =
    let header : Header = record { name = c.in-Ok.parts.0.name.now; value = c.in-Ok.parts.0.value.now } in
    header_shorter c.lines.rest.now header c.in-Ok.parts.1.now c.in-Ok.ensures

pub lines-preserved : goal.lines-preserved
lines-preserved c =
    let line : begins_with_cr c.lines.rest.now ≡ false = cc in
    let one : c.push.new.self.items ≡ c.lines.headers.items ++ record { name = c.in-Ok.parts.0.name.now; value = c.in-Ok.parts.0.value.now } ∷ [] =
    c.in_ok-push.ensures.items ∙ ap (λ (x : Header). c.lines.headers.items ++ x ∷ []) c.in_ok-copy_of.ensures in
    rw one (goes_on c.lines.headers.items c.args.bytes.now c.lines.rest.now (record { name = c.in-Ok.parts.0.name.now; value = c.in-Ok.parts.0.value.now })
    c.in-Ok.parts.1.now c.lines.invariant line c.in-Ok.ensures)

pub returns : goal.returns
returns c =
    let cr : begins_with_cr c.lines.rest.now ≡ true = cc in
    all_copied c.lines.headers.items c.args.bytes.now c.lines.rest.now c.lines.invariant cr
