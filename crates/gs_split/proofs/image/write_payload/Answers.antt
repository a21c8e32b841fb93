use Rattle.std.proofs.Common.{◌-◌, ◌*◌, length, drop, refl, arith}
use Rattle.std.proofs.lemmas.List.{length-drop, take_all}
use Rattle.gs_split.proofs.Payloads.{first-payload, later-payload}
use Rattle.gs_split.proofs.image.write_payload.Goals as goal

pub returns-then-number-eq0 : goal.returns-then-number-eq0
returns-then-number-eq0 c =
    first-payload c.args.kind c.last_length_of.result c.args.number (length c.args.out.now) c.args.unit.now c.args.out.now c.write_image_header.new.out
    c.write_padded.new.out c.if-number-eq0.true c.requires.payload c.requires.number refl c.last_length_of.ensures c.write_image_header.ensures
    c.write_padded.ensures

pub returns-else-number-eq0 : goal.returns-else-number-eq0
returns-else-number-eq0 c =
    let unit = c.args.unit.now in
    let at = c.args.number * length c.args.out.now - 8 in
    later-payload c.args.kind c.args.number (length c.args.out.now) unit _ c.write_padded-else-number-eq0.new.out
    (omega (arith, c.if-number-eq0.false)) c.requires.payload c.requires.number
    (take_all (length unit - at) (drop at unit) (omega (arith, length-drop at unit)))
    c.write_padded-else-number-eq0.ensures
