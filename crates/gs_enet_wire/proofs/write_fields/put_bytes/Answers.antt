use Rattle.std.proofs.Common.{◌≡◌, ◌+◌, ◌-◌, length, take, drop, sym, append_assoc, arith}
use Rattle.std.proofs.lemmas.List.{drop-drop}
use Rattle.gs_enet_wire.proofs.Writers.{puts_text}
use Rattle.gs_enet_wire.proofs.write_fields.put_bytes.Goals as goal

pub returns : goal.returns
returns c =
    let out = c.args.out.now in
    let bytes = c.args.bytes.now in
    let count : c.args.place + length bytes - c.args.place ≡ length bytes = omega arith in
    let parts = sym (append_assoc (take c.args.place out) bytes (drop (c.args.place + length bytes) out)) in
    puts_text bytes c.args.place out _ (rw (count, c.copy_from_slice.ensures.after, drop-drop) parts) (omega arith)
