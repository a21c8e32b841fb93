use Rattle.std.proofs.Common.{arith, ◌≡◌, ◌+◌, ◌≤◌, length, ℕ}
use Rattle.gs_tape.proofs.Streams.{field_read}
use Rattle.gs_tape.proofs.cursor.Cursor.take.Goals as goal

pub returns-clause-read : goal.returns-clause-read
returns-clause-read g c =
    let long : length c.in_ok-bytes.bytes ≡ c.args.n = omega (arith, c.in_ok-bytes.ensures.most, c.len.ensures.value, c.if-len-n.false) in
    field_read c.args.n c.args.self.now.place _ _ _ _ _ _ _ c.in_ok-bytes.bytes c.in_ok-bytes.ensures.bytes long (omega arith)
