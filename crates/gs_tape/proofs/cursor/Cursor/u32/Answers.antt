use Rattle.std.proofs.Common.{◌≡◌, rules}
use Rattle.byteorder.specs.Endian.{little_number}
use Rattle.gs_tape.proofs.Streams.{number_read}
use Rattle.gs_tape.proofs.cursor.Cursor.u32.Goals as goal

pub returns-clause-read : goal.returns-clause-read
returns-clause-read g c =
    let is : c.read_u32_le.result ≡ little_number 4 c.in_ok-bytes.bytes = first_of (search rules, cc) in
    number_read 4 _ _ _ _ c.in_ok-bytes.bytes _ c.in_ok-bytes.ensures.read is
