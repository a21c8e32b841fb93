use Rattle.std.specs.Int.{cast_unsigned, w64}
use Rattle.std.proofs.Math.Facts.{to_z-of_z}
use Rattle.gs_bytes.specs.Field.{little_bytes}
use Rattle.gs_bytes.proofs.FieldLemmas.{put_mid_field}
use Rattle.gs_bytes.proofs.little_endian.write_i64_le.Goals as goal

pub returns : goal.returns
returns c =
    let fits = c.ranges.value in
    let put = simp to_z-of_z at c.write_i64.ensures in
    put_mid_field c.args.place 8 c.args.out.now (little_bytes 8 (cast_unsigned w64 c.args.value)) c.write_i64.new.buf c.requires put
