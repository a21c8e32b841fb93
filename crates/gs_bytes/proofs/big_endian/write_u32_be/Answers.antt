use Rattle.gs_bytes.specs.Field.{big_bytes}
use Rattle.gs_bytes.proofs.FieldLemmas.{put_mid_field}
use Rattle.gs_bytes.proofs.big_endian.write_u32_be.Goals as goal

pub returns : goal.returns
returns c =
    put_mid_field c.args.place 4 c.args.out.now (big_bytes 4 c.args.value) c.write_u32.new.buf c.requires c.write_u32.ensures
