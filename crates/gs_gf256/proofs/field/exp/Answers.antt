use Rattle.std.proofs.Common.{◌%◌, ◌<◌, ◌∙◌, arith}
use Rattle.gs_gf256.proofs.Powers.{power_of_two}
use Rattle.gs_gf256.proofs.Logarithms.{power_in_table, power-modulo}
use Rattle.gs_gf256.proofs.field.exp.Goals as goal

pub returns : goal.returns
unfolding power_of_two
returns c =
    let below : c.args.exponent % 255 < 509 = omega arith in
    power_in_table (c.args.exponent % 255) below ∙ power-modulo c.args.exponent
