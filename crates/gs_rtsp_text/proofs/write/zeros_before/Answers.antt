use Rattle.std.proofs.Common.{arith}
use Rattle.gs_rtsp_text.proofs.Written.{three_digits_by_one, three_digits_by_two, three_digits_by_three}
use Rattle.gs_rtsp_text.proofs.write.zeros_before.Goals as goal

pub returns-in-0-to-9 : goal.returns-in-0-to-9
returns-in-0-to-9 c = three_digits_by_one c.args.code (omega arith)

pub returns-in-10-to-99 : goal.returns-in-10-to-99
returns-in-10-to-99 c = three_digits_by_two c.args.code (omega arith) (omega arith)

pub returns-in_default : goal.returns-in_default
returns-in_default c = three_digits_by_three c.args.code (omega arith) (omega arith)
