use Rattle.std.proofs.Common.{◌≤◌, length, arith, ◌∙◌}
use Rattle.std.proofs.lemmas.Grind.{common_steps}
use Rattle.gs_rtsp_text.proofs.Scans.{literal_out}
use Rattle.gs_rtsp_text.proofs.scan.literal.Goals as goal

pub returns-in-None : goal.returns-in-None
returns-in-None c =
    let le : length c.args.bytes.now ≤ c.loop-i.i = grind (arith, common_steps) in
    c.loop-i.invariant.1 ∙ literal_out c.args.text.now c.args.bytes.now c.loop-i.i c.loop-i-test.true le
