use Rattle.std.proofs.Common.{◌≡◌, true, false, rules}
use Rattle.gs_frames.specs.Image.{holds_frame}
use Rattle.gs_depack.proofs.Heads.{frame_of-none, head-is}
use Rattle.gs_depack.proofs.image.read_image.Goals as goal

pub returns-then-not-is_image : goal.returns-then-not-is_image
returns-then-not-is_image c =
    let fails : holds_frame c.args.payload c.args.image.now ≡ false = search rules in
    frame_of-none c.args.payload c.args.image.now fails

pub returns : goal.returns
returns c =
    let passes : holds_frame c.from-payload.result c.args.image.now ≡ true = search rules in
    head-is c.args.payload c.args.image.now c.from-payload.result c.spelled.result c.from.result (search rules) passes (search rules) (search rules)
