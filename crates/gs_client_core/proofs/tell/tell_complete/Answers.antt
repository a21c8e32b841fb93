use Rattle.std.proofs.Common.{◌≡◌, ◌∙◌, sym, rules}
use Rattle.gs_frames.specs.declared.verdict.Added.TheVariants.{FrameWhole}
use Rattle.gs_client_core.proofs.Told.{not_whole}
use Rattle.gs_client_core.proofs.tell.tell_complete.Goals as goal

pub returns-in-FrameWhole : goal.returns-in-FrameWhole
returns-in-FrameWhole c = λ client came moved has packet queue e told.
    let whole : c.args.what ≡ FrameWhole = search rules in
    c.note_whole.ensures client came moved has packet queue (sym e ∙ whole) told

pub returns-in_default : goal.returns-in_default
returns-in_default c = λ client came moved has packet queue e told.
    not_whole c.args.depack.now client came c.args.datagram.now moved told (λ whole. c.in_default.not-FrameWhole (e ∙ whole))
