use Rattle.std.proofs.Common.{◌++◌, ◌∷◌, [], sym, ap, ◌∙◌, List}
use Rattle.std.specs.Arc.{arc_value}
use Rattle.gs_tape.specs.Tick.{Tick}
use Rattle.gs_capture.specs.Captures.{Capture}
use Rattle.gs_capture.proofs.Keeping.{follows_pushed, ok_of}
use Rattle.gs_capture.proofs.recorder.append.Goals as goal

pub publish-writer-requires : goal.publish-writer-requires
publish-writer-requires g c =
    let is = c.published.ensures in
    let book = c.in-Some.ensures.0 ∙ (c.front.ensures.0 ∙ ap (λ (x : Capture). x.book) is) in
    let ticks = c.front.ensures.1 ∙ (ap (λ (x : Capture). x.history) is ∙ c.requires.history.1) in
    let log = c.in-Some.ensures.1 ∙ ap (λ (l : List Tick). l ++ arc_value c.args.tick ∷ []) ticks in
    ok_of _ _ c.append.result (sym c.is_err.ensures.value ∙ c.if-is_err.false) c.append.ensures.pending
    (λ _ one. follows_pushed c.args.writer.desk.shown.value _ _ _ _ (ap (λ d. d.shown.value) c.append.ensures.desk) c.requires.pending one
    book log c.requires.tick.0 c.requires.tick.1)
