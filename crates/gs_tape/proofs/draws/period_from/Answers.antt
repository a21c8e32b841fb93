use Rattle.std.proofs.Common.{ℕ, ◌+◌, ◌%◌, List, [], ◌∷◌, ◌++◌, ap, sym, ◌∙◌}
use Rattle.gs_tape.proofs.Parts.{pattern_more}
use Rattle.gs_tape.proofs.draws.period_from.Goals as goal

pub bytes-preserved : goal.bytes-preserved
bytes-preserved c =
    c.in_ok-push.ensures.items
    ∙ ap (λ (l : List ℕ). l ++ ((c.args.base + c.bytes.i) % 251) ∷ []) c.bytes.invariant
    ∙ sym (pattern_more c.bytes.i c.args.base)
