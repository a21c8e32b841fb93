use Rattle.gs_input.proofs.arguments.place_words.Goals as goal

pub returns-in_err-area-clause-none : goal.returns-in_err-area-clause-none
returns-in_err-area-clause-none c =
    rw c.from_residual-in_err-area.ensures (λ x y width height h. c.in_err-area.ensures.none width height
    ((h.0.2, h.0.3), (let a = c.in_ok-x.ensures.found.1 in let b = c.in_ok-y.ensures.found.1 in let e = h.1 in cc)))
