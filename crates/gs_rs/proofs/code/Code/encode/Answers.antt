use Rattle.std.proofs.Common.{◌*◌, ◌++◌, subst, sym, ap, ◌∙◌}
use Rattle.gs_rs.specs.Codeword.{IsBlock}
use Rattle.gs_rs.proofs.Blocks.{encoded}
use Rattle.gs_rs.proofs.Differences.{bytes_from_fits}
use Rattle.gs_rs.proofs.code.Code.encode.Goals as goal

pub returns : goal.returns
returns c =
    let len = c.args.len in
    let source = c.args.source.now in
    let parity = c.encode_rows.new.parity in
    let counts = c.shape.ensures.counts in
    subst (λ code. IsBlock code len (source ++ parity)) counts
    (encoded c.shape.result len source parity c.shape.ensures.limits
    (c.requires.source_size ∙ ap (λ code. code.data * len) (sym counts))
    (c.encode_rows.auto.parity ∙ c.requires.parity_size ∙ ap (λ code. code.parity * len) (sym counts))
    (bytes_from_fits source c.type_inv.source) (bytes_from_fits parity c.type_inv.parity) c.encode_rows.ensures)
