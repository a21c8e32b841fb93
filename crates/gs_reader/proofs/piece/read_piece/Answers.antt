use Rattle.std.proofs.Common.{◌≡◌, rules}
use Rattle.gs_bytes.specs.declared.failed.Failed.TheVariants.{Fault}
use Rattle.gs_reader.proofs.BufferedLemmas.{counted_fault}
use Rattle.gs_reader.proofs.piece.read_piece.Goals as goal

pub returns-in_err-n-clause-counted : goal.returns-in_err-n-clause-counted
returns-in_err-n-clause-counted g c = λ changed.
    let is : c.in_err-n.field-0.0 ≡ Fault = counted_fault _ _ _ c.in_err-n.ensures.counted changed in
    first_of (search (rules, is), cc)
