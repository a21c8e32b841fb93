use Rattle.std.proofs.Common.{◌≡◌, ◌∙◌, ◌++◌, ℕ, List, ap, append_assoc}
use Rattle.std.specs.Prelude.{decimal}
use Rattle.gs_rtsp_text.proofs.write.push_code.Goals as goal

pub returns : goal.returns
returns c =
    let digits : c.as_bytes-digits.result.now ≡ decimal c.args.code = cc in
    c.in_ok-extend_from_slice-2.ensures.items
    ∙ ap (λ (xs : List ℕ). xs ++ c.as_bytes-digits.result.now) c.in_ok-extend_from_slice.ensures.items
    ∙ append_assoc c.args.out.now.items c.zeros_before.result.now c.as_bytes-digits.result.now
    ∙ ap (λ (xs : List ℕ). c.args.out.now.items ++ (c.zeros_before.result.now ++ xs)) digits
    ∙ ap (λ (xs : List ℕ). c.args.out.now.items ++ xs) c.zeros_before.ensures
